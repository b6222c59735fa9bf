-- How long stored forms are, and that they are bytes where their lengths fit. Section 'Stored form'.
use mathlib.Core.Path.{◌≡◌, refl, ap, ◌∙◌}
use Prim.Native.Nat.{ℕ, ◌+◌, ◌≤◌, ◌<◌}
use mathlib.Core.List.{List, [], ◌∷◌, ◌++◌}
use mathlib.Core.Bool.{true}
use native.Mathlib.Omega.{arith}
use lib.ListN.{length, length-append}
use lib.Dec.{leb}
use borrow.Author.Tests.{leb-true}
use Rattle.rules.specs.Numbers.{field_most, field_tag, text_tag, word_tag, minimum_tag, open_tag, included_tag, excluded_tag, term_tag, phrase_tag, boolean_tag, boost_tag, constant_score_tag, match_all_tag, match_none_tag}
use Rattle.rules.specs.Bytes.{Bytes, big, is_text, is_field, part}
use Rattle.rules.specs.Query.{Word, word, Kind, must, should, must_not, filter, Numbers, whole, float, Bound, unbounded, included, excluded, Query, term, phrase, boolean, boost, constant_score, match_all, match_none, range, Clauses, none, clause}
use Rattle.rules.specs.Stored.{kind_tag, range_tag, encode_bound, encode_words, encode, encodes, ValidWords, Valid, Valids}
use Rattle.rules.proofs.Bools.{and_l, and_r}
use Rattle.rules.proofs.Stored.Bigs.{bytes_big}
use Rattle.rules.proofs.Stored.Parts.{length_part, bytes_append, bytes_part, bytes_text}
use Rattle.rules.proofs.Stored.Inverse.{range_form}

-- ---- lengths

pub length_word : (p : ℕ) (t : List ℕ) (ws : List Word) → length (encode_words (word p t ∷ ws)) ≡ 7 + length t + length (encode_words ws)
unfolding encode_words
length_word p t ws = omega (arith, length_part word_tag (big 4 p ++ t) (encode_words ws))

pub length_bound : (b : Bound) → (3 ≤ length (encode_bound b)) × (length (encode_bound b) ≤ 11)
length_bound unbounded = omega arith
length_bound (included x) = omega arith
length_bound (excluded x) = omega arith

pub length_term : (f t : List ℕ) → length (encode (term f t)) ≡ 9 + length f + length t
unfolding encode
length_term f t = omega (arith, length_part field_tag f (part text_tag t))

pub length_phrase : (f : List ℕ) (ws : List Word) → length (encode (phrase f ws)) ≡ 6 + length f + length (encode_words ws)
unfolding encode
length_phrase f ws = omega (arith, length_part field_tag f (encode_words ws))

pub length_boolean : (m : ℕ) (cs : Clauses) → length (encode (boolean m cs)) ≡ 8 + length (encodes cs)
unfolding encode
length_boolean m cs = omega arith

pub length_boost : (b : ℕ) (q : Query) → length (encode (boost b q)) ≡ 7 + length (encode q)
unfolding encode
length_boost b q = omega arith

pub length_constant_score : (q : Query) → length (encode (constant_score q)) ≡ 3 + length (encode q)
unfolding encode
length_constant_score q = omega arith

pub length_match_all : length (encode match_all) ≡ 3
unfolding encode
length_match_all = refl

pub length_match_none : length (encode match_none) ≡ 3
unfolding encode
length_match_none = refl

pub length_range : (n : Numbers) (f : List ℕ) (l u : Bound)
    → length (encode (range n f l u)) ≡ 6 + length f + length (encode_bound l) + length (encode_bound u)
length_range n f l u =
    ap length (range_form n f l u) ∙ omega (arith, length_part field_tag f (encode_bound l ++ encode_bound u), length-append (encode_bound l) (encode_bound u))

pub length_none : length (encodes none) ≡ 0
unfolding encode
length_none = refl

pub length_clause : (k : Kind) (q : Query) (cs : Clauses) → length (encodes (clause k q cs)) ≡ 3 + length (encode q) + length (encodes cs)
unfolding encode
length_clause k q cs = length_part (kind_tag k) (encode q) (encodes cs)

-- every record has a header
pub length_encode : (q : Query) → 3 ≤ length (encode q)
unfolding encode
length_encode (term f t) = omega arith
length_encode (phrase f ws) = omega arith
length_encode (boolean m cs) = omega arith
length_encode (boost b q) = omega arith
length_encode (constant_score q) = omega arith
length_encode match_all = omega arith
length_encode match_none = omega arith
length_encode (range n f l u) = omega arith

-- ---- bytes

field_bytes : (f : List ℕ) → is_field f ≡ true → Bytes (part field_tag f)
field_bytes f v =
    let l = leb-true (length f) field_most (and_l (leb (length f) field_most) (is_text f) v) in
    bytes_part field_tag f (omega arith) (omega arith) (bytes_text f (and_r (leb (length f) field_most) (is_text f) v))

bound_bytes : (b : Bound) → Bytes (encode_bound b)
bound_bytes unbounded = bytes_part open_tag [] (omega arith) (omega arith) (bytes_big 0 0)
bound_bytes (included x) = bytes_part included_tag (big 8 x) (omega arith) (omega arith) (bytes_big 8 x)
bound_bytes (excluded x) = bytes_part excluded_tag (big 8 x) (omega arith) (omega arith) (bytes_big 8 x)

words_bytes : (ws : List Word) → ValidWords ws → length (encode_words ws) < 65536 → Bytes (encode_words ws)
unfolding encode_words ValidWords
words_bytes [] v l = bytes_big 0 0
words_bytes (word p t ∷ ws) v l =
    let b = big 4 p ++ t in
    let n = length_word p t ws in
    bytes_append (part word_tag b) (encode_words ws)
    (bytes_part word_tag b (omega arith) (omega arith) (bytes_append (big 4 p) t (bytes_big 4 p) (bytes_text t v.1)))
    (words_bytes ws v.2 (omega arith))

kind_byte : (k : Kind) → kind_tag k < 256
kind_byte must = omega arith
kind_byte should = omega arith
kind_byte must_not = omega arith
kind_byte filter = omega arith

range_byte : (n : Numbers) → range_tag n < 256
range_byte whole = omega arith
range_byte float = omega arith

-- the body of a record that is not too long fits its header
mutual
  unfolding encode Valid

  pub bytes_encode : (q : Query) → Valid q → length (encode q) < 3 + 65536 → Bytes (encode q)
  bytes_encode (term f t) v l =
      let n = length_term f t in
      bytes_part term_tag (part field_tag f ++ part text_tag t) (omega arith) (omega arith)
      (bytes_append (part field_tag f) (part text_tag t) (field_bytes f v.0) (bytes_part text_tag t (omega arith) (omega arith) (bytes_text t v.1)))
  bytes_encode (phrase f ws) v l =
      let n = length_phrase f ws in
      bytes_part phrase_tag (part field_tag f ++ encode_words ws) (omega arith) (omega arith)
      (bytes_append (part field_tag f) (encode_words ws) (field_bytes f v.0) (words_bytes ws v.1 (omega arith)))
  bytes_encode (boolean m cs) v l =
      bytes_part boolean_tag (part minimum_tag (big 2 m) ++ encodes cs) (omega arith) (omega arith)
      (bytes_append (part minimum_tag (big 2 m)) (encodes cs) (bytes_part minimum_tag (big 2 m) (omega arith) (omega arith) (bytes_big 2 m)) (bytes_encodes cs v.1 (omega arith)))
  bytes_encode (boost b q) v l =
      bytes_part boost_tag (big 4 b ++ encode q) (omega arith) (omega arith) (bytes_append (big 4 b) (encode q) (bytes_big 4 b) (bytes_encode q v.1 (omega arith)))
  bytes_encode (constant_score q) v l = bytes_part constant_score_tag (encode q) (omega arith) (omega arith) (bytes_encode q v (omega arith))
  bytes_encode match_all v l = bytes_part match_all_tag [] (omega arith) (omega arith) (bytes_big 0 0)
  bytes_encode match_none v l = bytes_part match_none_tag [] (omega arith) (omega arith) (bytes_big 0 0)
  bytes_encode (range n f l u) v h =
      bytes_part (range_tag n) (part field_tag f ++ encode_bound l ++ encode_bound u) (range_byte n) (omega arith)
      (bytes_append (part field_tag f ++ encode_bound l) (encode_bound u) (bytes_append (part field_tag f) (encode_bound l) (field_bytes f v.0) (bound_bytes l)) (bound_bytes u))

  bytes_encodes : (cs : Clauses) → Valids cs → length (encodes cs) < 65536 → Bytes (encodes cs)
  bytes_encodes none v l = bytes_big 0 0
  bytes_encodes (clause k q cs) v l =
      let n = length_clause k q cs in
      bytes_append (part (kind_tag k) (encode q)) (encodes cs)
      (bytes_part (kind_tag k) (encode q) (kind_byte k) (omega arith) (bytes_encode q v.0 (omega arith)))
      (bytes_encodes cs v.1 (omega arith))
