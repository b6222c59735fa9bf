-- How long a text can be: far below the last place, so that no sum of places overflows. The bounds are generous.
use mathlib.Core.Path.{◌≡◌, refl}
use Prim.Native.Nat.{ℕ, suc, ◌+◌, ◌*◌, ◌≤◌, ◌<◌}
use mathlib.Core.List.{List, [], ◌∷◌, ◌++◌}
use mathlib.Core.Bool.{Bool, true, false, cond}
use native.Mathlib.Omega.{arith}
use lib.ListN.{length, length-append}
use Rattle.rules.specs.Bytes.{ascii, big}
use Rattle.rules.specs.Query.{Word, word, Kind, must, should, must_not, filter, Numbers, whole, float, Bound, unbounded, included, excluded, Query, term, phrase, boolean, boost, constant_score, match_all, match_none, range, Clauses, none, clause}
use Rattle.rules.specs.Stored.{encode, encodes, encode_words, Valid, Valids, ValidWords}
use Rattle.rules.specs.Show.{decimal, hex, is_plain, shown, shown_field, shown_words, shown_numbers, shown_bound, kind_name, no_kind, line, show, show_clauses}
use Rattle.rules.proofs.Stored.Bigs.{length_big}
use Rattle.rules.proofs.Stored.Sizes.{length_word, length_term, length_phrase, length_boolean, length_boost, length_constant_score, length_match_all, length_match_none, length_range, length_clause}
use Rattle.show.specs.Lays.{hex_byte, shown_byte}
use Rattle.show.proofs.Decimals.{decimal_long}
use Rattle.show.proofs.Texts.{shown_cons}

-- ---- pieces

hex_length : (s : List ℕ) → length (hex s) ≡ 2 * length s
unfolding hex
hex_length [] = refl
hex_length (c ∷ s) = omega (arith, hex_length s)

byte_length : (c : ℕ) → length (shown_byte c) ≤ 3
unfolding ascii hex
byte_length c = by (is_plain c)
  where
    by : (b : Bool) → length (cond b (c ∷ []) (0x5c ∷ hex_byte c)) ≤ 3
    by true = omega arith
    by false = omega arith

shown_length : (s : List ℕ) → length (shown s) ≤ 3 * length s
unfolding shown
shown_length [] = omega arith
shown_length (c ∷ s) = rw (shown_cons c s) (omega (arith, length-append (shown_byte c) (shown s), byte_length c, shown_length s))

field_length : (f : List ℕ) → length (shown_field f) ≤ 1 + 3 * length f
unfolding ascii
field_length [] = omega arith
field_length (c ∷ f) = omega (arith, shown_length (c ∷ f))

kind_length : (k : Kind) → length (kind_name k) ≤ 7
unfolding ascii
kind_length must = omega arith
kind_length should = omega arith
kind_length must_not = omega arith
kind_length filter = omega arith

words_length : (ws : List Word) → ValidWords ws → length (shown_words ws) ≤ 0x2_0000_0000 * length (encode_words ws)
unfolding shown_words ascii ValidWords
words_length [] v = omega arith
words_length (word p t ∷ ws) v =
    simp length-append (omega (arith, v.0, decimal_long p, shown_length t, words_length ws v.2, length_word p t ws))

bound_length : (b : Bound) → length (shown_bound b) ≤ 26
unfolding ascii
bound_length unbounded = omega arith
bound_length (included x) = omega (arith, hex_length (big 8 x), length_big 8 x)
bound_length (excluded x) = omega (arith, hex_length (big 8 x), length_big 8 x)

numbers_length : (n : Numbers) → length (shown_numbers n) ≤ 11
unfolding ascii
numbers_length whole = omega arith
numbers_length float = omega arith

line_length : (d : ℕ) (k s : List ℕ) → d ≤ 0x2_0000 → length k ≤ 7 → length (line d k s) ≤ 0x2_000b + length s
unfolding line ascii
line_length d k s h l = simp length-append (omega (arith, decimal_long d))

-- ---- nodes

term_length : (f t : List ℕ) → length (ascii "term " ++ shown_field f ++ ascii " " ++ shown t) ≤ 7 + 3 * length f + 3 * length t
unfolding ascii
term_length f t = simp length-append (omega (arith, field_length f, shown_length t))

phrase_length : (f : List ℕ) (ws : List Word) → ValidWords ws
    → length (ascii "phrase " ++ shown_field f ++ shown_words ws) ≤ 8 + 3 * length f + 0x2_0000_0000 * length (encode_words ws)
unfolding ascii
phrase_length f ws v = simp length-append (omega (arith, field_length f, words_length ws v))

boolean_length : (m : ℕ) → length (ascii "boolean " ++ decimal m) ≤ 9 + m
unfolding ascii
boolean_length m = omega (arith, decimal_long m)

boost_length : (b : ℕ) → length (ascii "boost " ++ hex (big 4 b)) ≤ 14
unfolding ascii
boost_length b = omega (arith, hex_length (big 4 b), length_big 4 b)

range_length : (n : Numbers) (f : List ℕ) (l u : Bound) → length (shown_numbers n ++ shown_field f ++ shown_bound l ++ shown_bound u) ≤ 64 + 3 * length f
range_length n f l u = simp length-append (omega (arith, numbers_length n, field_length f, bound_length l, bound_length u))

-- ---- queries

mutual
  unfolding show Valid ascii

  pub show_length : (q : Query) (d : ℕ) (k : List ℕ) → Valid q → d + length (encode q) ≤ 0x2_0000 → length k ≤ 7 → length (show d k q) ≤ 0x4_0000_0000 * length (encode q)
  show_length (term f t) d k v h l = omega (arith, line_length d k (ascii "term " ++ shown_field f ++ ascii " " ++ shown t) (omega arith) l, term_length f t, length_term f t)
  show_length (phrase f ws) d k v h l =
      omega (arith, line_length d k (ascii "phrase " ++ shown_field f ++ shown_words ws) (omega arith) l, phrase_length f ws v.1, length_phrase f ws)
  show_length (boolean m cs) d k v h l =
      let e = length_boolean m cs in
      let n : m < 0x1_0000 = v.0 in
      omega (arith, length-append (line d k (ascii "boolean " ++ decimal m)) (show_clauses (suc d) cs), line_length d k (ascii "boolean " ++ decimal m) (omega arith) l, boolean_length m, clauses_length cs (suc d) v.1 (omega arith))
  show_length (boost b q) d k v h l =
      let e = length_boost b q in
      omega (arith, length-append (line d k (ascii "boost " ++ hex (big 4 b))) (show (suc d) no_kind q), line_length d k (ascii "boost " ++ hex (big 4 b)) (omega arith) l, boost_length b, show_length q (suc d) no_kind v.1 (omega arith) (omega arith))
  show_length (constant_score q) d k v h l =
      let e = length_constant_score q in
      omega (arith, length-append (line d k (ascii "constantscore")) (show (suc d) no_kind q), line_length d k (ascii "constantscore") (omega arith) l, show_length q (suc d) no_kind v (omega arith) (omega arith))
  show_length match_all d k v h l = omega (arith, line_length d k (ascii "matchall") (omega arith) l, length_match_all)
  show_length match_none d k v h l = omega (arith, line_length d k (ascii "matchnone") (omega arith) l, length_match_none)
  show_length (range n f x u) d k v h l =
      omega (arith, line_length d k (shown_numbers n ++ shown_field f ++ shown_bound x ++ shown_bound u) (omega arith) l, range_length n f x u, length_range n f x u)

  pub clauses_length : (cs : Clauses) (d : ℕ) → Valids cs → d + length (encodes cs) ≤ 0x2_0000 → length (show_clauses d cs) ≤ 0x4_0000_0000 * length (encodes cs)
  clauses_length none d v h = omega arith
  clauses_length (clause k q cs) d v h =
      let e = length_clause k q cs in
      omega (arith, length-append (show d (kind_name k) q) (show_clauses d cs), show_length q d (kind_name k) v.0 (omega arith) (kind_length k), clauses_length cs d v.1 (omega arith))
