-- Reading what was written gives it back. Section 'Stored form'.
use mathlib.Core.Path.{◌≡◌, refl, ap, ◌∙◌}
use Prim.Native.Nat.{ℕ, ◌-◌, ◌^◌, ◌≤◌, ◌<◌, max}
use mathlib.Core.List.{List, [], ◌++◌, append_assoc}
use mathlib.Core.Bool.{true, not, ◌||◌}
use native.Mathlib.Omega.{arith}
use native.Mathlib.Decide.{ℕ_discrete, dec_le}
use lib.ListN.{length, length-append}
use lib.Dec.{ltb, eqb}
use lib.Ieee.{binary32, nan_bits}
use borrow.Author.Tests.{ltb-true}
use Rattle.rules.specs.Numbers.{term_tag, phrase_tag, boolean_tag, boost_tag, constant_score_tag, match_all_tag, match_none_tag, field_tag, text_tag, minimum_tag, deep_query, Read, got, refused, on_read}
use Rattle.rules.specs.Bytes.{of_big, big, is_text, is_field, part}
use Rattle.rules.specs.Query.{Word, Kind, Numbers, Bound, Query, term, phrase, boolean, boost, constant_score, match_all, match_none, range, Clauses, none, clause, depth, depths}
use Rattle.rules.specs.Stored.{kind_tag, range_tag, encode_bound, encode_words, encode, encodes, the_nan, is_boost, ValidWords, ValidBound, Valid, Valids}
use Rattle.rules.specs.Reading.{closed, empty_in, term_in, phrase_in, range_in, boost_in, constant_score_in, added, boolean_in, is_query, body_in, decode, read_within}
use Rattle.rules.proofs.Bools.{both, and_l}
use Rattle.rules.proofs.Stored.Bigs.{read_big}
use Rattle.rules.proofs.Stored.Parts.{whole_part, body_part, rest_part, is_part_lem, whole_one, body_one, rest_one, is_one_lem}
use Rattle.rules.proofs.Stored.Tags.{is_range_lem, kind_back, is_kind_lem}
use Rattle.rules.proofs.Stored.Leaves.{words_back, is_bound_lem, bound_back, bound_rest, is_bound_one, bound_back_one, bound_rest_one}
use Rattle.rules.proofs.Stored.Steps.{boost_in_lem, boolean_in_lem, clauses_of, clauses_done, clauses_next, in_range, decode_deep, decode_in, read_within_lem}

pub boost_below : (b : ℕ) → is_boost b ≡ true → b < 2 ^ 32
boost_below b h = ltb-true b (2 ^ 32) (and_l (ltb b (2 ^ 32)) (not (nan_bits binary32 b) || eqb b the_nan) h)

-- one record, by its tag
one : (d t : ℕ) (b : List ℕ) → 1 ≤ d → is_query t ≡ true → decode d (part t b) ≡ closed (body_in (decode (d - 1)) t b) true
one d t b h k = decode_in d (part t b) (λ z. omega arith) (both (whole_one t b) k) ∙ simp (body_one t b, rest_one t b)

term_back : (f t : List ℕ) → is_field f ≡ true → is_text t ≡ true → term_in (part field_tag f ++ part text_tag t) ≡ got (term f t)
unfolding term_in
term_back f t v w =
    let r = part text_tag t in
    simp (term_in, is_part_lem field_tag f r, v, w, body_part field_tag f r, rest_part field_tag f r, is_one_lem text_tag t, body_one text_tag t, rest_one text_tag t)

phrase_back : (f : List ℕ) (ws : List Word) → is_field f ≡ true → ValidWords ws → phrase_in (part field_tag f ++ encode_words ws) ≡ got (phrase f ws)
unfolding phrase_in
phrase_back f ws v w =
    let r = encode_words ws in
    let W = words_back ws w in
    simp (phrase_in, is_part_lem field_tag f r, v, body_part field_tag f r, rest_part field_tag f r, W.0, W.1)

range_back : (n : Numbers) (f : List ℕ) (l u : Bound) → is_field f ≡ true → ValidBound l → ValidBound u
    → range_in n (part field_tag f ++ (encode_bound l ++ encode_bound u)) ≡ got (range n f l u)
unfolding range_in
range_back n f l u v x y =
    let e = encode_bound u in
    let r = encode_bound l ++ e in
    simp (range_in, is_part_lem field_tag f r, v, body_part field_tag f r, rest_part field_tag f r, is_bound_lem e l, bound_back e l x, bound_rest e l, is_bound_one u, bound_back_one u y, bound_rest_one u)

-- what nests: sub reads what stands inside
module _ (sub : List ℕ → Read Query) where
  boost_back : (b : ℕ) (e : List ℕ) → is_boost b ≡ true → boost_in sub (big 4 b ++ e) ≡ on_read (boost b) (sub e)
  boost_back b e v =
      let n : of_big (big 4 b) ≡ b = read_big 4 b (boost_below b v) in
      boost_in_lem sub (big 4 b ++ e) (omega (arith, length-append (big 4 b) e)) (ap is_boost n ∙ v) ∙ ap (λ (x : ℕ). on_read (boost x) (sub e)) n

  boolean_back : (m : ℕ) (r : List ℕ) → m < 2 ^ 16 → boolean_in sub (part minimum_tag (big 2 m) ++ r) ≡ on_read (boolean m) (clauses_of sub r)
  boolean_back m r v =
      let b = big 2 m in
      boolean_in_lem sub (part minimum_tag b ++ r) (simp (is_part_lem minimum_tag b r, body_part minimum_tag b r))
      ∙ simp (body_part minimum_tag b r, rest_part minimum_tag b r, read_big 2 m v)

  clause_back : (k : Kind) (e r : List ℕ) → clauses_of sub (part (kind_tag k) e ++ r) ≡ added k (sub e) (clauses_of sub r)
  clause_back k e r =
      clauses_next sub (part (kind_tag k) e ++ r) refl (both (whole_part (kind_tag k) e r) (is_kind_lem k))
      ∙ simp (kind_back k, body_part (kind_tag k) e r, rest_part (kind_tag k) e r)

-- a range's two bounds, taken together
pub range_form : (n : Numbers) (f : List ℕ) (l u : Bound) → encode (range n f l u) ≡ part (range_tag n) (part field_tag f ++ (encode_bound l ++ encode_bound u))
unfolding encode
range_form n f l u = ap (part (range_tag n)) (append_assoc (part field_tag f) (encode_bound l) (encode_bound u))

mutual
  unfolding encode depth Valid body_in empty_in closed constant_score_in added

  pub decode_encode : (q : Query) (d : ℕ) → Valid q → depth q ≤ d → decode d (encode q) ≡ got q
  decode_encode (term f t) d v h = one d term_tag (part field_tag f ++ part text_tag t) h refl ∙ rw (term_back f t v.0 v.1)
  decode_encode (phrase f ws) d v h = one d phrase_tag (part field_tag f ++ encode_words ws) h refl ∙ rw (phrase_back f ws v.0 v.1)
  decode_encode (boolean m cs) d v h =
      one d boolean_tag (part minimum_tag (big 2 m) ++ encodes cs) (omega arith) refl
      ∙ rw (boolean_back (decode (d - 1)) m (encodes cs) v.0, clauses_encodes cs (d - 1) v.1 (omega arith))
  decode_encode (boost b q) d v h =
      one d boost_tag (big 4 b ++ encode q) (omega arith) refl
      ∙ rw (boost_back (decode (d - 1)) b (encode q) v.0, decode_encode q (d - 1) v.1 (omega arith))
  decode_encode (constant_score q) d v h = one d constant_score_tag (encode q) (omega arith) refl ∙ rw (decode_encode q (d - 1) v (omega arith))
  decode_encode match_all d v h = one d match_all_tag [] h refl
  decode_encode match_none d v h = one d match_none_tag [] h refl
  decode_encode (range n f l u) d v h =
      let b = part field_tag f ++ (encode_bound l ++ encode_bound u) in
      ap (decode d) (range_form n f l u) ∙ one d (range_tag n) b h (is_range_lem n)
      ∙ rw (in_range (decode (d - 1)) b (range_tag n) n refl, range_back n f l u v.0 v.1 v.2)

  pub clauses_encodes : (cs : Clauses) (d : ℕ) → Valids cs → depths cs ≤ d → clauses_of (decode d) (encodes cs) ≡ got cs
  clauses_encodes none d v h = clauses_done (decode d) [] refl
  clauses_encodes (clause k q cs) d v h =
      clause_back (decode d) k (encode q) (encodes cs) ∙ rw (decode_encode q d v.0 (omega arith), clauses_encodes cs d v.1 (omega arith))

-- with the limit on the bytes before it
pub read_encode : (most d : ℕ) (q : Query) → Valid q → depth q ≤ d → length (encode q) ≤ most → read_within most d (encode q) ≡ got q
read_encode most d q v h l = read_within_lem most d (encode q) l ∙ decode_encode q d v h

-- ---- and what is too deep is refused as too deep

deep_part : (d t : ℕ) (b : List ℕ) → is_query t ≡ true → (1 ≤ d → body_in (decode (d - 1)) t b ≡ refused deep_query) → decode d (part t b) ≡ refused deep_query
unfolding closed
deep_part d t b k f = go (ℕ_discrete d 0)
  where
    go : Dec (d ≡ 0) → decode d (part t b) ≡ refused deep_query
    go (yes e) = decode_deep d (part t b) e (both (whole_one t b) k)
    go (no n) = one d t b (omega arith) k ∙ rw (f (omega arith))

deep_clause : (d : ℕ) (k : Kind) (q : Query) (cs : Clauses) → d < max (depth q) (depths cs)
    → (depth q ≤ d → decode d (encode q) ≡ got q) → (d < depth q → decode d (encode q) ≡ refused deep_query)
    → (d < depths cs → clauses_of (decode d) (encodes cs) ≡ refused deep_query) → clauses_of (decode d) (encodes (clause k q cs)) ≡ refused deep_query
unfolding encode added
deep_clause d k q cs h f g r = clause_back (decode d) k (encode q) (encodes cs) ∙ go (dec_le (depth q) d)
  where
    go : Dec (depth q ≤ d) → added k (decode d (encode q)) (clauses_of (decode d) (encodes cs)) ≡ refused deep_query
    go (yes l) = rw (f l, r (omega arith))
    go (no n) = rw (g (omega arith))

mutual
  unfolding encode depth Valid body_in constant_score_in

  pub decode_too_deep : (q : Query) (d : ℕ) → Valid q → d < depth q → decode d (encode q) ≡ refused deep_query
  decode_too_deep (term f t) d v h = deep_part d term_tag (part field_tag f ++ part text_tag t) refl (λ l. absurd (omega arith))
  decode_too_deep (phrase f ws) d v h = deep_part d phrase_tag (part field_tag f ++ encode_words ws) refl (λ l. absurd (omega arith))
  decode_too_deep (boolean m cs) d v h =
      deep_part d boolean_tag (part minimum_tag (big 2 m) ++ encodes cs) refl
      (λ l. boolean_back (decode (d - 1)) m (encodes cs) v.0 ∙ rw (clauses_too_deep cs (d - 1) v.1 (omega arith)))
  decode_too_deep (boost b q) d v h =
      deep_part d boost_tag (big 4 b ++ encode q) refl
      (λ l. boost_back (decode (d - 1)) b (encode q) v.0 ∙ rw (decode_too_deep q (d - 1) v.1 (omega arith)))
  decode_too_deep (constant_score q) d v h = deep_part d constant_score_tag (encode q) refl (λ l. rw (decode_too_deep q (d - 1) v (omega arith)))
  decode_too_deep match_all d v h = deep_part d match_all_tag [] refl (λ l. absurd (omega arith))
  decode_too_deep match_none d v h = deep_part d match_none_tag [] refl (λ l. absurd (omega arith))
  decode_too_deep (range n f l u) d v h =
      ap (decode d) (range_form n f l u)
      ∙ deep_part d (range_tag n) (part field_tag f ++ (encode_bound l ++ encode_bound u)) (is_range_lem n) (λ l. absurd (omega arith))

  pub clauses_too_deep : (cs : Clauses) (d : ℕ) → Valids cs → d < depths cs → clauses_of (decode d) (encodes cs) ≡ refused deep_query
  clauses_too_deep none d v h = absurd (omega arith)
  clauses_too_deep (clause k q cs) d v h =
      deep_clause d k q cs h (decode_encode q d v.0) (λ l. decode_too_deep q d v.0 l) (λ l. clauses_too_deep cs d v.1 l)
