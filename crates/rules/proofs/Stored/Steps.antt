-- The reading, a step at a time, as the returns of code ask for it. Sections 'Stored form' and 'Refusal numbers', 'Rewrite order'.
use mathlib.Core.Path.{◌≡◌, refl, sym, ap, ◌∙◌}
use Prim.Native.Nat.{ℕ, zero, suc, ◌-◌, ◌≤◌, ◌<◌}
use mathlib.Core.List.{List, [], ◌∷◌}
use mathlib.Core.Bool.{true, false, ◌&&◌}
use native.Mathlib.Omega.{arith}
use native.Mathlib.Numerals.{sub-one}
use lib.ListN.{length, take, drop}
use lib.Dec.{leb, eqb}
use borrow.Author.Tests.{le-leb, lt-leb}
use Rattle.rules.specs.Numbers.{term_tag, phrase_tag, boolean_tag, boost_tag, constant_score_tag, match_all_tag, match_none_tag, text_tag, minimum_tag, number, long_query, malformed_query, deep_query, Read, got, refused, on_read}
use Rattle.rules.specs.Bytes.{of_big, is_empty, is_text, tag_of, body_of, rest_of, whole_of, is_part, is_field_part, every, each}
use Rattle.rules.specs.Query.{Numbers, whole, float, Query, term, phrase, boolean, boost, constant_score, match_all, match_none, range, Clauses, none}
use Rattle.rules.specs.Stored.{range_tag, is_boost}
use Rattle.rules.specs.Reading.{number_of, sound, closed, empty_in, term_in, is_word, word_of, phrase_in, is_bound, bound_of, range_in, boost_in, constant_score_in, is_kind, kind_of, added, clauses_in, boolean_in, is_query, body_in, decode, read_within}
use Rattle.rules.proofs.Bools.{clash, both, and_no_l, and_no_r}
use Rattle.rules.proofs.Stored.Refusals.{need_yes, need_no, on_number, closed_good, closed_more, closed_fault, added_number, added_fault}
use Rattle.rules.proofs.Stored.Rows.{enough, rest_within}

-- ---- bodies that hold no query

module _ (q : Query) (b : List ℕ) where
  pub empty_good : is_empty b ≡ true → empty_in q b ≡ got q
  unfolding empty_in
  empty_good h = rw (h, empty_in)

  pub empty_bad : is_empty b ≡ false → empty_in q b ≡ refused malformed_query
  unfolding empty_in
  empty_bad h = rw (h, empty_in)

module _ (b : List ℕ) where
  pub term_good : is_field_part b ≡ true → is_part text_tag (rest_of b) ≡ true → is_text (body_of (rest_of b)) ≡ true
      → is_empty (rest_of (rest_of b)) ≡ true → term_in b ≡ got (term (body_of b) (body_of (rest_of b)))
  unfolding term_in
  term_good f p t e = need_yes malformed_query _ (both f (both p (both t e)))

  pub term_field : is_field_part b ≡ false → term_in b ≡ refused malformed_query
  unfolding term_in
  term_field h = need_no malformed_query _ (and_no_l _ h)

  pub term_part : is_part text_tag (rest_of b) ≡ false → term_in b ≡ refused malformed_query
  unfolding term_in
  term_part h = need_no malformed_query _ (and_no_r (is_field_part b) (and_no_l _ h))

  pub term_text_lem : is_text (body_of (rest_of b)) ≡ false → term_in b ≡ refused malformed_query
  unfolding term_in
  term_text_lem h = need_no malformed_query _ (and_no_r (is_field_part b) (and_no_r (is_part text_tag (rest_of b)) (and_no_l _ h)))

  pub term_more : is_empty (rest_of (rest_of b)) ≡ false → term_in b ≡ refused malformed_query
  unfolding term_in
  term_more h = need_no malformed_query _ (and_no_r (is_field_part b) (and_no_r (is_part text_tag (rest_of b)) (and_no_r (is_text (body_of (rest_of b))) h)))

  pub phrase_good : is_field_part b ≡ true → every is_word (rest_of b) ≡ true → phrase_in b ≡ got (phrase (body_of b) (each word_of (rest_of b)))
  unfolding phrase_in
  phrase_good f w = need_yes malformed_query _ (both f w)

  pub phrase_field : is_field_part b ≡ false → phrase_in b ≡ refused malformed_query
  unfolding phrase_in
  phrase_field h = need_no malformed_query _ (and_no_l _ h)

  pub phrase_words : every is_word (rest_of b) ≡ false → phrase_in b ≡ refused malformed_query
  unfolding phrase_in
  phrase_words h = need_no malformed_query _ (and_no_r (is_field_part b) h)

module _ (n : Numbers) (b : List ℕ) where
  abbrev lower : List ℕ
  lower = rest_of b

  abbrev upper : List ℕ
  upper = rest_of lower

  pub range_good : is_field_part b ≡ true → is_bound (rest_of b) ≡ true → is_bound (rest_of (rest_of b)) ≡ true → is_empty (rest_of (rest_of (rest_of b))) ≡ true
      → range_in n b ≡ got (range n (body_of b) (bound_of (rest_of b)) (bound_of (rest_of (rest_of b))))
  unfolding range_in
  range_good f l u e = need_yes malformed_query _ (both f (both l (both u e)))

  pub range_field : is_field_part b ≡ false → range_in n b ≡ refused malformed_query
  unfolding range_in
  range_field h = need_no malformed_query _ (and_no_l _ h)

  pub range_lower : is_bound (rest_of b) ≡ false → range_in n b ≡ refused malformed_query
  unfolding range_in
  range_lower h = need_no malformed_query _ (and_no_r (is_field_part b) (and_no_l _ h))

  pub range_upper : is_bound (rest_of (rest_of b)) ≡ false → range_in n b ≡ refused malformed_query
  unfolding range_in
  range_upper h = need_no malformed_query _ (and_no_r (is_field_part b) (and_no_r (is_bound lower) (and_no_l _ h)))

  pub range_more : is_empty (rest_of (rest_of (rest_of b))) ≡ false → range_in n b ≡ refused malformed_query
  unfolding range_in
  range_more h = need_no malformed_query _ (and_no_r (is_field_part b) (and_no_r (is_bound lower) (and_no_r (is_bound upper) h)))

-- ---- bodies that hold queries

-- the clauses of a boolean, with as much fuel as there are bytes
abbrev pub clauses_of : (List ℕ → Read Query) → List ℕ → Read Clauses
clauses_of sub s = clauses_in sub (length s) s

module _ (sub : List ℕ → Read Query) where
  clauses_end : (n : ℕ) → clauses_in sub n [] ≡ got none
  unfolding clauses_in
  clauses_end zero = refl
  clauses_end (suc n) = refl

  -- what one clause makes of those that follow it
  abbrev clause_of : List ℕ → Read Clauses → Read Clauses
  clause_of s more = sound (whole_of s && is_kind (tag_of s)) (added (kind_of (tag_of s)) (sub (body_of s)) more)

  clauses_more : (n x : ℕ) (s : List ℕ) → clauses_in sub (suc n) (x ∷ s) ≡ clause_of (x ∷ s) (clauses_in sub n (rest_of (x ∷ s)))
  unfolding clauses_in
  clauses_more n x s = refl

  pub clauses_in_lem : (n : ℕ) (s : List ℕ) → length s ≤ n → clauses_in sub n s ≡ clauses_of sub s
  clauses_in_lem n s h = enough rest_of rest_within (clauses_in sub) (got none) clause_of clauses_end clauses_more n (length s) s h (omega arith)

  pub clauses_done : (s : List ℕ) → is_empty s ≡ true → clauses_of sub s ≡ got none
  clauses_done [] e = clauses_end 0
  clauses_done (x ∷ s) e = clash e refl

  clauses_step : (s : List ℕ) → is_empty s ≡ false → clauses_of sub s ≡ clause_of s (clauses_of sub (rest_of s))
  clauses_step [] e = clash refl e
  clauses_step (x ∷ s) e = clauses_more (length s) x s ∙ ap (clause_of (x ∷ s)) (clauses_in_lem (length s) (rest_of (x ∷ s)) (rest_within (length s) x s (omega arith)))

  pub clauses_bad : (s : List ℕ) → is_empty s ≡ false → (whole_of s && is_kind (tag_of s)) ≡ false → clauses_of sub s ≡ refused malformed_query
  clauses_bad s e h = clauses_step s e ∙ need_no malformed_query _ h

  pub clauses_next : (s : List ℕ) → is_empty s ≡ false → (whole_of s && is_kind (tag_of s)) ≡ true
      → clauses_of sub s ≡ added (kind_of (tag_of s)) (sub (body_of s)) (clauses_of sub (rest_of s))
  clauses_next s e h = clauses_step s e ∙ need_yes malformed_query _ h

  -- by the number of the first clause's query
  pub clauses_fault : (s : List ℕ) → is_empty s ≡ false → (whole_of s && is_kind (tag_of s)) ≡ true → (number_of (sub (body_of s)) ≡ 0 → ⊥)
      → number_of (clauses_of sub s) ≡ number_of (sub (body_of s))
  clauses_fault s e h n = ap number_of (clauses_next s e h) ∙ added_fault (kind_of (tag_of s)) (sub (body_of s)) (clauses_of sub (rest_of s)) n

  pub clauses_good : (s : List ℕ) → is_empty s ≡ false → (whole_of s && is_kind (tag_of s)) ≡ true → number_of (sub (body_of s)) ≡ 0
      → number_of (clauses_of sub s) ≡ number_of (clauses_of sub (rest_of s))
  clauses_good s e h n = ap number_of (clauses_next s e h) ∙ added_number (kind_of (tag_of s)) (sub (body_of s)) (clauses_of sub (rest_of s)) n

module _ (sub : List ℕ → Read Query) (b : List ℕ) where
  pub boolean_bad : (is_part minimum_tag b && eqb (length (body_of b)) 2) ≡ false → boolean_in sub b ≡ refused malformed_query
  unfolding boolean_in
  boolean_bad h = need_no malformed_query _ h

  pub boolean_in_lem : (is_part minimum_tag b && eqb (length (body_of b)) 2) ≡ true
      → boolean_in sub b ≡ on_read (boolean (of_big (body_of b))) (clauses_of sub (rest_of b))
  unfolding boolean_in
  boolean_in_lem h = need_yes malformed_query _ h

  pub boolean_number : (is_part minimum_tag b && eqb (length (body_of b)) 2) ≡ true → number_of (boolean_in sub b) ≡ number_of (clauses_of sub (rest_of b))
  boolean_number h = ap number_of (boolean_in_lem h) ∙ on_number (boolean (of_big (body_of b))) (clauses_of sub (rest_of b))

  pub boost_short : length b < 4 → boost_in sub b ≡ refused malformed_query
  unfolding boost_in
  boost_short h = need_no malformed_query _ (and_no_l (is_boost (of_big (take 4 b))) (lt-leb 4 (length b) h))

  pub boost_bad : is_boost (of_big (take 4 b)) ≡ false → boost_in sub b ≡ refused malformed_query
  unfolding boost_in
  boost_bad h = need_no malformed_query _ (and_no_r (leb 4 (length b)) h)

  pub boost_in_lem : 4 ≤ length b → is_boost (of_big (take 4 b)) ≡ true → boost_in sub b ≡ on_read (boost (of_big (take 4 b))) (sub (drop 4 b))
  unfolding boost_in
  boost_in_lem l h = need_yes malformed_query _ (both (le-leb 4 (length b) l) h)

  pub boost_number : 4 ≤ length b → is_boost (of_big (take 4 b)) ≡ true → number_of (boost_in sub b) ≡ number_of (sub (drop 4 b))
  boost_number l h = ap number_of (boost_in_lem l h) ∙ on_number (boost (of_big (take 4 b))) (sub (drop 4 b))

  pub constant_number : number_of (constant_score_in sub b) ≡ number_of (sub b)
  unfolding constant_score_in
  constant_number = on_number constant_score (sub b)

-- ---- a body by its tag

module _ (sub : List ℕ → Read Query) (b : List ℕ) (t : ℕ) where
  pub in_term : t ≡ term_tag → body_in sub t b ≡ term_in b
  unfolding body_in
  in_term e = rw e

  pub in_phrase : t ≡ phrase_tag → body_in sub t b ≡ phrase_in b
  unfolding body_in
  in_phrase e = rw e

  pub in_boolean : t ≡ boolean_tag → body_in sub t b ≡ boolean_in sub b
  unfolding body_in
  in_boolean e = rw e

  pub in_boost : t ≡ boost_tag → body_in sub t b ≡ boost_in sub b
  unfolding body_in
  in_boost e = rw e

  pub in_constant_score : t ≡ constant_score_tag → body_in sub t b ≡ constant_score_in sub b
  unfolding body_in
  in_constant_score e = rw e

  pub in_match_all : t ≡ match_all_tag → body_in sub t b ≡ empty_in match_all b
  unfolding body_in
  in_match_all e = rw e

  pub in_match_none : t ≡ match_none_tag → body_in sub t b ≡ empty_in match_none b
  unfolding body_in
  in_match_none e = rw e

  pub in_range : (n : Numbers) → t ≡ range_tag n → body_in sub t b ≡ range_in n b
  unfolding body_in
  in_range whole e = rw e
  in_range float e = rw e

-- ---- a query

pub decode_bad : (d : ℕ) (s : List ℕ) → (whole_of s && is_query (tag_of s)) ≡ false → decode d s ≡ refused malformed_query
unfolding decode
decode_bad zero s h = need_no malformed_query _ h
decode_bad (suc d) s h = need_no malformed_query _ h

pub decode_deep : (d : ℕ) (s : List ℕ) → d ≡ 0 → (whole_of s && is_query (tag_of s)) ≡ true → decode d s ≡ refused deep_query
unfolding decode
decode_deep zero s e h = need_yes malformed_query _ h
decode_deep (suc d) s e h = absurd (omega arith)

pub decode_in : (d : ℕ) (s : List ℕ) → (d ≡ 0 → ⊥) → (whole_of s && is_query (tag_of s)) ≡ true
    → decode d s ≡ closed (body_in (decode (d - 1)) (tag_of s) (body_of s)) (is_empty (rest_of s))
unfolding decode
decode_in zero s n h = absurd (n refl)
decode_in (suc d) s n h = rw (sub-one (suc d)) (need_yes malformed_query _ h)

-- with the limit on the bytes before it
pub read_long : (most d : ℕ) (s : List ℕ) → most < length s → read_within most d s ≡ refused long_query
read_long most d s h = need_no long_query (decode d s) (lt-leb (length s) most h)

pub read_within_lem : (most d : ℕ) (s : List ℕ) → length s ≤ most → read_within most d s ≡ decode d s
read_within_lem most d s h = need_yes long_query (decode d s) (le-leb (length s) most h)

-- the returns of a reader once the body is read: r is the body's number
module _ (d : ℕ) (s : List ℕ) (r : ℕ) (some : d ≡ 0 → ⊥) (ok : (whole_of s && is_query (tag_of s)) ≡ true) (b : List ℕ) (eb : b ≡ body_of s)
    (e : r ≡ number_of (body_in (decode (d - 1)) (tag_of s) b)) where
  abbrev inner : Read Query
  inner = body_in (decode (d - 1)) (tag_of s) (body_of s)

  inner_number : number_of inner ≡ r
  inner_number = sym (e ∙ ap (λ (l : List ℕ). number_of (body_in (decode (d - 1)) (tag_of s) l)) eb)

  by_number : {n : ℕ} → number_of (closed inner (is_empty (rest_of s))) ≡ n → n ≡ number_of (decode d s)
  by_number h = sym (ap number_of (decode_in d s some ok) ∙ h)

  pub read_fault : (r ≡ 0 → ⊥) → r ≡ number_of (decode d s)
  read_fault n = by_number (closed_fault inner (is_empty (rest_of s)) (λ z. n (sym inner_number ∙ z)) ∙ inner_number)

  pub read_good : r ≡ 0 → is_empty (rest_of s) ≡ true → 0 ≡ number_of (decode d s)
  read_good z h = by_number (closed_good inner (is_empty (rest_of s)) (inner_number ∙ z) h)

  pub read_more : r ≡ 0 → is_empty (rest_of s) ≡ false → number malformed_query ≡ number_of (decode d s)
  read_more z h = by_number (closed_more inner (is_empty (rest_of s)) (inner_number ∙ z) h)
