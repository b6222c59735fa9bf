-- Verdicts on what the reader reads, by the tests on the way. `sub` reads what stands inside, and `g` is what is said of sound bytes.
use mathlib.Core.Path.{◌≡◌, refl, sym, ap, ◌∙◌}
use Prim.Native.Nat.{ℕ, ◌-◌, ◌%◌, ◌^◌, ◌≤◌, ◌<◌}
use mathlib.Core.List.{List}
use mathlib.Core.Bool.{Bool, true, false, not, ◌||◌, cond}
use native.Mathlib.Omega.{arith}
use lib.ListN.{length, take, drop}
use lib.Dec.{ltb, eqb}
use lib.Ieee.{binary32}
use lib.Ieee.Bits.{nan_bits_above}
use borrow.Author.Tests.{lt-ltb, le-ltb, ne_eqb, eqb-true, eqb-false}
use Rattle.std.specs.Prelude.{Ok, Err}
use Rattle.names.specs.Refusals.{checked}
use Rattle.names.specs.declared.refusal.Refusal.TheVariants.{DeepQuery, LongQuery}
use Rattle.rules.specs.Numbers.{term_tag, phrase_tag, boolean_tag, boost_tag, constant_score_tag, match_all_tag, match_none_tag, whole_range_tag, field_tag, open_tag, included_tag, excluded_tag, malformed_query, Read, got, refused, on_read}
use Rattle.rules.specs.Bytes.{of_big, is_empty, tag_of, body_of, rest_of, whole_of, is_field_part}
use Rattle.rules.specs.Query.{whole, float, Query, match_all, match_none, boolean, boost, constant_score, clause}
use Rattle.rules.specs.Stored.{the_nan, is_boost}
use Rattle.rules.specs.Reading.{sound, closed, empty_in, term_in, phrase_in, is_bound, range_in, boost_in, constant_score_in, kind_of, added, boolean_in, body_in, decode, read_within}
use Rattle.rules.proofs.Stored.Parts.{field_is, part_is}
use Rattle.rules.proofs.Stored.Leaves.{BoundIs, is_open_lem, is_included, is_excluded, bound_is}
use Rattle.rules.proofs.Stored.Refusals.{need_yes, need_no}
use Rattle.rules.proofs.Stored.Steps.{clauses_of, clauses_done, clauses_bad, clauses_next, boolean_bad, boolean_in_lem, decode_bad, decode_deep, decode_in, read_long, read_within_lem}
use Rattle.stored.specs.Read.{Verdict, verdict, bad, said_as, is_term, is_phrase, is_range, is_leaf, is_minimum, is_clause, is_record, is_boosted, after}

-- ---- parts that passed a test are whole

pub field_whole : (s : List ℕ) → is_field_part s ≡ true → whole_of s ≡ true
field_whole s h = (part_is field_tag s (field_is s h).0).0

pub bound_whole : (s : List ℕ) → is_bound s ≡ true → whole_of s ≡ true
bound_whole s h = go (bound_is s h)
  where
    go : BoundIs s → whole_of s ≡ true
    go (is_open_lem i e) = (part_is open_tag s i).0
    go (is_included i l) = (part_is included_tag s i).0
    go (is_excluded i l) = (part_is excluded_tag s i).0

-- ---- boosts: one comparison, and the one NaN

abbrev infinity : ℕ
infinity = 0x7f80_0000

boost_is : (b : ℕ) → b < 2 ^ 32 → is_boost b ≡ (not (ltb infinity (b % 0x8000_0000)) || eqb b the_nan)
boost_is b h = rw (lt-ltb b (2 ^ 32) h, nan_bits_above binary32 b)

pub boost_number : (b : ℕ) → b < 2 ^ 32 → b % 0x8000_0000 ≤ infinity → true ≡ is_boost b
boost_number b h l = sym (boost_is b h ∙ rw (le-ltb infinity (b % 0x8000_0000) l))

pub boost_nan : (b : ℕ) → b < 2 ^ 32 → infinity < b % 0x8000_0000 → eqb b the_nan ≡ is_boost b
boost_nan b h l = sym (boost_is b h ∙ rw (lt-ltb infinity (b % 0x8000_0000) l))

-- ---- a verdict

module _ {A : Type 0} where
  pub verdict_checked : (o : Read A) → verdict (Ok tt) o ≡ checked o
  verdict_checked (got a) = refl
  verdict_checked (refused r) = refl

module _ (g : Verdict) where
  verdict_on : {A B : Type 0} (f : A → B) (o : Read A) → verdict g (on_read f o) ≡ verdict g o
  verdict_on f (got a) = refl
  verdict_on f (refused r) = refl

  verdict_sound : (c : Bool) (q : Query) → verdict g (sound c (got q)) ≡ said_as c g
  verdict_sound true q = refl
  verdict_sound false q = refl

  verdict_closed : (o : Read Query) (e : Bool) → verdict g (closed o e) ≡ verdict (said_as e g) o
  unfolding closed
  verdict_closed (got q) true = refl
  verdict_closed (got q) false = refl
  verdict_closed (refused r) e = refl

  -- ---- a body that holds no query

  abbrev leaf_of : List ℕ → Bool → Bool → Bool → Bool → Bool → Read Query
  leaf_of b t p a n w = cond t (term_in b) (cond p (phrase_in b) (cond a (empty_in match_all b) (cond n (empty_in match_none b) (cond w (range_in whole b) (range_in float b)))))

  leaf_said : (b : List ℕ) (t p a n w : Bool)
      → said_as (cond t (is_term b) (cond p (is_phrase b) (cond a (is_empty b) (cond n (is_empty b) (is_range b))))) g ≡ verdict g (leaf_of b t p a n w)
  unfolding term_in phrase_in empty_in range_in
  leaf_said b true p a n w = sym (verdict_sound (is_term b) _)
  leaf_said b false true a n w = sym (verdict_sound (is_phrase b) _)
  leaf_said b false false true n w = sym (verdict_sound (is_empty b) _)
  leaf_said b false false false true w = sym (verdict_sound (is_empty b) _)
  leaf_said b false false false false true = sym (verdict_sound (is_range b) _)
  leaf_said b false false false false false = sym (verdict_sound (is_range b) _)

  module _ (sub : List ℕ → Read Query) where
    pub inside_leaf : (t : ℕ) (b : List ℕ) → (t ≡ boolean_tag → ⊥) → (t ≡ boost_tag → ⊥) → (t ≡ constant_score_tag → ⊥)
        → said_as (is_leaf t b) g ≡ verdict g (body_in sub t b)
    unfolding body_in
    inside_leaf t b x y z =
        rw (ne_eqb t boolean_tag x, ne_eqb t boost_tag y, ne_eqb t constant_score_tag z, body_in)
        (leaf_said b (eqb t term_tag) (eqb t phrase_tag) (eqb t match_all_tag) (eqb t match_none_tag) (eqb t whole_range_tag))

    -- ---- bodies that nest

    pub constant_verdict : (b : List ℕ) → verdict g (constant_score_in sub b) ≡ verdict g (sub b)
    unfolding constant_score_in
    constant_verdict b = verdict_on constant_score (sub b)

    module _ (b : List ℕ) where
      pub boost_is_bad : is_boosted b ≡ false → verdict g (boost_in sub b) ≡ bad
      unfolding boost_in
      boost_is_bad h = ap (verdict g) (need_no malformed_query _ h)

      pub boost_verdict : is_boosted b ≡ true → verdict g (boost_in sub b) ≡ verdict g (sub (drop 4 b))
      unfolding boost_in
      boost_verdict h = ap (verdict g) (need_yes malformed_query _ h) ∙ verdict_on (boost (of_big (take 4 b))) (sub (drop 4 b))

      pub boolean_is_bad : is_minimum b ≡ false → verdict g (boolean_in sub b) ≡ bad
      boolean_is_bad h = ap (verdict g) (boolean_bad sub b h)

      pub boolean_verdict : is_minimum b ≡ true → verdict g (boolean_in sub b) ≡ verdict g (clauses_of sub (rest_of b))
      boolean_verdict h = ap (verdict g) (boolean_in_lem sub b h) ∙ verdict_on (boolean (of_big (body_of b))) (clauses_of sub (rest_of b))

    -- ---- clauses, the first of them by its number r

    pub clauses_end : (s : List ℕ) → is_empty s ≡ true → verdict g (clauses_of sub s) ≡ g
    clauses_end s e = ap (verdict g) (clauses_done sub s e)

    pub clauses_are_bad : (s : List ℕ) → is_empty s ≡ false → is_clause s ≡ false → verdict g (clauses_of sub s) ≡ bad
    clauses_are_bad s e h = ap (verdict g) (clauses_bad sub s e h)

    added_after : (s : List ℕ) (o : Read Query) → verdict g (added (kind_of (tag_of s)) o (clauses_of sub (rest_of s))) ≡ after (verdict (Ok tt) o) (verdict g (clauses_of sub (rest_of s)))
    unfolding added
    added_after s (got q) = verdict_on (clause (kind_of (tag_of s)) q) (clauses_of sub (rest_of s))
    added_after s (refused r) = refl

    -- the first clause, and then the others
    pub clause_after : (s : List ℕ) → is_empty s ≡ false → is_clause s ≡ true
        → verdict g (clauses_of sub s) ≡ after (verdict (Ok tt) (sub (body_of s))) (verdict g (clauses_of sub (rest_of s)))
    clause_after s e h = ap (verdict g) (clauses_next sub s e h) ∙ added_after s (sub (body_of s))

-- ---- a record

module _ (g : Verdict) (d : ℕ) (s : List ℕ) where
  pub record_bad : is_record s ≡ false → verdict g (decode d s) ≡ bad
  record_bad h = ap (verdict g) (decode_bad d s h)

  pub record_deep : d ≡ 0 → is_record s ≡ true → verdict g (decode d s) ≡ Err DeepQuery
  record_deep z h = ap (verdict g) (decode_deep d s z h)

  pub record_in : (d ≡ 0 → ⊥) → is_record s ≡ true
      → verdict g (decode d s) ≡ verdict (said_as (is_empty (rest_of s)) g) (body_in (decode (d - 1)) (tag_of s) (body_of s))
  record_in n h = ap (verdict g) (decode_in d s n h) ∙ verdict_closed g (body_in (decode (d - 1)) (tag_of s) (body_of s)) (is_empty (rest_of s))

-- ---- a whole query

pub whole_long : (most d : ℕ) (s : List ℕ) → most < length s → Err LongQuery ≡ checked (read_within most d s)
whole_long most d s h = sym (ap checked (read_long most d s h))

pub whole_in : (most d : ℕ) (s : List ℕ) (r : Verdict) → length s ≤ most → verdict (Ok tt) (decode d s) ≡ r → r ≡ checked (read_within most d s)
whole_in most d s r h e = sym e ∙ verdict_checked (decode d s) ∙ sym (ap checked (read_within_lem most d s h))

-- ---- what is left of a row of parts

module _ (s : List ℕ) {r : Bool} (e : r ≡ eqb (length s) 0) where
  pub some_left : r ≡ false → 0 < length s
  some_left h = omega (arith, eqb-false (length s) 0 (sym e ∙ h))

  pub none_left : r ≡ true → length s ≤ 0
  none_left h = omega (arith, eqb-true (length s) 0 (sym e ∙ h))
