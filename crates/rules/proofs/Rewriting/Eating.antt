-- The merging of clauses in their place gives what the merging as it is defined gives. Section 'One round of rewriting'.
use mathlib.Core.Path.{◌≡◌, refl, ap, ◌∙◌}
use Prim.Native.Nat.{ℕ, ◌≤◌}
use mathlib.Core.Bool.{Bool, true, false, cond}
use native.Mathlib.Omega.{arith}
use lib.Ieee.{Float}
use Rattle.rules.specs.Query.{Kind, Query, boolean, Clauses, none, clause, equal}
use Rattle.rules.specs.Floats.{plus}
use Rattle.rules.specs.Rewriting.{summable, stands_for, boost_of, Merged, empty, merged, add_merged, merge_onto, reboosted, clauses_of, merged_boolean, clause_counts}
use Rattle.rules.specs.Eating.{held, eats, own_sum, fed, sum_eaten, stayed, merged_clauses}
use Rattle.rules.proofs.Bools.{clash, and_l}
use Rattle.rules.proofs.Rewriting.Kinds.{stands_same}
use Rattle.rules.proofs.Rewriting.Merging.{add_empty, add_merged_lem}

-- ---- the law

module _ (strict : Bool) (m : ℕ) where
  -- the first merged clause sees every clause before the others do
  merge_first : (k : Kind) (h : Query) (cs : Clauses) (s : Float) (ms : Merged)
      → merge_onto strict m (merged k h s ms) cs ≡ merged k h (sum_eaten strict m k h s cs) (merge_onto strict m ms (stayed strict m k h cs))
  unfolding merge_onto sum_eaten stayed
  merge_first k h none s ms = refl
  merge_first k h (clause j p cs) s ms = rw add_merged_lem (go (eats strict m k h j p) (merge_first k h cs (fed m j p s) ms) (merge_first k h cs s (add_merged strict m j p ms)))
    where
      go : (b : Bool)
          → merge_onto strict m (merged k h (fed m j p s) ms) cs ≡ merged k h (sum_eaten strict m k h (fed m j p s) cs) (merge_onto strict m ms (stayed strict m k h cs))
          → merge_onto strict m (merged k h s (add_merged strict m j p ms)) cs ≡ merged k h (sum_eaten strict m k h s cs) (merge_onto strict m (add_merged strict m j p ms) (stayed strict m k h cs))
          → merge_onto strict m (cond b (merged k h (fed m j p s) ms) (merged k h s (add_merged strict m j p ms))) cs
          ≡ merged k h (sum_eaten strict m k h (cond b (fed m j p s) s) cs) (merge_onto strict m ms (cond b (stayed strict m k h cs) (clause j p (stayed strict m k h cs))))
      go true x y = x
      go false x y = y

  pub merged_none : merged_clauses strict m none ≡ none
  unfolding merged_clauses merge_onto clauses_of
  merged_none = refl

  pub merged_first : (k : Kind) (q : Query) (cs : Clauses)
      → merged_clauses strict m (clause k q cs)
      ≡ clause k (reboosted k (held m k q) (sum_eaten strict m k (held m k q) (own_sum m k q) cs)) (merged_clauses strict m (stayed strict m k (held m k q) cs))
  unfolding merged_clauses merge_onto clauses_of
  merged_first k q cs = rw (add_empty, merge_first k (held m k q) cs (own_sum m k q) empty)

  pub boolean_merged : (cs : Clauses) → merged_boolean strict m cs ≡ boolean m (merged_clauses strict m cs)
  unfolding merged_boolean merged_clauses
  boolean_merged cs = refl

-- ---- what is left is no more than there was

module _ (strict : Bool) (m : ℕ) (k : Kind) (h : Query) where
  pub stayed_count : (cs : Clauses) → clause_counts (stayed strict m k h cs) ≤ clause_counts cs
  unfolding stayed clause_counts
  stayed_count none = omega arith
  stayed_count (clause j p cs) = go (eats strict m k h j p) (stayed_count cs)
    where
      go : (b : Bool) → clause_counts (stayed strict m k h cs) ≤ clause_counts cs → clause_counts (cond b (stayed strict m k h cs) (clause j p (stayed strict m k h cs))) ≤ clause_counts (clause j p cs)
      go true l = omega arith
      go false l = omega arith

  -- where the kind is not summed, the sum stays what it was
  pub sum_stays : (s : Float) → summable m k ≡ false → (cs : Clauses) → sum_eaten strict m k h s cs ≡ s
  unfolding sum_eaten
  sum_stays s n none = refl
  sum_stays s n (clause j p cs) =
      ap (λ (t : Float). sum_eaten strict m k h t cs) (go (eats strict m k h j p) refl (summable m j) refl (plus s (boost_of p))) ∙ sum_stays s n cs
    where
      go : (b : Bool) → eats strict m k h j p ≡ b → (c : Bool) → summable m j ≡ c → (x : Float) → cond b (cond c x s) s ≡ s
      go false e c f x = refl
      go true e false f x = refl
      go true e true f x = let z : k ≡ j = stands_same strict m k j (and_l (stands_for strict m k j) (equal h (held m j p)) e) f in clash (rw z f) n
