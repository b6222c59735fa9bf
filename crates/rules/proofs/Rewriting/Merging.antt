-- The merging of clauses: a clause is added in one way, summable or not, and merged clauses of one summable kind hold different queries. Section 'One round of rewriting'.
use mathlib.Core.Path.{◌≡◌, refl}
use Prim.Native.Nat.{ℕ}
use mathlib.Core.Bool.{Bool, true, false, ◌&&◌, cond}
use lib.Ieee.{Float}
use Rattle.rules.specs.Query.{Kind, Query, Clauses, none, clause, equal}
use Rattle.rules.specs.Floats.{one, plus}
use Rattle.rules.specs.Rewriting.{summable, stands_for, base, boost_of, Merged, empty, merged, put, add_merged, merge_onto}
use Rattle.rules.specs.Eating.{held, eats, fed}
use Rattle.rules.proofs.Bools.{clash, both}
use Rattle.rules.proofs.Stored.Equal.{equal_refl}
use Rattle.rules.proofs.Rewriting.Kinds.{stands_self}

-- ---- a clause is added

module _ (strict : Bool) (m : ℕ) (k : Kind) (q : Query) where
  pub add_empty : add_merged strict m k q empty ≡ merged k (held m k q) (cond (summable m k) (boost_of q) one) empty
  unfolding add_merged put
  add_empty = go (summable m k)
    where
      go : (b : Bool) → cond b (merged k (base q) (boost_of q) empty) (merged k q one empty) ≡ merged k (cond b (base q) q) (cond b (boost_of q) one) empty
      go true = refl
      go false = refl

  module _ (j : Kind) (h : Query) (t : Float) (ms : Merged) where
    pub add_merged_lem : add_merged strict m k q (merged j h t ms) ≡ cond (eats strict m j h k q) (merged j h (fed m k q t) ms) (merged j h t (add_merged strict m k q ms))
    unfolding add_merged put
    add_merged_lem = go (summable m k) (put strict m (λ s. plus s (boost_of q)) (boost_of q) k (base q) ms) (put strict m (λ s. s) one k q ms)
      where
        go : (b : Bool) (x y : Merged)
            → cond b (cond (stands_for strict m j k && equal h (base q)) (merged j h (plus t (boost_of q)) ms) (merged j h t x))
            (cond (stands_for strict m j k && equal h q) (merged j h t ms) (merged j h t y))
            ≡ cond (stands_for strict m j k && equal h (cond b (base q) q)) (merged j h (cond b (plus t (boost_of q)) t) ms) (merged j h t (cond b x y))
        go true x y = refl
        go false x y = refl

    -- by what is added: it is taken up here, or goes on
    pub add_by : (P : Merged → Type 0) → (eats strict m j h k q ≡ true → P (merged j h (fed m k q t) ms))
        → (eats strict m j h k q ≡ false → P (merged j h t (add_merged strict m k q ms))) → P (add_merged strict m k q (merged j h t ms))
    add_by P yes-taken not_taken = rw add_merged_lem (go (eats strict m j h k q) yes-taken not_taken)
      where
        go : (b : Bool) → (b ≡ true → P (merged j h (fed m k q t) ms)) → (b ≡ false → P (merged j h t (add_merged strict m k q ms)))
            → P (cond b (merged j h (fed m k q t) ms) (merged j h t (add_merged strict m k q ms)))
        go true f g = f refl
        go false f g = g refl

-- ---- merged clauses of one summable kind hold different queries

unfoldable pub Other : Kind → Query → Merged → Type 0
Other k p empty = Unit {0}
Other k p (merged j q t ms) = (k ≡ j → p ≡ q → ⊥) × Other k p ms

unfoldable pub AllOther : ℕ → Merged → Type 0
AllOther m empty = Unit {0}
AllOther m (merged k q t ms) = (summable m k ≡ true → Other k q ms) × AllOther m ms

module _ (strict : Bool) (m : ℕ) (k : Kind) (q : Query) where
  other_add : (j : Kind) (p : Query) → summable m j ≡ true → eats strict m j p k q ≡ false → (ms : Merged) → Other j p ms → Other j p (add_merged strict m k q ms)
  unfolding Other
  other_add j p s n empty h = rw add_empty (apart, tt)
    where
      apart : j ≡ k → p ≡ held m k q → ⊥
      apart ej ep = let c : stands_for strict m j k ≡ true = rw (← ej) (stands_self strict m j s) in clash (both c (equal_refl p (held m k q) ep)) n
  other_add j p s n (merged i o t ms) h =
      add_by strict m k q i o t ms (Other j p) (λ e. (h.0, h.1)) (λ e. (h.0, other_add j p s n ms h.1))

  pub all_other_add : (ms : Merged) → AllOther m ms → AllOther m (add_merged strict m k q ms)
  unfolding AllOther Other
  all_other_add empty h = rw add_empty ((λ s. tt), tt)
  all_other_add (merged j p t ms) h =
      add_by strict m k q j p t ms (AllOther m) (λ e. (h.0, h.1)) (λ e. ((λ s. other_add j p s e ms (h.0 s)), all_other_add ms h.1))

pub all_other_merge : (strict : Bool) (m : ℕ) (cs : Clauses) (ms : Merged) → AllOther m ms → AllOther m (merge_onto strict m ms cs)
unfolding merge_onto
all_other_merge strict m none ms h = h
all_other_merge strict m (clause k q cs) ms h = all_other_merge strict m cs (add_merged strict m k q ms) (all_other_add strict m k q ms h)
