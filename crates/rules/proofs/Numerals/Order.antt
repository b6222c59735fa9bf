-- How two numbers compare, and what that says of a quotient rounded to the nearest whole number. Assumes nothing.
use mathlib.Core.Path.{◌≡◌, refl, subst}
use mathlib.Core.Logic.{◌⊎◌, inl, inr}
use mathlib.Core.Bool.{Bool, true, false, not}
use Prim.Native.Nat.{ℕ, suc, ◌+◌, ◌%◌, ◌≤◌, ◌<◌, compare, Ordering}
use native.Mathlib.Nat.{eq-or-lt_of_le}
use native.Mathlib.Omega.{arith}
use lib.Dec.{T, leb, is_le, compare_is_eq, eqb, leb→le, nleb→lt, eqb→eq, eqb_refl}
use lib.Arith.{lt_of_le-ne}
use lib.Ieee.{nearest}

pub tri : (x y : ℕ) → (x < y) ⊎ ((x ≡ y) ⊎ (y < x))
tri x y = elim (yes_or_no (leb x y)) [
  | inl t ↦ elim (eq-or-lt_of_le (leb→le x y t)) [ inl e ↦ inr (inl e) | inr l ↦ inl l ]
  | inr t ↦ inr (inr (nleb→lt x y t))
]
  where
    yes_or_no : (a : Bool) → T a ⊎ T (not a)
    yes_or_no true = inl tt
    yes_or_no false = inr tt

-- ---- what `compare` says
abbrev Cmp : Ordering → ℕ → ℕ → Type 0
Cmp Ordering.lt a b = a < b
Cmp Ordering.eq a b = a ≡ b
Cmp Ordering.gt a b = b < a

cmp : (a b : ℕ) → Cmp (compare a b) a b
cmp a b = go (compare a b) (leb→le a b) (nleb→lt a b) (eqb→eq a b) (λ (e : a ≡ b). subst (λ (x : ℕ). T (eqb a x)) e (eqb_refl a))
  where
    go : (o : Ordering) → (T (is_le o) → a ≤ b) → (T (not (is_le o)) → b < a) → (T (compare_is_eq o) → a ≡ b) → (a ≡ b → T (compare_is_eq o)) → Cmp o a b
    go Ordering.lt h k e n = lt_of_le-ne (h tt) n
    go Ordering.eq h k e n = e tt
    go Ordering.gt h k e n = k tt

pub near_lt : (q a b : ℕ) → a < b → nearest q (compare a b) ≡ q
near_lt q a b h = go (compare a b) (cmp a b)
  where
    go : (o : Ordering) → Cmp o a b → nearest q o ≡ q
    go Ordering.lt k = refl
    go Ordering.eq k = let z : ⊥ = omega arith in absurd z
    go Ordering.gt k = let z : ⊥ = omega arith in absurd z

pub near_eq : (q a b : ℕ) → a ≡ b → nearest q (compare a b) ≡ q + q % 2
near_eq q a b h = go (compare a b) (cmp a b)
  where
    go : (o : Ordering) → Cmp o a b → nearest q o ≡ q + q % 2
    go Ordering.lt k = let z : ⊥ = omega arith in absurd z
    go Ordering.eq k = refl
    go Ordering.gt k = let z : ⊥ = omega arith in absurd z

pub near_gt : (q a b : ℕ) → b < a → nearest q (compare a b) ≡ q + 1
near_gt q a b h = go (compare a b) (cmp a b)
  where
    go : (o : Ordering) → Cmp o a b → nearest q o ≡ q + 1
    go Ordering.lt k = let z : ⊥ = omega arith in absurd z
    go Ordering.eq k = let z : ⊥ = omega arith in absurd z
    go Ordering.gt k = next q
      where
        next : (q : ℕ) → suc q ≡ q + 1
        next q = omega arith
