-- `nearest` gives the one pattern that is `Nearest`, and the paper's two bounds: from (2 ^ 25 - 1) * 2 ^ 103 on it is the infinity's, to 2 ^ -150 zero's.
-- Assumes nothing.
use mathlib.Core.Path.{◌≡◌, refl, sym, ap, ◌∙◌, subst}
use mathlib.Core.Logic.{◌⊎◌, inl, inr}
use mathlib.Core.Bool.{Bool, false, cond}
use Prim.Native.Nat.{ℕ, suc, ◌+◌, ◌-◌, ◌*◌, ◌%◌, ◌^◌, ◌≤◌, ◌<◌}
use native.Mathlib.Nat.{le_refl, le_trans, le_of_eq, le_of_lt, lt_of_lt_of_le, lt_of_le_of_lt, lt_irrefl, not-le_of_lt, eq-or-lt_of_le, eq-zero-or-pos, one-mul, mul_right_comm, mul-le-mul_right, mul-lt-mul_of_pos_right, zero-add}
use native.Mathlib.Omega.{arith}
use lib.Pow.{pow_pos}
use lib.Ieee.{binary32, round, to_bits}
use Rattle.rules.specs.Numerals.{infinity, significand, units_of, Past, Nearest, nearest}
use Rattle.rules.proofs.Numerals.Middle as middle
use Rattle.rules.proofs.Numerals.Rounding.{found}

-- there is no other
pub nearest_unique : (num den p r : ℕ) → 0 < den → Nearest num den p → Nearest num den r → p ≡ r
nearest_unique num den p r D a b = middle.nearest_unique num den p r D a b

found_is : (num den : ℕ) (D : 0 < den) → (found num den D).0 ≡ nearest num den
unfolding nearest
found_is num den D = sym ((found num den D).2 false ∙ zero-add (found num den D).0)

pub nearest_is : (num den : ℕ) → 0 < den → Nearest num den (nearest num den)
nearest_is num den D = subst (λ (p : ℕ). Nearest num den p) (found_is num den D) (found num den D).1

pub is_nearest : (num den p : ℕ) → 0 < den → Nearest num den p → p ≡ nearest num den
is_nearest num den p D h = nearest_unique num den p (nearest num den) D h (nearest_is num den D)

-- `round` with either sign
pub rounded_nearest : (num den : ℕ) → 0 < den → (s : Bool) → to_bits binary32 (round binary32 s num den) ≡ cond s (2 ^ 31) 0 + nearest num den
rounded_nearest num den D s = (found num den D).2 s ∙ ap (λ (p : ℕ). cond s (2 ^ 31) 0 + p) (found_is num den D)

-- ---- the two bounds
last_middle : units_of 0x7f7f_ffff + units_of 0x7f80_0000 ≡ (2 ^ 25 - 1) * 2 ^ 103 * 2 ^ 150
unfolding significand units_of
last_middle = refl

first_middle : units_of 0 + units_of 1 ≡ 1
unfolding significand units_of
first_middle = refl

-- the last finite pattern, whose significand is odd
last_one : (j : ℕ) → suc j ≡ 0x7f80_0000 → j ≡ 0x7f7f_ffff
last_one j e = omega arith

module _ (num den : ℕ) (D : 0 < den) where
  over : (units_of 0x7f7f_ffff + units_of 0x7f80_0000) * den ≡ (2 ^ 25 - 1) * 2 ^ 103 * den * 2 ^ 150
  over = ap (λ (x : ℕ). x * den) last_middle ∙ mul_right_comm ((2 ^ 25 - 1) * 2 ^ 103) (2 ^ 150) den

  pub bound_infinity : (2 ^ 25 - 1) * 2 ^ 103 * den ≤ num → nearest num den ≡ infinity
  bound_infinity h = sym (is_nearest num den infinity D (record {
    within = le_refl infinity;
    low = λ j e. subst (λ (x : ℕ). Past (num * 2 ^ 150) den x) (sym (last_one j e)) (past (eq-or-lt_of_le (le_trans (le_of_eq over) (mul-le-mul_right (2 ^ 150) h))));
    high = λ l t. lt_irrefl infinity l;
  }))
    where
      past : (((units_of 0x7f7f_ffff + units_of 0x7f80_0000) * den ≡ num * 2 ^ 150) ⊎ ((units_of 0x7f7f_ffff + units_of 0x7f80_0000) * den < num * 2 ^ 150)) → Past (num * 2 ^ 150) den 0x7f7f_ffff
      past (inl e) = inr (e, refl)
      past (inr l) = inl l

  pub below_infinity : num < (2 ^ 25 - 1) * 2 ^ 103 * den → nearest num den < infinity
  below_infinity h = elim (eq-or-lt_of_le (nearest_is num den D).within) [
    | inl e ↦ absurd (not-le_of_lt (lt_of_lt_of_le (mul-lt-mul_of_pos_right h (pow_pos 150)) (le_of_eq (sym over))) (reach ((nearest_is num den D).low 0x7f7f_ffff (sym e))))
    | inr l ↦ l
  ]
    where
      reach : Past (num * 2 ^ 150) den 0x7f7f_ffff → (units_of 0x7f7f_ffff + units_of 0x7f80_0000) * den ≤ num * 2 ^ 150
      reach (inl a) = le_of_lt a
      reach (inr a) = le_of_eq a.0

  under : (units_of 0 + units_of 1) * den ≡ den
  under = ap (λ (x : ℕ). x * den) first_middle ∙ one-mul den

  pub bound_zero : num * 2 ^ 150 ≤ den → nearest num den ≡ 0
  bound_zero h = sym (is_nearest num den 0 D (record { within = none 0; low = λ j e. absurd (no j e); high = λ l t. absurd (not_past t) }))
    where
      none : (z : ℕ) → 0 ≤ infinity
      none z = omega arith

      no : (j : ℕ) → suc j ≡ 0 → ⊥
      no j e = omega arith

      zero_even : 0 % 2 ≡ 1 → ⊥
      zero_even e = omega arith

      not_past : Past (num * 2 ^ 150) den 0 → ⊥
      not_past (inl a) = not-le_of_lt (lt_of_le_of_lt (le_of_eq (sym under)) a) h
      not_past (inr a) = zero_even a.1

  pub above_zero : den < num * 2 ^ 150 → 0 < nearest num den
  above_zero h = elim (eq-zero-or-pos (nearest num den)) [
    | inl e ↦ absurd (subst (λ (p : ℕ). p < infinity → Past (num * 2 ^ 150) den p → ⊥) e (nearest_is num den D).high (some 0) (inl (lt_of_le_of_lt (le_of_eq under) h)))
    | inr l ↦ l
  ]
    where
      some : (z : ℕ) → 0 < infinity
      some z = omega arith
