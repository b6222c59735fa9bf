-- What the proof of the middle way cites: a number of 63 places over a power of five has the places that one rounding asks for. Assumes nothing.
use mathlib.Core.Path.{◌≡◌, sym, ap, ◌∙◌, subst}
use mathlib.Core.Bool.{Bool, false, not, ◌||◌}
use Prim.Native.Nat.{ℕ, suc, ◌+◌, ◌-◌, ◌*◌, ◌/◌, ◌%◌, ◌^◌, ◌≤◌, ◌<◌}
use native.Mathlib.Nat.{le_trans, le_of_eq, lt_of_le_of_lt, mul_assoc, mul-le-mul_left, le-div_iff_mul-le, div-le_self, mod-eq_of_lt, zero-mul}
use native.Mathlib.Omega.{arith}
use lib.Dec.{eqb, lit≤}
use lib.Count.{count_leading_zeros}
use lib.Pow.{pow-add, shl_lt}
use Rattle.rules.specs.Numerals.{nearest}
use Rattle.rules.proofs.Numerals.Nearest.{bound_zero}
use Rattle.floats.proofs.Model.{Top, top_of, normal_lo}
use Rattle.boost.specs.Top.{Rounded}
use Rattle.boost.proofs.Tens.{ten_pos, five_pos, five_mono, by_five, twos_off}

-- ---- `quotient`, for a d above 0
module _ (d : ℕ) (p : 0 < d) (h : d < 2 ^ 60) where
  first : Top 64 60 d (count_leading_zeros 64 d)
  first = top_of 64 60 d (lit≤ tt) p h

  pub z_range : (3 < count_leading_zeros 64 d) × (count_leading_zeros 64 d < 64)
  z_range = go first.j (count_leading_zeros 64 d) first.makes first.few
    where
      go : (j z : ℕ) → z + suc j ≡ 64 → j < 60 → (3 < z) × (z < 64)
      go j z e l = omega arith

  moved_lo : 2 ^ 62 ≤ d * 2 ^ (count_leading_zeros 64 d - 1)
  moved_lo = subst (λ (x : ℕ). 2 ^ x ≤ d * 2 ^ (count_leading_zeros 64 d - 1)) (go first.j (count_leading_zeros 64 d) first.makes first.few) (normal_lo d first.j (count_leading_zeros 64 d - 1) first.lo)
    where
      go : (j z : ℕ) → z + suc j ≡ 64 → j < 60 → j + (z - 1) ≡ 62
      go j z e l = omega arith

  moved_hi : d * 2 ^ (count_leading_zeros 64 d - 1) < 2 ^ 63
  moved_hi = subst (λ (x : ℕ). d * 2 ^ (count_leading_zeros 64 d - 1) < 2 ^ x) (go first.j (count_leading_zeros 64 d) first.makes first.few) (shl_lt (suc first.j) (count_leading_zeros 64 d - 1) first.hi)
    where
      go : (j z : ℕ) → z + suc j ≡ 64 → j < 60 → suc j + (z - 1) ≡ 63
      go j z e l = omega arith

  -- the shift as the machine has it
  pub moved_is : d * 2 ^ (count_leading_zeros 64 d - 1) % 2 ^ 64 ≡ d * 2 ^ (count_leading_zeros 64 d - 1)
  moved_is = mod-eq_of_lt (go (d * 2 ^ (count_leading_zeros 64 d - 1)) moved_hi)
    where
      go : (m : ℕ) → m < 2 ^ 63 → m < 2 ^ 64
      go m h = omega arith

-- m is the moved number, and t is 5 ^ n
module _ (d n t m : ℕ) (p : 0 < d) (h : d < 2 ^ 60) (N : n < 17) (T : t ≡ 5 ^ n) (E : m ≡ d * 2 ^ (count_leading_zeros 64 d - 1)) where
  abbrev z : ℕ
  z = count_leading_zeros 64 d

  pub t_pos : 0 < t
  t_pos = subst (λ (x : ℕ). 0 < x) (sym T) (five_pos n)

  t_few : t ≤ 5 ^ 16
  t_few = le_trans (le_of_eq T) (five_mono n 16 (go n N))
    where
      go : (n : ℕ) → n < 17 → n ≤ 16
      go n h = omega arith

  pub w_hi : m / t < 2 ^ 63
  w_hi = lt_of_le_of_lt (div-le_self m t) (subst (λ (x : ℕ). x < 2 ^ 63) (sym E) (moved_hi d p h))

  pub w_lo : 2 ^ 24 ≤ m / t
  w_lo = (le-div_iff_mul-le t_pos).1 (le_trans (mul-le-mul_left (2 ^ 24) t_few) (le_trans (lit≤ tt) (subst (λ (x : ℕ). 2 ^ 62 ≤ x) (sym E) (moved_lo d p h))))

  pub quotient_is : (b : Bool) (r : ℕ) → b ≡ false || not (eqb (m % t) 0) → Rounded (m / t) b (151 - z - n) r → r ≡ nearest d (10 ^ n)
  quotient_is b r e q = q.is d (10 ^ n) (ten_pos n) same.0 (e ∙ same.1)
    where
      places : (z : ℕ) → 3 < z → z < 64 → z - 1 + (151 - z) ≡ 150
      places z a b = omega arith

      rest : (z n : ℕ) → z < 64 → n < 17 → n + (151 - z - n) ≡ 151 - z
      rest z n a b = omega arith

      raised : d * 2 ^ 150 ≡ m * 2 ^ (151 - z)
      raised = ap (λ (x : ℕ). d * 2 ^ x) (sym (places z (z_range d p h).0 (z_range d p h).1)) ∙ ap (λ (x : ℕ). d * x) (pow-add 2 (z - 1) (151 - z)) ∙ sym (mul_assoc d (2 ^ (z - 1)) (2 ^ (151 - z))) ∙ ap (λ (x : ℕ). x * 2 ^ (151 - z)) (sym E)

      same : (m / t ≡ d * 2 ^ 150 / (10 ^ n * 2 ^ (151 - z - n))) × (not (eqb (m % t) 0) ≡ not (eqb (d * 2 ^ 150 % (10 ^ n * 2 ^ (151 - z - n))) 0))
      same = by_five d n (151 - z - n) (151 - z) m t t_pos raised (twos_off n (151 - z - n) (151 - z) (rest z n (z_range d p h).1 N) ∙ ap (λ (x : ℕ). x * 2 ^ (151 - z)) (sym T))

pub quotient_zero : (d n : ℕ) → d ≡ 0 → 0 ≡ nearest d (10 ^ n)
quotient_zero d n e = sym (bound_zero d (10 ^ n) (ten_pos n) (le_trans (le_of_eq (ap (λ (x : ℕ). x * 2 ^ 150) e ∙ none (2 ^ 150))) (le (10 ^ n))))
  where
    none : (x : ℕ) → 0 * x ≡ 0
    none x = zero-mul x

    le : (x : ℕ) → 0 ≤ x
    le x = omega arith
