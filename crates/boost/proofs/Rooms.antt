-- That 18 words are enough for every number that the decimal work lays in a row, and 17 are not. Assumes nothing.
use mathlib.Core.Path.{◌≡◌, sym, ap, ◌∙◌, subst}
use Prim.Native.Nat.{ℕ, ◌+◌, ◌-◌, ◌*◌, ◌/◌, ◌%◌, ◌^◌, ◌≤◌, ◌<◌}
use native.Mathlib.Nat.{le_trans, le_of_eq, le_of_lt, lt_of_le_of_lt, lt_of_lt_of_le, mul_assoc, mul-le-mul, mul-le-mul_left, mul-lt-mul_of_pos_right, zero-mul, add-zero, pow-le-pow_right}
use native.Mathlib.Omega.{arith}
use lib.Dec.{lit<, lit≤}
use lib.Pow.{pow-add, pow_pos, pow_mono}
use Rattle.boost.specs.Row.{limit}
use Rattle.boost.specs.Digits.{forty}
use Rattle.boost.proofs.Rows.{B}
use Rattle.boost.proofs.Tops.{base_power}
use Rattle.boost.proofs.Tens.{ten_mono}

-- 40 digits in half units
pub eighteen : forty * 2 ^ 150 ≤ limit
unfolding forty limit
eighteen = lit≤ tt

pub not_seventeen : 0x1_0000 ^ 17 ≤ (10 ^ 40 - 1) * 2 ^ 150
not_seventeen = lit≤ tt

-- times a power of ten
pub room_tens : (v n : ℕ) → v < forty → n < 39 → v * 10 ^ n < limit
unfolding forty limit
room_tens v n h k = lt_of_le_of_lt (mul-le-mul (le_of_lt h) (ten_mono n 38 (go n k))) (lit< tt)
  where
    go : (n : ℕ) → n < 39 → n ≤ 38
    go n h = omega arith

-- the digits as they are taken: 9 words hold 40 of them
pub room_digits : (v from : ℕ) → v < forty → from ≤ 9 → v * B ^ from < limit
unfolding forty limit
room_digits v from h k = lt_of_lt_of_le (mul-lt-mul_of_pos_right h (base_pos from)) (le_trans (mul-le-mul_left (10 ^ 40) (pow-le-pow_right (lit< tt) k)) (lit≤ tt))
  where
    base_pos : (n : ℕ) → 0 < B ^ n
    base_pos n = subst (λ (x : ℕ). 0 < x) (sym (base_power n)) (pow_pos (16 * n))

-- ---- times 2 ^ places, by words and by bits
pub by_words : (p : ℕ) → B ^ (p / 16) * 2 ^ (p % 16) ≡ 2 ^ p
by_words p = ap (λ (x : ℕ). x * 2 ^ (p % 16)) (base_power (p / 16)) ∙ sym (pow-add 2 (16 * (p / 16)) (p % 16)) ∙ ap (λ (x : ℕ). 2 ^ x) (go p)
  where
    go : (p : ℕ) → 16 * (p / 16) + p % 16 ≡ p
    go p = omega arith

module _ (x v p m : ℕ) (E : x ≡ v * B ^ (p / 16)) (M : m ≡ 2 ^ (p % 16)) where
  pub placed : x * m + 0 * B ^ (p / 16) ≡ v * 2 ^ p
  placed =
      ap (λ (y : ℕ). x * m + y) (zero-mul (B ^ (p / 16))) ∙ add-zero (x * m) ∙ ap (λ (y : ℕ). y * m) E ∙ ap (λ (y : ℕ). v * B ^ (p / 16) * y) M
      ∙ mul_assoc v (B ^ (p / 16)) (2 ^ (p % 16)) ∙ ap (λ (y : ℕ). v * y) (by_words p)

  pub placed_room : v < forty → p ≤ 150 → x * m + 0 * B ^ (p / 16) < limit
  placed_room h k = lt_of_le_of_lt (le_of_eq placed) (lt_of_lt_of_le (mul-lt-mul_of_pos_right h (pow_pos p)) (le_trans (mul-le-mul_left forty (pow_mono k)) eighteen))

-- a factor of less than a word
pub bits_factor : (p m : ℕ) → m ≡ 2 ^ (p % 16) → (m ≤ 2 ^ 47) × (0 < m)
bits_factor p m e = (le_trans (le_of_eq e) (pow_mono (go p)), subst (λ (x : ℕ). 0 < x) (sym e) (pow_pos (p % 16)))
  where
    go : (p : ℕ) → p % 16 ≤ 47
    go p = omega arith
