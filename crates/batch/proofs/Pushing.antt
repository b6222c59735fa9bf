-- Bits of a number as they are pushed and joined.
use mathlib.Core.Path.{◌≡◌, refl, sym, ap, ◌∙◌}
use Prim.Native.Nat.{ℕ, zero, suc, ◌+◌, ◌*◌, ◌/◌, ◌%◌, ◌^◌, ◌<◌}
use mathlib.Core.Bool.{Bool, true, false, ◌||◌}
use native.Mathlib.Omega.{arith}
use native.Mathlib.Nat.{pow-suc, zero-div}
use native.Mathlib.Numerals.{add-one}
use lib.Dec.{eqb}
use lib.Pow.{shr-shr}
use lib.Bits.{bit_or, or_shr, or_mod}
use Rattle.rules.specs.Matching.{bit}
use Rattle.batch.specs.Bits.{bit_at}

-- ---- a bit more

module _ (m : ℕ) (b : Bool) where
  half : (m * 2 + bit b) / 2 ≡ m
  half = go b
    where
      go : (b : Bool) → (m * 2 + bit b) / 2 ≡ m
      go true = omega arith
      go false = omega arith

  pub bit_next : (j : ℕ) → bit_at (m * 2 + bit b) (j + 1) ≡ bit_at m j
  unfolding bit_at
  bit_next j =
      let e : (m * 2 + bit b) / 2 ^ (j + 1) ≡ m / 2 ^ j =
      ap (λ (k : ℕ). (m * 2 + bit b) / 2 ^ k) (let c : j + 1 ≡ 1 + j = omega arith in c) ∙ sym (shr-shr (m * 2 + bit b) 1 j) ∙ ap (λ (x : ℕ). x / 2 ^ j) half in
      ap (λ (x : ℕ). eqb (x % 2) 1) e

  pub bit_first : bit_at (m * 2 + bit b) 0 ≡ b
  unfolding bit_at
  bit_first = go b
    where
      go : (b : Bool) → eqb ((m * 2 + bit b) / 1 % 2) 1 ≡ b
      go true = let e : (m * 2 + 1) / 1 % 2 ≡ 1 = omega arith in rw e
      go false = let e : (m * 2 + 0) / 1 % 2 ≡ 0 = omega arith in rw e

  pub bit_below : (n : ℕ) → m < 2 ^ n → m * 2 + bit b < 2 ^ (n + 1)
  bit_below n h = rw (add-one n, pow-suc) (go b)
    where
      go : (b : Bool) → m * 2 + bit b < 2 ^ n * 2
      go true = omega arith
      go false = omega arith

-- ---- no bit, and the bits of two numbers

pub bit_none : (j : ℕ) → bit_at 0 j ≡ false
unfolding bit_at
bit_none j = rw zero-div

pub bit_or_lem : (a b j : ℕ) → bit_at (bit_or a b) j ≡ (bit_at a j || bit_at b j)
unfolding bit_at
bit_or_lem a b j = ap (λ (x : ℕ). eqb (x % 2) 1) (or_shr a b j) ∙ low (a / 2 ^ j) (b / 2 ^ j)
  where
    digits : (x y : ℕ) → x < 2 → y < 2 → eqb (bit_or x y) 1 ≡ (eqb x 1 || eqb y 1)
    digits zero y h k = refl
    digits (suc zero) zero h k = refl
    digits (suc zero) (suc zero) h k = refl
    digits (suc zero) (suc (suc y)) h k = absurd (omega arith)
    digits (suc (suc x)) y h k = absurd (omega arith)

    low : (x y : ℕ) → eqb (bit_or x y % 2) 1 ≡ (eqb (x % 2) 1 || eqb (y % 2) 1)
    low x y = ap (λ (z : ℕ). eqb z 1) (or_mod x y 1) ∙ digits (x % 2) (y % 2) (omega arith) (omega arith)
