-- What the proof of `nearest_shift` cites. Assumes nothing.
use mathlib.Core.Path.{◌≡◌, sym, ap, ◌∙◌, subst}
use Prim.Native.Nat.{ℕ, suc, ◌+◌, ◌-◌, ◌*◌, ◌/◌, ◌%◌, ◌^◌, ◌≤◌, ◌<◌}
use native.Mathlib.Nat.{le_trans, lt_of_le_of_lt, mod-le, mod-eq_of_lt, div-mul-le_self, div-add-mod', one-mul, mul-le-mul_left, pow-succ'}
use native.Mathlib.Omega.{arith}
use lib.Pow.{pow_pos, pow-lt}
use lib.Ieee.Nearest.{closest}
use Rattle.rules.proofs.Numerals.Order.{near_lt, near_eq, near_gt}

-- ---- the code's remainder and half, for an n of 64 bits and a d from 1 to 63
module _ (n d : ℕ) (N : n < 2 ^ 64) (lo : 1 ≤ d) (hi : d < 64) where
  back : n / 2 ^ d * 2 ^ d % 2 ^ 64 ≡ n / 2 ^ d * 2 ^ d
  back = mod-eq_of_lt (lt_of_le_of_lt (div-mul-le_self n (2 ^ d)) N)

  pub sub_ok : n / 2 ^ d * 2 ^ d % 2 ^ 64 ≤ n
  sub_ok = le_trans (mod-le (n / 2 ^ d * 2 ^ d) (2 ^ 64)) (div-mul-le_self n (2 ^ d))

  rest : n - n / 2 ^ d * 2 ^ d % 2 ^ 64 ≡ n % 2 ^ d
  rest = go n (n / 2 ^ d * 2 ^ d) (n % 2 ^ d) (n / 2 ^ d * 2 ^ d % 2 ^ 64) back (div-add-mod' n (2 ^ d))
    where
      go : (n a r b : ℕ) → b ≡ a → a + r ≡ n → n - b ≡ r
      go n a r b e h = omega arith

  half : 1 * 2 ^ (d - 1) % 2 ^ 64 ≡ 2 ^ (d - 1)
  half = ap (λ (x : ℕ). x % 2 ^ 64) (one-mul (2 ^ (d - 1))) ∙ mod-eq_of_lt (pow-lt (less d hi))
    where
      less : (d : ℕ) → d < 64 → d - 1 < 64
      less d h = omega arith

  whole : 2 ^ d ≡ 2 * 2 ^ (d - 1)
  whole = ap (λ (x : ℕ). 2 ^ x) (sym (one d lo)) ∙ pow-succ' 2 (d - 1)
    where
      one : (d : ℕ) → 1 ≤ d → suc (d - 1) ≡ d
      one d h = omega arith

  pub below : n - n / 2 ^ d * 2 ^ d % 2 ^ 64 < 1 * 2 ^ (d - 1) % 2 ^ 64 → n / 2 ^ d ≡ closest n (2 ^ d)
  below h = sym (near_lt (n / 2 ^ d) (n % 2 ^ d * 2) (2 ^ d) (go (n % 2 ^ d) (2 ^ (d - 1)) (2 ^ d) (n - n / 2 ^ d * 2 ^ d % 2 ^ 64) (1 * 2 ^ (d - 1) % 2 ^ 64) rest half whole h))
    where
      go : (r h w a b : ℕ) → a ≡ r → b ≡ h → w ≡ 2 * h → a < b → r * 2 < w
      go r h w a b e f g l = omega arith

  pub above : 1 * 2 ^ (d - 1) % 2 ^ 64 < n - n / 2 ^ d * 2 ^ d % 2 ^ 64 → n / 2 ^ d + 1 ≡ closest n (2 ^ d)
  above h = sym (near_gt (n / 2 ^ d) (n % 2 ^ d * 2) (2 ^ d) (go (n % 2 ^ d) (2 ^ (d - 1)) (2 ^ d) (n - n / 2 ^ d * 2 ^ d % 2 ^ 64) (1 * 2 ^ (d - 1) % 2 ^ 64) rest half whole h))
    where
      go : (r h w a b : ℕ) → a ≡ r → b ≡ h → w ≡ 2 * h → b < a → w < r * 2
      go r h w a b e f g l = omega arith

  pub at : 1 * 2 ^ (d - 1) % 2 ^ 64 ≤ n - n / 2 ^ d * 2 ^ d % 2 ^ 64 → n - n / 2 ^ d * 2 ^ d % 2 ^ 64 ≤ 1 * 2 ^ (d - 1) % 2 ^ 64 → n / 2 ^ d + n / 2 ^ d % 2 ≡ closest n (2 ^ d)
  at h k = sym (near_eq (n / 2 ^ d) (n % 2 ^ d * 2) (2 ^ d) (go (n % 2 ^ d) (2 ^ (d - 1)) (2 ^ d) (n - n / 2 ^ d * 2 ^ d % 2 ^ 64) (1 * 2 ^ (d - 1) % 2 ^ 64) rest half whole h k))
    where
      go : (r h w a b : ℕ) → a ≡ r → b ≡ h → w ≡ 2 * h → b ≤ a → a ≤ b → r * 2 ≡ w
      go r h w a b e f g l m = omega arith

  -- the quotient is at most half of n
  pub small : n / 2 ^ d < 2 ^ 63
  small = shr (2 ^ (d - 1)) (n / 2 ^ d) (pow_pos (d - 1)) (subst (λ (w : ℕ). n / 2 ^ d * w ≤ n) whole (div-mul-le_self n (2 ^ d)))
    where
      grow : (q h : ℕ) → 0 < h → q * 2 ≤ q * (2 * h)
      grow q h p = mul-le-mul_left q (go h p)
        where
          go : (h : ℕ) → 0 < h → 2 ≤ 2 * h
          go h p = omega arith

      shr : (h q : ℕ) → 0 < h → q * (2 * h) ≤ n → q < 2 ^ 63
      shr h q p l = let g = grow q h p in omega arith
