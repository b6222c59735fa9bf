-- What the proof of `widen_finite` cites: q's leading zeros say how far its digits move, and what they do to the exponent's field. Assumes nothing.
use mathlib.Core.Path.{◌≡◌, refl, sym, ap, ◌∙◌, subst}
use mathlib.Core.Bool.{Bool, true, false, cond}
use Prim.Native.Nat.{ℕ, suc, ◌+◌, ◌-◌, ◌*◌, ◌/◌, ◌%◌, ◌^◌, ◌≤◌, ◌<◌}
use native.Mathlib.Omega.{arith}
use lib.Pow.{shl_lt}
use lib.Dec.{lit<, lit≤}
use lib.Count.{count_leading_zeros}
use lib.Ieee.{nan, binary32, binary64, of_fields, to_bits}
use Rattle.rules.proofs.Numerals.Pattern.{pattern_high, pattern_low}
use Rattle.rules.specs.Floats as floats
use Rattle.floats.specs.Bits.{Widened, WidenedBits}
use Rattle.floats.proofs.Model.{Top, top_of, moved, normal_lo, zero_val, of_low, of_high, of_nan}

top : (q : ℕ) → 0 < q → q < 2 ^ 24 → Top 32 24 q (count_leading_zeros 32 q)
top q p h = top_of 32 24 q (lit≤ tt) p h

pub zeros : (q : ℕ) → 0 < q → q < 2 ^ 24 → (8 ≤ count_leading_zeros 32 q) × (count_leading_zeros 32 q < 32)
zeros q p h = let t = top q p h in omega arith

-- the moved digits have 53 places
digits : (q z : ℕ) → Top 32 24 q z → (2 ^ 52 ≤ q * 2 ^ (z + 21)) × (q * 2 ^ (z + 21) < 2 ^ 53)
digits q z t = (
  subst (λ (x : ℕ). 2 ^ x ≤ q * 2 ^ (z + 21)) (at t.j z t.makes) (normal_lo q t.j (z + 21) t.lo),
  subst (λ (x : ℕ). q * 2 ^ (z + 21) < 2 ^ x) (ap suc (at t.j z t.makes)) (subst (λ (x : ℕ). q * 2 ^ (z + 21) < 2 ^ x) (over t.j z) (shl_lt (suc t.j) (z + 21) t.hi)),
)
  where
    at : (j z : ℕ) → z + suc j ≡ 32 → j + (z + 21) ≡ 52
    at j z e = omega arith

    over : (j z : ℕ) → suc j + (z + 21) ≡ suc (j + (z + 21))
    over j z = omega arith

pub widened : (q k : ℕ) → 0 < q → q < 2 ^ 24 → k < 254 → Widened q k ((k + 904 - count_leading_zeros 32 q) * 2 ^ 52 + q * 2 ^ (count_leading_zeros 32 q + 21) % 2 ^ 64)
widened q k p h l =
    let z = count_leading_zeros 32 q in
    let t = top q p h in
    let d = digits q z t in
    let n = q * 2 ^ (z + 21) in
    let e : n % 2 ^ 64 ≡ n = keep n d.1 in
    subst (λ (x : ℕ). Widened q k ((k + 904 - z) * 2 ^ 52 + x)) (sym e)
    (record {
      is = λ s v w. pattern_high binary64 s v n (k + 904 - z) d.0 d.1 (moved v s q k 149 (z + 21) (k + 904 - z) 1074 (by z t.j k t.makes) w);
      small = under z t.j k n t.makes l d.1;
    })
  where
    keep : (n : ℕ) → n < 2 ^ 53 → n % 2 ^ 64 ≡ n
    keep n h = omega arith

    by : (z j k : ℕ) → z + suc j ≡ 32 → z + 21 + (k + 904 - z) + 149 ≡ k + 1074
    by z j k e = omega arith

    under : (z j k n : ℕ) → z + suc j ≡ 32 → k < 254 → n < 2 ^ 53 → (k + 904 - z) * 2 ^ 52 + n < 2 ^ 63
    under z j k n e l h = omega arith

pub widened_zero : (q k : ℕ) → q ≡ 0 → Widened q k 0
widened_zero q k e =
    subst (λ (x : ℕ). Widened x k 0) (sym e)
    (record { is = λ s v w. pattern_low binary64 s v 0 (lit< tt) (zero_val v s k 149 1074 w); small = lit< tt })

-- ---- from a pattern's fields
pub widened_low : (m r : ℕ) → m < 2 ^ 23 → Widened m 0 r → WidenedBits m r
widened_low m r h w = record { is = λ s. w.is s (of_fields binary32 s (m / 2 ^ 23) (m % 2 ^ 23)) (of_low binary32 s m h); small = w.small }

pub widened_high : (m r : ℕ) → 2 ^ 23 ≤ m → m < 255 * 2 ^ 23 → Widened (m % 2 ^ 23 + 2 ^ 23) (m / 2 ^ 23 - 1) r → WidenedBits m r
widened_high m r g h w = record { is = λ s. w.is s (of_fields binary32 s (m / 2 ^ 23) (m % 2 ^ 23)) (of_high binary32 s m g h); small = w.small }

inf_is : (s : Bool) → to_bits binary64 (of_fields binary32 s 255 0) ≡ cond s (2 ^ 63) 0 + 0x7ff0_0000_0000_0000
unfolding of_fields to_bits
inf_is true = refl
inf_is false = refl

pub widened_inf : (m : ℕ) → m ≡ 0x7f80_0000 → WidenedBits m 0x7ff0_0000_0000_0000
widened_inf m e = subst (λ (x : ℕ). WidenedBits x 0x7ff0_0000_0000_0000) (sym e) (record { is = inf_is; small = lit< tt })

nan_bits_lem : to_bits binary64 nan ≡ 0x7ff8_0000_0000_0000
unfolding to_bits
nan_bits_lem = refl

pub widened_nan : (b : ℕ) → 0x7f80_0000 < b % 0x8000_0000 → 0x7ff8_0000_0000_0000 ≡ to_bits binary64 (floats.widened b)
unfolding floats.widened
widened_nan b h = sym (ap (to_bits binary64) (of_nan binary32 b h) ∙ nan_bits_lem)
