-- What the proofs of the float operations on patterns cite: where a NaN stands. Assumes nothing.
use mathlib.Core.Path.{◌≡◌, refl, sym, ap, ◌∙◌, subst}
use mathlib.Core.Bool.{Bool, true, false, not}
use Prim.Native.Nat.{ℕ, ◌*◌, ◌%◌, ◌≤◌, ◌<◌}
use lib.Dec.{T}
use lib.Arith.{le→nltb}
use lib.Ieee.{Float, nan, inf, fin, Format, binary32, binary64, hid, ones, top, of_bits, to_bits, nan_bits, is_nan, mul, div, ne, eq}
use lib.Ieee.Fits.{fits_widens}
use lib.Ieee.Bits.{nan_bits_above, of_bits-to_bits, of_bits-fits}
use lib.Ieee.Compare.{differs_from_itself, nan_differs}
use Rattle.rules.specs.Floats.{rounded, widened, narrowed, times, is_one, one}
use Rattle.floats.proofs.Model.{of_nan}

-- a pattern that is no NaN's
pub no_nan : (f : Format) (b : ℕ) → b % top f ≤ ones f * hid f → T (not (nan_bits f b))
no_nan f b h = subst (λ (u : Bool). T (not u)) (sym (nan_bits_above f b)) (le→nltb (ones f * hid f) (b % top f) h)

-- `x != x` was false, or true
pub not_nan : (x : Float) → ne x x ≡ false → T (not (is_nan x))
unfolding is_nan
not_nan nan h = absurd (subst T (sym nan_differs ∙ h) tt)
not_nan (inf s) h = tt
not_nan (fin s m e) h = tt

pub is_nan_lem : (x : Float) → ne x x ≡ true → x ≡ nan
is_nan_lem x h = differs_from_itself x (subst T (sym h) tt)

pub nan_32 : to_bits binary32 nan ≡ 0x7fc0_0000
unfolding to_bits
nan_32 = refl

pub nan_rounded : narrowed nan ≡ 0x7fc0_0000
unfolding to_bits rounded narrowed
nan_rounded = refl

mul_nan_l : (f : Format) (y : Float) → mul f nan y ≡ nan
unfolding mul
mul_nan_l f y = refl

mul_nan_r : (f : Format) (x : Float) → mul f x nan ≡ nan
unfolding mul
mul_nan_r f nan = refl
mul_nan_r f (inf s) = refl
mul_nan_r f (fin s m e) = refl

pub product_nan_l : (a b : ℕ) → 0x7f80_0000 < a % 0x8000_0000 → 0x7fc0_0000 ≡ times a b
unfolding times
product_nan_l a b h = sym (ap (λ (x : Float). to_bits binary32 (mul binary32 x (of_bits binary32 b))) (of_nan binary32 a h) ∙ ap (to_bits binary32) (mul_nan_l binary32 (of_bits binary32 b)) ∙ nan_32)

pub product_nan_r : (a b : ℕ) → 0x7f80_0000 < b % 0x8000_0000 → 0x7fc0_0000 ≡ times a b
unfolding times
product_nan_r a b h = sym (ap (λ (x : Float). to_bits binary32 (mul binary32 (of_bits binary32 a) x)) (of_nan binary32 b h) ∙ ap (to_bits binary32) (mul_nan_r binary32 (of_bits binary32 a)) ∙ nan_32)

-- the f64 pattern of an f32, read back
pub widened_back : (b w : ℕ) → w ≡ to_bits binary64 (widened b) → of_bits binary64 w ≡ widened b
unfolding widened
widened_back b w e = ap (of_bits binary64) e ∙ of_bits-to_bits binary64 (of_bits binary32 b) (fits_widens (of_bits binary32 b) (of_bits-fits binary32 b))

zero_by_zero : div binary64 (of_bits binary64 0) (of_bits binary64 0) ≡ nan
unfolding div of_bits
zero_by_zero = refl

pub widened_nan_back : (b w : ℕ) → w ≡ to_bits binary64 (widened b) → 0x7ff0_0000_0000_0000 < w % 0x8000_0000_0000_0000 → div binary64 (of_bits binary64 0) (of_bits binary64 0) ≡ widened b
widened_nan_back b w e h = zero_by_zero ∙ sym (of_nan binary64 w h) ∙ widened_back b w e

-- ---- a boost of 1
pub one_nan : (b : ℕ) → 0x7f80_0000 < b % 0x8000_0000 → false ≡ is_one (widened b)
unfolding is_one widened eq
one_nan b h = sym (ap (λ (x : Float). eq x one) (of_nan binary32 b h))

pub one_bits_lem : (b : ℕ) → eq (of_bits binary32 b) (of_bits binary32 0x3f80_0000) ≡ is_one (widened b)
unfolding is_one widened one of_bits
one_bits_lem b = refl
