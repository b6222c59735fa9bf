-- What the proofs of the short way cite: a quotient or a product of two whole numbers that the format holds is rounded once. Assumes nothing.
use mathlib.Core.Path.{◌≡◌, sym, ap, ◌∙◌, subst}
use mathlib.Core.Bool.{Bool, true, false, not, cond}
use Prim.Native.Nat.{ℕ, zero, suc, ◌+◌, ◌-◌, ◌*◌, ◌/◌, ◌^◌, ◌≤◌, ◌<◌}
use native.Mathlib.Nat.{le_trans, mul-one, mul_comm, mul_assoc, mul-pos, zero-mul}
use native.Mathlib.Omega.{arith}
use lib.Dec.{T, eqb, ltb, not_T, eqb→eq, le→leb, lit≤}
use lib.IntN.{ℤ, pos}
use Rattle.boost.proofs.Tens.{ten_pos, ten_mono}
use lib.Ieee.{Float, nan, inf, fin, Format, binary32, size, prec, up, down, low, emax, odd, units, unlike, round, of_int, in_float, to_bits, is_nan, mul, div}
use lib.Ieee.Back.{round_whole}
use lib.Ieee.Bits.{cond_no}
use lib.Ieee.Exact.{HasValue}
use lib.Ieee.Fits.{round_is, down_pos}
use lib.Ieee.Nearest.{closest}
use lib.Ieee.Scale.{round_same}
use Rattle.rules.specs.Numerals.{nearest}
use Rattle.boost.specs.Digits.{quick_most}

-- ---- powers of ten
pub power_le : (n : ℕ) → n < 8 → 10 ^ n ≤ 2 ^ 24
power_le n h = le_trans (ten_mono n 7 (go n h)) (lit≤ tt)
  where
    go : (n : ℕ) → n < 8 → n ≤ 7
    go n h = omega arith

-- ---- the casts
pub holds : (n : ℕ) → n ≤ 2 ^ 24 → T (in_float binary32 (pos n))
unfolding in_float
holds n h = le→leb n (2 ^ 24) h

pub few : (d : ℕ) → d < quick_most → d ≤ 2 ^ 24
few d h = omega arith

abbrev float : ℕ → Float
float n = of_int binary32 (pos n)

float_value : (n : ℕ) → n ≤ 2 ^ 24 → HasValue (float n) false n 1
unfolding of_int
float_value n h = round_whole binary32 false n h

-- ---- rounded once
-- (A * D) * b and a * (N * E), where A is a * E and N is b * D
cross : (a b A N E D : ℕ) → A ≡ a * E → N ≡ b * D → A * D * b ≡ a * (N * E)
cross a b A N E D p q =
    ap (λ (x : ℕ). x * D * b) p ∙ ap (λ (x : ℕ). x * b) (mul_assoc a E D) ∙ mul_assoc a (E * D) b
    ∙ ap (λ (x : ℕ). a * x) (mul_comm (E * D) b ∙ ap (λ (x : ℕ). b * x) (mul_comm E D) ∙ sym (mul_assoc b D E) ∙ ap (λ (x : ℕ). x * E) (sym q))

tops : (a b A N E D : ℕ) → A ≡ a * E → N ≡ b * D → A * N * 1 ≡ a * b * (E * D)
tops a b A N E D p q =
    mul-one (A * N) ∙ ap (λ (x : ℕ). x * N) p ∙ ap (λ (x : ℕ). a * E * x) q
    ∙ mul_assoc a E (b * D) ∙ ap (λ (x : ℕ). a * x) (sym (mul_assoc E b D) ∙ ap (λ (x : ℕ). x * D) (mul_comm E b) ∙ mul_assoc b E D) ∙ sym (mul_assoc a b (E * D))

part : (s : Bool) (m : ℕ) (e : ℤ) (a : ℕ) → HasValue (fin s m e) false a 1 → m * up e ≡ a * down e
part s m e a h = sym (mul-one (m * up e)) ∙ h.1

some : (n : ℕ) (u b D : ℕ) → n * u ≡ b * D → 0 < b → 0 < D → T (not (eqb n 0))
some n u b D e p q = not_T (eqb n 0) (λ (t : T (eqb n 0)). no (b * D) (mul-pos p q) (sym e ∙ ap (λ (x : ℕ). x * u) (eqb→eq n 0 t) ∙ zero-mul u))
  where
    no : (x : ℕ) → 0 < x → x ≡ 0 → ⊥
    no x h e = omega arith

bottom_pos : (n : ℕ) (u b D E : ℕ) → n * u ≡ b * D → 0 < b → 0 < D → 0 < E → 0 < n * u * E
bottom_pos n u b D E e p q r = subst (λ (x : ℕ). 0 < x * E) (sym e) (mul-pos (mul-pos p q) r)

div_values : (x y : Float) (a b : ℕ) → 0 < b → HasValue x false a 1 → HasValue y false b 1 → div binary32 x y ≡ round binary32 false a b
unfolding div
div_values nan y a b B h k = absurd h
div_values (inf s) y a b B h k = absurd h
div_values (fin s m e) nan a b B h k = absurd k
div_values (fin s m e) (inf t) a b B h k = absurd k
div_values (fin s m e) (fin t n d) a b B h k =
    cond_no (eqb n 0) (cond (eqb m 0) nan (inf (unlike s t))) (round binary32 (unlike s t) (m * up e * down d) (n * up d * down e)) (some n (up d) b (down d) (part t n d b k) B (down_pos d))
    ∙ ap (λ (u : Bool). round binary32 (unlike u t) (m * up e * down d) (n * up d * down e)) h.0
    ∙ ap (λ (u : Bool). round binary32 (unlike false u) (m * up e * down d) (n * up d * down e)) k.0
    ∙ round_same binary32 false (m * up e * down d) (n * up d * down e) a b (bottom_pos n (up d) b (down d) (down e) (part t n d b k) B (down_pos d) (down_pos e)) B
    (cross a b (m * up e) (n * up d) (down e) (down d) (part s m e a h) (part t n d b k))

mul_values : (x y : Float) (a b : ℕ) → HasValue x false a 1 → HasValue y false b 1 → mul binary32 x y ≡ round binary32 false (a * b) 1
unfolding mul
mul_values nan y a b h k = absurd h
mul_values (inf s) y a b h k = absurd h
mul_values (fin s m e) nan a b h k = absurd k
mul_values (fin s m e) (inf t) a b h k = absurd k
mul_values (fin s m e) (fin t n d) a b h k =
    ap (λ (u : Bool). round binary32 (unlike u t) (m * up e * (n * up d)) (down e * down d)) h.0
    ∙ ap (λ (u : Bool). round binary32 (unlike false u) (m * up e * (n * up d)) (down e * down d)) k.0
    ∙ round_same binary32 false (m * up e * (n * up d)) (down e * down d) (a * b) 1 (mul-pos (down_pos e) (down_pos d)) (one_pos 0)
    (tops a b (m * up e) (n * up d) (down e) (down d) (part s m e a h) (part t n d b k))
  where
    one_pos : (z : ℕ) → 0 < 1
    one_pos z = omega arith

-- ---- what is rounded is no NaN
odd_not_nan : (d : ℕ) (s : Bool) (q k l : ℕ) → T (not (is_nan (odd d s q k l)))
unfolding odd is_nan
odd_not_nan d s zero k l = tt
odd_not_nan d s (suc q) k l = tt

cond_not_nan : (b : Bool) (x : Float) (s : Bool) → T (not (is_nan x)) → T (not (is_nan (cond b x (inf s))))
unfolding is_nan
cond_not_nan true x s h = h
cond_not_nan false x s h = tt

units_not_nan : (f : Format) (s : Bool) (q k : ℕ) → T (not (is_nan (units f s q k)))
unfolding units
units_not_nan f s q k = cond_not_nan (ltb (q * 2 ^ k) (2 ^ (low f + suc (emax f)))) (odd (suc (prec f)) s q k (low f)) s (odd_not_nan (suc (prec f)) s q k (low f))

round_not_nan : (f : Format) (s : Bool) (num den : ℕ) → T (not (is_nan (round f s num den)))
round_not_nan f s num den =
    subst (λ (x : Float). T (not (is_nan x))) (sym (round_is f s num den))
    (units_not_nan f s (closest (num * 2 ^ low f) (den * 2 ^ (size (num * 2 ^ low f / den) - prec f))) (size (num * 2 ^ low f / den) - prec f))

-- ---- the answers, for a float t that is a power of ten

module _ (d n : ℕ) (t : Float) (H : d < quick_most) (N : n < 8) (e : t ≡ float (10 ^ n)) where
  value : HasValue t false (10 ^ n) 1
  value = subst (λ (x : Float). HasValue x false (10 ^ n) 1) (sym e) (float_value (10 ^ n) (power_le n N))

  quotient_is : div binary32 (float d) t ≡ round binary32 false d (10 ^ n)
  quotient_is = div_values (float d) t d (10 ^ n) (ten_pos n) (float_value d (few d H)) value

  product_is : mul binary32 (float d) t ≡ round binary32 false (d * 10 ^ n) 1
  product_is = mul_values (float d) t d (10 ^ n) (float_value d (few d H)) value

  pub quotient_number : T (not (is_nan (div binary32 (of_int binary32 (pos d)) t)))
  quotient_number = subst (λ (x : Float). T (not (is_nan x))) (sym quotient_is) (round_not_nan binary32 false d (10 ^ n))

  pub quotient_nearest : to_bits binary32 (div binary32 (of_int binary32 (pos d)) t) ≡ nearest d (10 ^ n)
  unfolding nearest
  quotient_nearest = ap (to_bits binary32) quotient_is

  pub product_number : T (not (is_nan (mul binary32 (of_int binary32 (pos d)) t)))
  product_number = subst (λ (x : Float). T (not (is_nan x))) (sym product_is) (round_not_nan binary32 false (d * 10 ^ n) 1)

  pub product_nearest : to_bits binary32 (mul binary32 (of_int binary32 (pos d)) t) ≡ nearest (d * 10 ^ n) 1
  unfolding nearest
  product_nearest = ap (to_bits binary32) product_is
