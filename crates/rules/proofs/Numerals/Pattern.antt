-- The pattern of a value by its size, and of a rounded value: `units` is what `round` ends in, and its pattern is the field and the digits, added.
-- Assumes nothing.
use mathlib.Core.Path.{◌≡◌, refl, sym, ap, ◌∙◌, subst}
use mathlib.Core.Logic.{◌⊎◌, inl, inr}
use mathlib.Core.Bool.{Bool, cond}
use Prim.Native.Nat.{ℕ, suc, ◌+◌, ◌-◌, ◌*◌, ◌/◌, ◌^◌, ◌≤◌, ◌<◌}
use native.Mathlib.Nat.{le_trans, le_of_eq, le_antisymm, lt_of_lt_of_le, lt_of_le_of_lt, lt_of_not-le, lt_irrefl, eq-or-lt_of_le, mul-one, mul_right_comm, mul-div_cancel, mul-le-mul_right, mul-pos, eq_of_mul-eq-mul_right}
use native.Mathlib.Omega.{arith}
use lib.Dec.{ltb}
use lib.Arith.{le→nltb}
use lib.Pow.{pow-add, pow_pos, pow_mono, pow-lt, shl_lt}
use lib.Ieee.{Float, nan, inf, fin, Format, binary32, binary64, prec, emax, low, up, down, size, odd, units, round, to_bits, top, hid}
use lib.Ieee.Digits.{size-lt, size-le}
use lib.Ieee.Fits.{round_is, down_pos}
use lib.Ieee.Bits.{cond_no}
use lib.Ieee.Exact.{HasValue, units_val}
use lib.Ieee.Scale.{round_same}
use lib.Ieee.Nearest.{closest, closest_same}
use Rattle.rules.specs.Floats.{rounded}

-- the same size as another fraction
pub rescale : (x : Float) (s : Bool) (w l num den : ℕ) → 0 < l → num * l ≡ w * den → HasValue x s w l → HasValue x s num den
rescale nan s w l num den p h v = v
rescale (inf t) s w l num den p h v = v
rescale (fin t m e) s w l num den p h v = (
  v.0,
  eq_of_mul-eq-mul_right l p (m * up e * den) (num * down e)
      (mul_right_comm (m * up e) den l ∙ ap (λ (x : ℕ). x * den) v.1 ∙ mul_right_comm w (down e) den ∙ ap (λ (x : ℕ). x * down e) (sym h) ∙ mul_right_comm num l (down e)),
)

-- the pattern of a value that is a units of the format's smallest in size
pub to_bits_val : (f : Format) (s : Bool) (v : Float) (a : ℕ) → HasValue v s a (2 ^ low f) → to_bits f v ≡ cond s (top f) 0 + (size a - prec f) * hid f + a / 2 ^ (size a - prec f)
unfolding to_bits
to_bits_val f s nan a h = absurd h
to_bits_val f s (inf t) a h = absurd h
to_bits_val f s (fin t m e) a h =
    ap (λ (x : ℕ). cond t (top f) 0 + (size x - prec f) * hid f + x / 2 ^ (size x - prec f)) (ap (λ (x : ℕ). x / down e) h.1 ∙ mul-div_cancel a (down_pos e))
    ∙ ap (λ (u : Bool). cond u (top f) 0 + (size a - prec f) * hid f + a / 2 ^ (size a - prec f)) h.0

-- how many digits n has
pub size_exact : (a n : ℕ) → 2 ^ a ≤ n → n < 2 ^ suc a → size n ≡ suc a
size_exact a n lo hi = le_antisymm (size-le n (suc a) hi) (lt_of_not-le (λ (g : size n ≤ a). lt_irrefl (2 ^ a) (lt_of_le_of_lt lo (lt_of_lt_of_le (size-lt n) (pow_mono g)))))

-- the pattern of q * 2 ^ k units: where q has the format's digits, all of them, or k is 0
low_digits : (z p : ℕ) → z ≤ p → z - p ≡ 0
low_digits z p h = omega arith

pub pattern_low : (f : Format) (s : Bool) (v : Float) (q : ℕ) → q < 2 ^ prec f → HasValue v s q (2 ^ low f) → to_bits f v ≡ cond s (top f) 0 + q
pattern_low f s v q h w =
    let z : size q - prec f ≡ 0 = low_digits (size q) (prec f) (size-le q (prec f) h) in
    to_bits_val f s v q w ∙ ap (λ (k : ℕ). cond s (top f) 0 + k * hid f + q / 2 ^ k) z ∙ tidy (cond s (top f) 0) (hid f) q
  where
    tidy : (c h q : ℕ) → c + 0 * h + q / 1 ≡ c + q
    tidy c h q = omega arith

pub pattern_high : (f : Format) (s : Bool) (v : Float) (q k : ℕ) → hid f ≤ q → q < 2 ^ prec f → HasValue v s (q * 2 ^ k) (2 ^ low f) → to_bits f v ≡ cond s (top f) 0 + (k * hid f + q)
pattern_high f s v q k g h w =
    let p = prec f in
    let one : suc (p - 1 + k) ≡ p + k = next f k in
    let z : size (q * 2 ^ k) - p ≡ k = ap (λ (x : ℕ). x - p) (size_exact (p - 1 + k) (q * 2 ^ k)
    (le_trans (le_of_eq (pow-add 2 (p - 1) k)) (mul-le-mul_right (2 ^ k) g))
    (subst (λ (x : ℕ). q * 2 ^ k < 2 ^ x) (sym one) (shl_lt p k h)) ∙ one) ∙ off p k in
    to_bits_val f s v (q * 2 ^ k) w
    ∙ ap (λ (x : ℕ). cond s (top f) 0 + x * hid f + q * 2 ^ k / 2 ^ x) z
    ∙ ap (λ (x : ℕ). cond s (top f) 0 + k * hid f + x) (mul-div_cancel q (pow_pos k))
    ∙ assoc (cond s (top f) 0) (k * hid f) q
  where
    next : (f : Format) (k : ℕ) → suc (prec f - 1 + k) ≡ prec f + k
    next binary32 k = omega arith
    next binary64 k = omega arith

    off : (p k : ℕ) → p + k - p ≡ k
    off p k = omega arith

    assoc : (a b c : ℕ) → a + b + c ≡ a + (b + c)
    assoc a b c = omega arith

-- a finite value is rounded by any fraction that it equals
pub rounded_val : (f : Format) (v : Float) (s : Bool) (a c : ℕ) → 0 < c → HasValue v s a c → rounded f v ≡ round f s a c
unfolding rounded
rounded_val f nan s a c C h = absurd h
rounded_val f (inf t) s a c C h = absurd h
rounded_val f (fin t m e) s a c C h = ap (λ (u : Bool). round f u (m * up e) (down e)) h.0 ∙ round_same f s (m * up e) (down e) a c (down_pos e) C h.1

units_inf : (f : Format) (s : Bool) (q k : ℕ) → 2 ^ (low f + suc (emax f)) ≤ q * 2 ^ k → units f s q k ≡ inf s
unfolding units
units_inf f s q k h = cond_no (ltb (q * 2 ^ k) (2 ^ (low f + suc (emax f)))) (odd (suc (prec f)) s q k (low f)) (inf s) (le→nltb (q * 2 ^ k) (2 ^ (low f + suc (emax f))) h)

inf_bits : (s : Bool) → to_bits binary32 (inf s) ≡ cond s (2 ^ 31) 0 + 0x7f80_0000
unfolding to_bits
inf_bits s = refl

-- q has all 24 digits, or is the number after those, or nothing was dropped
abbrev pub Full : ℕ → ℕ → Type 0
Full q k = (2 ^ 23 ≤ q) ⊎ (k ≡ 0)

carried : (k : ℕ) → 2 ^ 24 * 2 ^ k ≡ 2 ^ 23 * 2 ^ suc k
carried k = sym (pow-add 2 24 k) ∙ ap (λ (x : ℕ). 2 ^ x) (go k) ∙ pow-add 2 23 (suc k)
  where
    go : (k : ℕ) → 24 + k ≡ 23 + suc k
    go k = omega arith

below_inf : (q k : ℕ) → q ≤ 2 ^ 24 → k * 2 ^ 23 + q < 0x7f80_0000 → Full q k → q * 2 ^ k < 2 ^ 277
below_inf q k h l (inr z) = subst (λ (x : ℕ). q * 2 ^ x < 2 ^ 277) (sym z) (lt_of_le_of_lt (le_of_eq (mul-one q)) (lt_of_le_of_lt h (pow-lt (go 24 277))))
  where
    go : (a b : ℕ) → 24 < 277
    go a b = omega arith
below_inf q k h l (inl g) = elim (eq-or-lt_of_le h) [
  | inl e ↦ subst (λ (x : ℕ). x * 2 ^ k < 2 ^ 277) (sym e) (lt_of_le_of_lt (le_of_eq (sym (pow-add 2 24 k))) (pow-lt (at q k e l)))
  | inr t ↦ lt_of_lt_of_le (shl_lt 24 k t) (pow_mono (by q k g l))
]
  where
    at : (q k : ℕ) → q ≡ 2 ^ 24 → k * 2 ^ 23 + q < 0x7f80_0000 → 24 + k < 277
    at q k e l = omega arith

    by : (q k : ℕ) → 2 ^ 23 ≤ q → k * 2 ^ 23 + q < 0x7f80_0000 → 24 + k ≤ 277
    by q k g l = omega arith

past_inf : (q k : ℕ) → q ≤ 2 ^ 24 → 0x7f80_0000 ≤ k * 2 ^ 23 + q → Full q k → 2 ^ 277 ≤ q * 2 ^ k
past_inf q k h l (inr z) = let f : ⊥ = omega arith in absurd f
past_inf q k h l (inl g) = elim (eq-or-lt_of_le h) [
  | inl e ↦ subst (λ (x : ℕ). 2 ^ 277 ≤ x * 2 ^ k) (sym e) (le_trans (pow_mono (at q k e l)) (le_of_eq (pow-add 2 24 k)))
  | inr t ↦ le_trans (pow_mono (by q k t l)) (le_trans (le_of_eq (pow-add 2 23 k)) (mul-le-mul_right (2 ^ k) g))
]
  where
    at : (q k : ℕ) → q ≡ 2 ^ 24 → 0x7f80_0000 ≤ k * 2 ^ 23 + q → 277 ≤ 24 + k
    at q k e l = omega arith

    by : (q k : ℕ) → q < 2 ^ 24 → 0x7f80_0000 ≤ k * 2 ^ 23 + q → 277 ≤ 23 + k
    by q k t l = omega arith

-- the pattern of q * 2 ^ k units
pub units_bits : (s : Bool) (q k : ℕ) → q ≤ 2 ^ 24 → Full q k → k * 2 ^ 23 + q < 0x7f80_0000 → to_bits binary32 (units binary32 s q k) ≡ cond s (2 ^ 31) 0 + (k * 2 ^ 23 + q)
units_bits s q k h g l =
    let v = units binary32 s q k in
    let w : HasValue v s (q * 2 ^ k) (2 ^ 149) = units_val binary32 s q k (below_inf q k h l g) in
    elim (eq-or-lt_of_le h) [
      | inl e ↦
          pattern_high binary32 s v (2 ^ 23) (suc k) (le_of_eq refl) (pow-lt (few 0))
          (subst (λ (x : ℕ). HasValue v s x (2 ^ 149)) (ap (λ (x : ℕ). x * 2 ^ k) e ∙ carried k) w)
          ∙ ap (λ (x : ℕ). cond s (2 ^ 31) 0 + x) (next q k e)
      | inr t ↦ full g t w
    ]
  where
    few : (z : ℕ) → 23 < 24
    few z = omega arith

    next : (q k : ℕ) → q ≡ 2 ^ 24 → suc k * 2 ^ 23 + 2 ^ 23 ≡ k * 2 ^ 23 + q
    next q k e = omega arith

    alone : (q k : ℕ) → k ≡ 0 → q ≡ k * 2 ^ 23 + q
    alone q k e = omega arith

    full : Full q k → q < 2 ^ 24 → HasValue (units binary32 s q k) s (q * 2 ^ k) (2 ^ 149) → to_bits binary32 (units binary32 s q k) ≡ cond s (2 ^ 31) 0 + (k * 2 ^ 23 + q)
    full (inl g) t w = pattern_high binary32 s (units binary32 s q k) q k g t w
    full (inr z) t w =
        pattern_low binary32 s (units binary32 s q k) q t (subst (λ (x : ℕ). HasValue (units binary32 s q k) s x (2 ^ 149)) (ap (λ (x : ℕ). q * 2 ^ x) z ∙ mul-one q) w)
        ∙ ap (λ (x : ℕ). cond s (2 ^ 31) 0 + x) (alone q k z)

pub units_bits_inf : (s : Bool) (q k : ℕ) → q ≤ 2 ^ 24 → Full q k → 0x7f80_0000 ≤ k * 2 ^ 23 + q → to_bits binary32 (units binary32 s q k) ≡ cond s (2 ^ 31) 0 + 0x7f80_0000
units_bits_inf s q k h g l = ap (to_bits binary32) (units_inf binary32 s q k (past_inf q k h l g)) ∙ inf_bits s

-- num / den rounded, by a closer look: n / 2 ^ D is the same in units of 2 ^ k
pub round_at : (s : Bool) (num den n D k : ℕ) → 0 < den → size (num * 2 ^ 149 / den) - 24 ≡ k → num * 2 ^ 149 * 2 ^ D ≡ n * (den * 2 ^ k) → round binary32 s num den ≡ units binary32 s (closest n (2 ^ D)) k
round_at s num den n D k P e h =
    round_is binary32 s num den
    ∙ ap (λ (x : ℕ). units binary32 s (closest (num * 2 ^ 149) (den * 2 ^ x)) x) e
    ∙ ap (λ (x : ℕ). units binary32 s x k) (closest_same (num * 2 ^ 149) (den * 2 ^ k) n (2 ^ D) (mul-pos P (pow_pos k)) (pow_pos D) h)
