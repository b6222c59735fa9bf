-- The size of a pattern's value, at either format. Assumes nothing.
use mathlib.Core.Path.{◌≡◌, refl, sym, ap, ◌∙◌, subst}
use mathlib.Core.Bool.{Bool, true, false, not, cond}
use Prim.Native.Nat.{ℕ, suc, ◌+◌, ◌-◌, ◌*◌, ◌/◌, ◌%◌, ◌^◌, ◌≤◌, ◌<◌}
use native.Mathlib.Nat.{le_trans, le_of_eq, lt_of_lt_of_le, lt_of_le_of_lt, lt_of_not-le, lt_irrefl, mul_assoc, mul-le-mul_right, zero-mul, zero-add}
use native.Mathlib.Omega.{arith}
use lib.Dec.{T, leb, ltb, eqb, not_T, eqb→eq, lt→ltb, le→leb}
use lib.Arith.{lt→nleb}
use lib.Pow.{pow-add, pow_pos, pow_mono}
use lib.Count.{count_leading_zeros, leading_top}
use lib.Ieee.{Float, nan, inf, fin, Format, binary32, binary64, prec, low, odd, hid, ones, top, of_fields, of_bits, is_nan}
use lib.Ieee.Bits.{cond_no, is_true, is_false, nan_bits_is, nan_bits_above}
use lib.Ieee.Exact.{HasValue, odd_sign}
use Rattle.rules.proofs.Numerals.Pattern.{rescale}

-- ---- what a pattern with no sign is read as

ne_ones : (x o : ℕ) → suc x < o → T (not (eqb (suc x) o))
ne_ones x o h = not_T (eqb (suc x) o) (λ (u : T (eqb (suc x) o)). lt_irrefl o (subst (λ (y : ℕ). y < o) (eqb→eq (suc x) o u) h))

pub fields_low : (f : Format) (s : Bool) (t : ℕ) → HasValue (of_fields f s 0 t) s (t * 2 ^ 0) (2 ^ low f)
unfolding of_fields
fields_low f s t = odd_sign (prec f) s t 0 (low f)

pub fields_high : (f : Format) (s : Bool) (x t : ℕ) → suc x < ones f → HasValue (of_fields f s (suc x) t) s ((hid f + t) * 2 ^ x) (2 ^ low f)
unfolding of_fields
fields_high f s x t h =
    subst (λ (v : Float). HasValue v s ((hid f + t) * 2 ^ x) (2 ^ low f))
    (sym (cond_no (eqb (suc x) (ones f)) (cond (eqb t 0) (inf s) nan) (odd (prec f) s (hid f + t) x (low f)) (ne_ones x (ones f) h)))
    (odd_sign (prec f) s (hid f + t) x (low f))

-- ---- the same value with its digits moved
moved_by : (q k l i e m : ℕ) → i + e + l ≡ k + m → q * 2 ^ i * 2 ^ e * 2 ^ l ≡ q * 2 ^ k * 2 ^ m
moved_by q k l i e m h =
    ap (λ (x : ℕ). x * 2 ^ l) (mul_assoc q (2 ^ i) (2 ^ e) ∙ ap (λ (x : ℕ). q * x) (sym (pow-add 2 i e)))
    ∙ mul_assoc q (2 ^ (i + e)) (2 ^ l)
    ∙ ap (λ (x : ℕ). q * x) (sym (pow-add 2 (i + e) l) ∙ ap (λ (x : ℕ). 2 ^ x) h ∙ pow-add 2 k m)
    ∙ sym (mul_assoc q (2 ^ k) (2 ^ m))

pub moved : (v : Float) (s : Bool) (q k l i e m : ℕ) → i + e + l ≡ k + m → HasValue v s (q * 2 ^ k) (2 ^ l) → HasValue v s (q * 2 ^ i * 2 ^ e) (2 ^ m)
moved v s q k l i e m h w = rescale v s (q * 2 ^ k) (2 ^ l) (q * 2 ^ i * 2 ^ e) (2 ^ m) (pow_pos l) (moved_by q k l i e m h) w

-- ---- a number brought to a fixed length by its leading zeros
pub pow_lt_back : (i p : ℕ) → 2 ^ i < 2 ^ p → i < p
pow_lt_back i p h = lt_of_not-le (λ (g : p ≤ i). lt_irrefl (2 ^ i) (lt_of_lt_of_le h (pow_mono g)))

-- n's highest digit is at j, and a shift by i brings it to j + i
pub normal_lo : (n j i : ℕ) → 2 ^ j ≤ n → 2 ^ (j + i) ≤ n * 2 ^ i
normal_lo n j i h = le_trans (le_of_eq (pow-add 2 j i)) (mul-le-mul_right (2 ^ i) h)

-- q, a number of w bits, has its highest digit at j, below p, and z leading zeros
pub record Top (w p q z : ℕ) : Type 0 where
  pub j : ℕ
  pub makes : z + suc j ≡ w
  pub few : j < p
  pub lo : 2 ^ j ≤ q
  pub hi : q < 2 ^ suc j

pub top_of : (w p q : ℕ) → p ≤ w → 0 < q → q < 2 ^ p → Top w p q (count_leading_zeros w q)
top_of w p q l h k =
    let t = leading_top w q h (lt_of_lt_of_le k (pow_mono l)) in
    record { j = t.0; makes = t.1; few = pow_lt_back t.0 p (lt_of_le_of_lt t.2 k); lo = t.2; hi = t.3 }

-- ---- a pattern m with no sign, by its fields
pub of_low : (f : Format) (s : Bool) (m : ℕ) → m < hid f → HasValue (of_fields f s (m / hid f) (m % hid f)) s (m * 2 ^ 0) (2 ^ low f)
of_low f s m h =
    subst (λ (x : ℕ). HasValue (of_fields f s x (m % hid f)) s (m * 2 ^ 0) (2 ^ low f)) (sym (none f m h))
    (subst (λ (t : ℕ). HasValue (of_fields f s 0 t) s (m * 2 ^ 0) (2 ^ low f)) (sym (all f m h)) (fields_low f s m))
  where
    none : (f : Format) (m : ℕ) → m < hid f → m / hid f ≡ 0
    none binary32 m h = omega arith
    none binary64 m h = omega arith

    all : (f : Format) (m : ℕ) → m < hid f → m % hid f ≡ m
    all binary32 m h = omega arith
    all binary64 m h = omega arith

pub of_high : (f : Format) (s : Bool) (m : ℕ) → hid f ≤ m → m < ones f * hid f
    → HasValue (of_fields f s (m / hid f) (m % hid f)) s ((m % hid f + hid f) * 2 ^ (m / hid f - 1)) (2 ^ low f)
of_high f s m g h =
    subst (λ (q : ℕ). HasValue (of_fields f s (m / hid f) (m % hid f)) s (q * 2 ^ (m / hid f - 1)) (2 ^ low f)) (turn (hid f) (m % hid f))
    (subst (λ (x : ℕ). HasValue (of_fields f s x (m % hid f)) s ((hid f + m % hid f) * 2 ^ (m / hid f - 1)) (2 ^ low f)) (one f m g)
    (fields_high f s (m / hid f - 1) (m % hid f) (under f m g h)))
  where
    turn : (a b : ℕ) → a + b ≡ b + a
    turn a b = omega arith

    one : (f : Format) (m : ℕ) → hid f ≤ m → suc (m / hid f - 1) ≡ m / hid f
    one binary32 m h = omega arith
    one binary64 m h = omega arith

    under : (f : Format) (m : ℕ) → hid f ≤ m → m < ones f * hid f → suc (m / hid f - 1) < ones f
    under binary32 m g h = omega arith
    under binary64 m g h = omega arith

-- a pattern b by its sign and the rest
pub of_signed : (f : Format) (b : ℕ) (s : Bool) → leb (top f) b ≡ s → of_bits f b ≡ of_fields f s (b % top f / hid f) (b % top f % hid f)
unfolding of_bits
of_signed f b s e = ap (λ (u : Bool). of_fields f u (b % top f / hid f) (b % hid f)) e ∙ ap (λ (t : ℕ). of_fields f s (b % top f / hid f) t) (sym (rest f b))
  where
    rest : (f : Format) (b : ℕ) → b % top f % hid f ≡ b % hid f
    rest binary32 b = omega arith
    rest binary64 b = omega arith

nan_is : (v : Float) → is_nan v ≡ true → v ≡ nan
unfolding is_nan
nan_is nan h = refl
nan_is (inf s) h = absurd (subst T (sym h) tt)
nan_is (fin s m e) h = absurd (subst T (sym h) tt)

pub of_nan : (f : Format) (b : ℕ) → ones f * hid f < b % top f → of_bits f b ≡ nan
of_nan f b h = nan_is (of_bits f b) (sym (nan_bits_is f b) ∙ nan_bits_above f b ∙ is_true (ltb (ones f * hid f) (b % top f)) (lt→ltb (ones f * hid f) (b % top f) h))

-- a zero
pub zero_val : (v : Float) (s : Bool) (k l m : ℕ) → HasValue v s (0 * 2 ^ k) (2 ^ l) → HasValue v s 0 (2 ^ m)
zero_val v s k l m w = rescale v s (0 * 2 ^ k) (2 ^ l) 0 (2 ^ m) (pow_pos l) (simp zero-mul) w

-- ---- from a sign and the rest to the pattern, for whatever is written of the value
pub signed_neg : (f : Format) (g : Float → ℕ) (C r b : ℕ) → top f ≤ b → ((s : Bool) → g (of_fields f s (b % top f / hid f) (b % top f % hid f)) ≡ cond s C 0 + r) → r + C ≡ g (of_bits f b)
signed_neg f g C r b h w = turn r C ∙ sym (ap g (of_signed f b true (is_true (leb (top f) b) (le→leb (top f) b h))) ∙ w true)
  where
    turn : (a b : ℕ) → a + b ≡ b + a
    turn a b = omega arith

pub signed_pos : (f : Format) (g : Float → ℕ) (C r b : ℕ) → b < top f → ((s : Bool) → g (of_fields f s (b % top f / hid f) (b % top f % hid f)) ≡ cond s C 0 + r) → r ≡ g (of_bits f b)
signed_pos f g C r b h w = sym (ap g (of_signed f b false (is_false (leb (top f) b) (lt→nleb (top f) b h))) ∙ w false ∙ zero-add r)
