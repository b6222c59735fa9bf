-- What the proof of `narrow_finite` cites. Assumes nothing.
use mathlib.Core.Path.{◌≡◌, refl, sym, ap, ◌∙◌, subst}
use mathlib.Core.Logic.{inl, inr}
use mathlib.Core.Bool.{Bool, true, false, cond}
use Prim.Native.Nat.{ℕ, suc, ◌+◌, ◌-◌, ◌*◌, ◌/◌, ◌%◌, ◌^◌, ◌≤◌, ◌<◌, compare}
use native.Mathlib.Nat.{le_trans, le_of_eq, lt_of_lt_of_le, mul_assoc, mul-le-mul_right, mul-lt-mul_of_pos_right, le-div_iff_mul-le, div-lt_iff_lt-mul, div-eq_of_lt, mod-eq_of_lt}
use native.Mathlib.Omega.{arith}
use lib.Dec.{lit<, lit≤}
use lib.Pow.{pow-add, pow_pos, pow_mono, shl_lt}
use lib.Count.{count_leading_zeros}
use lib.Ieee.{Float, nan, binary32, binary64, size, units, nearest, round, of_fields, of_bits, to_bits}
use lib.Ieee.Digits.{size-le}
use lib.Ieee.Fits.{nearest-le}
use lib.Ieee.Exact.{HasValue}
use lib.Ieee.Nearest.{closest, nearest-ge}
use Rattle.rules.specs.Floats.{rounded, narrowed}
use Rattle.rules.proofs.Numerals.Order.{near_lt}
use Rattle.rules.proofs.Numerals.Pattern.{size_exact, rounded_val, units_bits, units_bits_inf, round_at}
use Rattle.floats.specs.Bits.{Narrowed, NarrowedBits}
use Rattle.floats.proofs.Model.{Top, top_of, moved, normal_lo, zero_val, of_low, of_high, of_nan}

top : (q : ℕ) → 0 < q → q < 2 ^ 53 → Top 64 53 q (count_leading_zeros 64 q)
top q p h = top_of 64 53 q (lit≤ tt) p h

pub zeros : (q : ℕ) → 0 < q → q < 2 ^ 53 → (11 ≤ count_leading_zeros 64 q) × (count_leading_zeros 64 q < 64)
zeros q p h = let t = top q p h in omega arith

-- moved up to 63 places
pub digits : (q z : ℕ) → Top 64 53 q z → (2 ^ 62 ≤ q * 2 ^ (z - 1)) × (q * 2 ^ (z - 1) < 2 ^ 63)
digits q z t = (
  subst (λ (x : ℕ). 2 ^ x ≤ q * 2 ^ (z - 1)) (at t.j z t.makes t.few) (normal_lo q t.j (z - 1) t.lo),
  subst (λ (x : ℕ). q * 2 ^ (z - 1) < 2 ^ x) (over t.j z t.makes t.few) (shl_lt (suc t.j) (z - 1) t.hi),
)
  where
    at : (j z : ℕ) → z + suc j ≡ 64 → j < 53 → j + (z - 1) ≡ 62
    at j z e h = omega arith

    over : (j z : ℕ) → z + suc j ≡ 64 → j < 53 → suc j + (z - 1) ≡ 63
    over j z e h = omega arith

-- ---- n * 2 ^ e / 2 ^ 1137 rounded, for an n of 63 places
module _ (n e : ℕ) (lo : 2 ^ 62 ≤ n) (hi : n < 2 ^ 63) where
  scale : (D k : ℕ) → e + 149 + D ≡ 1137 + k → n * 2 ^ e * 2 ^ 149 * 2 ^ D ≡ n * (2 ^ 1137 * 2 ^ k)
  scale D k h =
      ap (λ (x : ℕ). x * 2 ^ D) (mul_assoc n (2 ^ e) (2 ^ 149) ∙ ap (λ (x : ℕ). n * x) (sym (pow-add 2 e 149)))
      ∙ mul_assoc n (2 ^ (e + 149)) (2 ^ D)
      ∙ ap (λ (x : ℕ). n * x) (sym (pow-add 2 (e + 149) D) ∙ ap (λ (x : ℕ). 2 ^ x) h ∙ pow-add 2 1137 k)

  whole : n * 2 ^ e * 2 ^ 149 ≡ n * 2 ^ (e + 149)
  whole = mul_assoc n (2 ^ e) (2 ^ 149) ∙ ap (λ (x : ℕ). n * x) (sym (pow-add 2 e 149))

  few : e < 949 → size (n * 2 ^ e * 2 ^ 149 / 2 ^ 1137) - 24 ≡ 0
  few h = go (size (n * 2 ^ e * 2 ^ 149 / 2 ^ 1137)) (size-le (n * 2 ^ e * 2 ^ 149 / 2 ^ 1137) 24 ((div-lt_iff_lt-mul (pow_pos 1137)).1
      (subst (λ (x : ℕ). x < 2 ^ 24 * 2 ^ 1137) (sym whole) (lt_of_lt_of_le (shl_lt 63 (e + 149) hi) (le_trans (pow_mono (by e h)) (le_of_eq (pow-add 2 24 1137)))))))
    where
      go : (z : ℕ) → z ≤ 24 → z - 24 ≡ 0
      go z l = omega arith

      by : (e : ℕ) → e < 949 → 63 + (e + 149) ≤ 24 + 1137
      by e l = omega arith

  many : 949 ≤ e → size (n * 2 ^ e * 2 ^ 149 / 2 ^ 1137) - 24 ≡ e - 949
  many h =
      ap (λ (x : ℕ). x - 24) (size_exact (e - 926) (n * 2 ^ e * 2 ^ 149 / 2 ^ 1137)
      ((le-div_iff_mul-le (pow_pos 1137)).1
      (subst (λ (x : ℕ). 2 ^ (e - 926) * 2 ^ 1137 ≤ x) (sym whole)
      (le_trans (le_of_eq (sym (pow-add 2 (e - 926) 1137) ∙ ap (λ (x : ℕ). 2 ^ x) (at e h) ∙ pow-add 2 62 (e + 149))) (mul-le-mul_right (2 ^ (e + 149)) lo))))
      ((div-lt_iff_lt-mul (pow_pos 1137)).1
      (subst (λ (x : ℕ). x < 2 ^ suc (e - 926) * 2 ^ 1137) (sym whole)
      (lt_of_lt_of_le (shl_lt 63 (e + 149) hi) (le_of_eq (ap (λ (x : ℕ). 2 ^ x) (over e h) ∙ pow-add 2 (suc (e - 926)) 1137))))))
      ∙ off e h
    where
      at : (e : ℕ) → 949 ≤ e → e - 926 + 1137 ≡ 62 + (e + 149)
      at e h = omega arith

      over : (e : ℕ) → 949 ≤ e → 63 + (e + 149) ≡ suc (e - 926) + 1137
      over e h = omega arith

      off : (e : ℕ) → 949 ≤ e → suc (e - 926) - 24 ≡ e - 949
      off e h = omega arith

  -- the whole digits that are kept
  kept_low : (D : ℕ) → 40 ≤ D → closest n (2 ^ D) ≤ 2 ^ 23
  kept_low D h = le_trans (nearest-le (n / 2 ^ D) (compare (n % 2 ^ D * 2) (2 ^ D))) ((div-lt_iff_lt-mul (pow_pos D)).1
      (lt_of_lt_of_le hi (le_trans (pow_mono (by D h)) (le_of_eq (pow-add 2 23 D)))))
    where
      by : (D : ℕ) → 40 ≤ D → 63 ≤ 23 + D
      by D h = omega arith

  pub kept_high : (2 ^ 23 ≤ closest n (2 ^ 39)) × (closest n (2 ^ 39) ≤ 2 ^ 24)
  kept_high = (
    le_trans (go n lo) (nearest-ge (n / 2 ^ 39) (compare (n % 2 ^ 39 * 2) (2 ^ 39))),
    le_trans (nearest-le (n / 2 ^ 39) (compare (n % 2 ^ 39 * 2) (2 ^ 39))) (up n hi),
  )
    where
      go : (n : ℕ) → 2 ^ 62 ≤ n → 2 ^ 23 ≤ n / 2 ^ 39
      go n h = omega arith

      up : (n : ℕ) → n < 2 ^ 63 → n / 2 ^ 39 < 2 ^ 24
      up n h = omega arith

  pub kept_mid : 925 ≤ e → e < 949 → closest n (2 ^ (988 - e)) ≤ 2 ^ 23
  kept_mid g h = kept_low (988 - e) (by e h)
    where
      by : (e : ℕ) → e < 949 → 40 ≤ 988 - e
      by e h = omega arith

  tiny : e < 925 → closest n (2 ^ (988 - e)) ≡ 0
  tiny h =
      let D = 988 - e in
      let l : n * 2 < 2 ^ D = lt_of_lt_of_le (mul-lt-mul_of_pos_right hi (lit< tt)) (pow_mono {i = 64} (by e h)) in
      let w : n < 2 ^ D = go n (2 ^ D) l in
      ap (λ (x : ℕ). nearest x (compare (n % 2 ^ D * 2) (2 ^ D))) (div-eq_of_lt w) ∙ near_lt 0 (n % 2 ^ D * 2) (2 ^ D) (subst (λ (x : ℕ). x * 2 < 2 ^ D) (sym (mod-eq_of_lt w)) l)
    where
      by : (e : ℕ) → e < 925 → 64 ≤ 988 - e
      by e h = omega arith

      go : (n w : ℕ) → n * 2 < w → n < w
      go n w h = omega arith

  -- below 949 nothing is dropped from the unit, and the pattern is the rounded number of units
  low_bits : (s : Bool) (v : Float) → e < 949 → HasValue v s (n * 2 ^ e) (2 ^ 1137) → narrowed v ≡ cond s (2 ^ 31) 0 + closest n (2 ^ (988 - e))
  unfolding narrowed
  low_bits s v h w =
      let q = closest n (2 ^ (988 - e)) in
      let k : q ≤ 2 ^ 23 = kept_low (988 - e) (by e h) in
      ap (to_bits binary32) (rounded_val binary32 v s (n * 2 ^ e) (2 ^ 1137) (pow_pos 1137) w
      ∙ round_at s (n * 2 ^ e) (2 ^ 1137) n (988 - e) 0 (pow_pos 1137) (few h) (scale (988 - e) 0 (sum e h)))
      ∙ units_bits s q 0 (up q k) (inr refl) (small q k)
      ∙ ap (λ (x : ℕ). cond s (2 ^ 31) 0 + x) (tidy q)
    where
      by : (e : ℕ) → e < 949 → 40 ≤ 988 - e
      by e h = omega arith

      sum : (e : ℕ) → e < 949 → e + 149 + (988 - e) ≡ 1137 + 0
      sum e h = omega arith

      up : (q : ℕ) → q ≤ 2 ^ 23 → q ≤ 2 ^ 24
      up q h = omega arith

      small : (q : ℕ) → q ≤ 2 ^ 23 → 0 * 2 ^ 23 + q < 0x7f80_0000
      small q h = omega arith

      tidy : (q : ℕ) → 0 * 2 ^ 23 + q ≡ q
      tidy q = omega arith

  high_round : (s : Bool) (v : Float) → 949 ≤ e → HasValue v s (n * 2 ^ e) (2 ^ 1137) → rounded binary32 v ≡ units binary32 s (closest n (2 ^ 39)) (e - 949)
  high_round s v h w =
      rounded_val binary32 v s (n * 2 ^ e) (2 ^ 1137) (pow_pos 1137) w
      ∙ round_at s (n * 2 ^ e) (2 ^ 1137) n 39 (e - 949) (pow_pos 1137) (many h) (scale 39 (e - 949) (sum e h))
    where
      sum : (e : ℕ) → 949 ≤ e → e + 149 + 39 ≡ 1137 + (e - 949)
      sum e h = omega arith

-- ---- what the code returns, for q above 0
module _ (q k : ℕ) (p : 0 < q) (h : q < 2 ^ 53) where
  abbrev z : ℕ
  z = count_leading_zeros 64 q

  abbrev n : ℕ
  n = q * 2 ^ (z - 1)

  abbrev e : ℕ
  e = k + 64 - z

  lo : 2 ^ 62 ≤ n
  lo = (digits q z (top q p h)).0

  hi : n < 2 ^ 63
  hi = (digits q z (top q p h)).1

  -- the shift as the machine has it
  pub shifted : n % 2 ^ 64 ≡ n
  shifted = go n hi
    where
      go : (n : ℕ) → n < 2 ^ 63 → n % 2 ^ 64 ≡ n
      go n h = omega arith

  at : (s : Bool) (v : Float) → HasValue v s (q * 2 ^ k) (2 ^ 1074) → HasValue v s (n * 2 ^ e) (2 ^ 1137)
  at s v w = moved v s q k 1074 (z - 1) e 1137 (by z k (zeros q p h).0 (zeros q p h).1) w
    where
      by : (z k : ℕ) → 11 ≤ z → z < 64 → z - 1 + (k + 64 - z) + 1074 ≡ k + 1137
      by z k a b = omega arith

  pub narrowed_tiny : e < 925 → Narrowed q k 0
  narrowed_tiny l = record {
    is = λ s v w. low_bits n e lo hi s v (up e l) (at s v w) ∙ ap (λ (x : ℕ). cond s (2 ^ 31) 0 + x) (tiny n e lo hi l);
    small = lit≤ tt;
  }
    where
      up : (e : ℕ) → e < 925 → e < 949
      up e l = omega arith

  pub narrowed_low : e < 949 → (r : ℕ) → r ≡ closest (n % 2 ^ 64) (2 ^ (988 - e)) → Narrowed q k r
  narrowed_low l r f =
      let i : r ≡ closest n (2 ^ (988 - e)) = f ∙ ap (λ (x : ℕ). closest x (2 ^ (988 - e))) shifted in
      record {
        is = λ s v w. low_bits n e lo hi s v l (at s v w) ∙ ap (λ (x : ℕ). cond s (2 ^ 31) 0 + x) (sym i);
        small = go r (subst (λ (x : ℕ). x ≤ 2 ^ 23) (sym i) (kept_low n e lo hi (988 - e) (by e l)));
      }
    where
      by : (e : ℕ) → e < 949 → 40 ≤ 988 - e
      by e h = omega arith

      go : (r : ℕ) → r ≤ 2 ^ 23 → r ≤ 0x7f80_0000
      go r h = omega arith

  pub kept_is : (r : ℕ) → r ≡ closest (n % 2 ^ 64) (2 ^ 39) → (2 ^ 23 ≤ r) × (r ≤ 2 ^ 24)
  kept_is r f = subst (λ (x : ℕ). (2 ^ 23 ≤ x) × (x ≤ 2 ^ 24)) (sym (f ∙ ap (λ (x : ℕ). closest x (2 ^ 39)) shifted)) (kept_high n e lo hi)

  units_are : (s : Bool) (v : Float) (r : ℕ) → r ≡ closest (n % 2 ^ 64) (2 ^ 39) → 949 ≤ e → HasValue v s (q * 2 ^ k) (2 ^ 1074) → narrowed v ≡ to_bits binary32 (units binary32 s r (e - 949))
  unfolding narrowed
  units_are s v r f g w =
      ap (to_bits binary32) (high_round n e lo hi s v g (at s v w) ∙ ap (λ (x : ℕ). units binary32 s x (e - 949)) (sym (f ∙ ap (λ (x : ℕ). closest x (2 ^ 39)) shifted)))

  pub narrowed_high : 949 ≤ e → (r : ℕ) → r ≡ closest (n % 2 ^ 64) (2 ^ 39) → (e - 949) * 2 ^ 23 + r < 0x7f80_0000 → Narrowed q k ((e - 949) * 2 ^ 23 + r)
  narrowed_high g r f l = record {
    is = λ s v w. units_are s v r f g w ∙ units_bits s r (e - 949) (kept_is r f).1 (inl (kept_is r f).0) l;
    small = go ((e - 949) * 2 ^ 23 + r) l;
  }
    where
      go : (a : ℕ) → a < 0x7f80_0000 → a ≤ 0x7f80_0000
      go a h = omega arith

  pub narrowed_over : 949 ≤ e → (r : ℕ) → r ≡ closest (n % 2 ^ 64) (2 ^ 39) → 0x7f80_0000 ≤ (e - 949) * 2 ^ 23 + r → Narrowed q k 0x7f80_0000
  narrowed_over g r f l = record {
    is = λ s v w. units_are s v r f g w ∙ units_bits_inf s r (e - 949) (kept_is r f).1 (inl (kept_is r f).0) l;
    small = lit≤ tt;
  }

-- ---- a zero
zero_round : (s : Bool) → to_bits binary32 (round binary32 s 0 (2 ^ 1074)) ≡ cond s (2 ^ 31) 0 + 0
unfolding round to_bits
zero_round true = refl
zero_round false = refl

pub narrowed_zero : (q k : ℕ) → q ≡ 0 → Narrowed q k 0
unfolding narrowed
narrowed_zero q k e =
    subst (λ (x : ℕ). Narrowed x k 0) (sym e)
    (record { is = λ s v w. ap (to_bits binary32) (rounded_val binary32 v s 0 (2 ^ 1074) (pow_pos 1074) (zero_val v s k 1074 1074 w)) ∙ zero_round s; small = lit≤ tt })

-- ---- from a pattern's fields
pub narrowed_sub : (m r : ℕ) → m < 2 ^ 52 → Narrowed m 0 r → NarrowedBits m r
narrowed_sub m r h w = record { is = λ s. w.is s (of_fields binary64 s (m / 2 ^ 52) (m % 2 ^ 52)) (of_low binary64 s m h); small = w.small }

pub narrowed_normal : (m r : ℕ) → 2 ^ 52 ≤ m → m < 2047 * 2 ^ 52 → Narrowed (m % 2 ^ 52 + 2 ^ 52) (m / 2 ^ 52 - 1) r → NarrowedBits m r
narrowed_normal m r g h w = record { is = λ s. w.is s (of_fields binary64 s (m / 2 ^ 52) (m % 2 ^ 52)) (of_high binary64 s m g h); small = w.small }

inf_is : (s : Bool) → narrowed (of_fields binary64 s 2047 0) ≡ cond s (2 ^ 31) 0 + 0x7f80_0000
unfolding of_fields to_bits rounded narrowed
inf_is true = refl
inf_is false = refl

pub narrowed_inf : (m : ℕ) → m ≡ 0x7ff0_0000_0000_0000 → NarrowedBits m 0x7f80_0000
narrowed_inf m e = subst (λ (x : ℕ). NarrowedBits x 0x7f80_0000) (sym e) (record { is = inf_is; small = lit≤ tt })

nan_bits_lem : narrowed nan ≡ 0x7fc0_0000
unfolding to_bits rounded narrowed
nan_bits_lem = refl

pub narrowed_nan : (b : ℕ) → 0x7ff0_0000_0000_0000 < b % 0x8000_0000_0000_0000 → 0x7fc0_0000 ≡ narrowed (of_bits binary64 b)
narrowed_nan b h = sym (ap narrowed (of_nan binary64 b h) ∙ nan_bits_lem)
