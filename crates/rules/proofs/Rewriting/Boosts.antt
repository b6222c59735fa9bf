-- Boosts as floats: a boost, widened and rounded back, is the same, and products and rounded sums are boosts again.
use mathlib.Core.Path.{◌≡◌, refl, sym, ap, ◌∙◌, subst}
use mathlib.Core.Logic.{◌⊎◌, inl, inr}
use Prim.Native.Nat.{ℕ, zero, suc, ◌+◌, ◌-◌, ◌*◌, ◌/◌, ◌%◌, ◌^◌, ◌≤◌, ◌<◌}
use mathlib.Core.Bool.{Bool, true, false, not, cond, ◌&&◌, ◌||◌, beq}
use native.Mathlib.Omega.{arith}
use native.Mathlib.Nat.{mul_right_comm, mul-lt-mul_of_pos_right, zero-mul, lt_irrefl, lt_of_lt_of_le}
use native.Mathlib.Decide.{dec_le}
use lib.Dec.{T, leb, ltb, eqb, ltb→lt, leb→le}
use lib.IntN.{ℤ, pos, negsuc}
use lib.Pow.{pow_pos, pow-lt, pow-add}
use borrow.Author.Tests.{eqb-true, eq-eqb, lt-ltb}
use lib.Ieee.{Float, nan, inf, fin, Format, binary32, prec, emax, low, up, down, size, hid, top, round, of_bits, to_bits, nan_bits, is_nan, fits, mul, eq}
use lib.Ieee.Exact.{HasValue, round_exact}
use lib.Ieee.Fits.{down_pos, round-fits, nan-fits, inf-fits, mul-fits, and_l as and-l-T, and_r as and-r-T}
use lib.Ieee.Nearest.{div_same}
use lib.Ieee.Bits.{of_bits-to_bits, of_bits-fits, to_bits-lt, to_bits-of_bits, nan_bits_is}
use Rattle.rules.specs.Stored.{the_nan, is_boost}
use Rattle.rules.specs.Floats.{one, rounded, widened, narrowed, times, is_one}
use Rattle.rules.proofs.Bools.{clash, both, and_l, and_r, or_l, either, alike}
use Rattle.rules.proofs.Stored.Inverse.{boost_below}

-- ---- rounding what fits

-- the bits of a value go by its size alone
to_bits_same : (f : Format) (v : Float) (s : Bool) (m : ℕ) (e : ℤ) → HasValue v s (m * up e) (down e) → to_bits f v ≡ to_bits f (fin s m e)
unfolding to_bits
to_bits_same f nan s m e h = absurd h
to_bits_same f (inf t) s m e h = absurd h
to_bits_same f (fin t n d) s m e h =
    let L = 2 ^ low f in
    ap (λ (x : ℕ). cond t (top f) 0 + (size x - prec f) * hid f + x / 2 ^ (size x - prec f))
    (div_same (n * up d * L) (down d) (m * up e * L) (down e) (down_pos d) (down_pos e)
    (mul_right_comm (n * up d) L (down e) ∙ ap (λ (x : ℕ). x * L) h.1 ∙ mul_right_comm (m * up e) (down d) L))
    ∙ ap (λ (u : Bool). cond u (top f) 0 + (size (m * up e * L / down e) - prec f) * hid f + (m * up e * L / down e) / 2 ^ (size (m * up e * L / down e) - prec f)) h.0

up_lt : (n P L E : ℕ) → n * P * L < E * 1 * L → n * (P * L) < L * E
up_lt n P L E h = omega arith

up_eq : (n P L : ℕ) → n * P * L ≡ n * (P * L) * 1
up_eq n P L = omega arith

down_lt : (n J D L E : ℕ) → J * D ≡ L → n * 1 * J < E * D * J → n * J < L * E
down_lt n J D L E e h = let g : J * D * E ≡ L * E = ap (λ (x : ℕ). x * E) e in omega arith

down_eq : (n J D L : ℕ) → J * D ≡ L → n * 1 * L ≡ n * J * D
down_eq n J D L e = let g : n * (J * D) ≡ n * L = ap (λ (x : ℕ). n * x) e in omega arith

some_left : (l k : ℕ) → 2 ^ k ≤ 2 ^ l → k ≤ l
some_left l k h = pass (dec_le k l)
  where
    pass : Dec (k ≤ l) → k ≤ l
    pass (yes a) = a
    pass (no n) = absurd (lt_irrefl (2 ^ l) (lt_of_lt_of_le (pow-lt (above n)) h))
      where
        above : (k ≤ l → ⊥) → l < k
        above n = omega arith

minus_back : (l k : ℕ) → k ≤ l → l - k + k ≡ l
minus_back l k h = omega arith

-- a value that fits is what it is rounded to
exact : (f : Format) (s : Bool) (m : ℕ) (e : ℤ) → T (fits f (fin s m e)) → HasValue (round f s (m * up e) (down e)) s (m * up e) (down e)
unfolding fits
exact f s zero e t =
    round_exact f s (zero * up e) (down e) 0 0 (down_pos e) (pow_pos (prec f)) (pow_pos (low f + suc (emax f)))
    (ap (λ (x : ℕ). x * 2 ^ low f) (zero-mul (up e)) ∙ zero-mul (2 ^ low f) ∙ sym (zero-mul (down e)))
exact f s (suc m) (pos k) t =
    let n = suc m in
    let a = eqb (n % 2) 1 in
    let b = ltb n (2 ^ prec f) in
    let c = leb 1 (2 ^ low f) in
    let d = ltb (n * 2 ^ k) (2 ^ suc (emax f) * 1) in
    let big : n * 2 ^ k < 2 ^ suc (emax f) * 1 = ltb→lt (n * 2 ^ k) (2 ^ suc (emax f) * 1) (and-r-T (a && b && c) d t) in
    let few : n < 2 ^ prec f = ltb→lt n (2 ^ prec f) (and-r-T a b (and-l-T (a && b) c (and-l-T (a && b && c) d t))) in
    round_exact f s (n * 2 ^ k) 1 n (k + low f) (pow_pos 0) few
    (rw (pow-add 2 k (low f), pow-add 2 (low f) (suc (emax f))) (up_lt n (2 ^ k) (2 ^ low f) (2 ^ suc (emax f)) (mul-lt-mul_of_pos_right big (pow_pos (low f)))))
    (rw (pow-add 2 k (low f)) (up_eq n (2 ^ k) (2 ^ low f)))
exact f s (suc m) (negsuc k) t =
    let n = suc m in
    let a = eqb (n % 2) 1 in
    let b = ltb n (2 ^ prec f) in
    let c = leb (2 ^ suc k) (2 ^ low f) in
    let d = ltb (n * 1) (2 ^ suc (emax f) * 2 ^ suc k) in
    let big : n * 1 < 2 ^ suc (emax f) * 2 ^ suc k = ltb→lt (n * 1) (2 ^ suc (emax f) * 2 ^ suc k) (and-r-T (a && b && c) d t) in
    let few : n < 2 ^ prec f = ltb→lt n (2 ^ prec f) (and-r-T a b (and-l-T (a && b) c (and-l-T (a && b && c) d t))) in
    let deep : suc k ≤ low f = some_left (low f) (suc k) (leb→le (2 ^ suc k) (2 ^ low f) (and-r-T (a && b) c (and-l-T (a && b && c) d t))) in
    let j = low f - suc k in
    let parts : 2 ^ j * 2 ^ suc k ≡ 2 ^ low f = sym (pow-add 2 j (suc k)) ∙ ap (λ (x : ℕ). 2 ^ x) (minus_back (low f) (suc k) deep) in
    round_exact f s (n * 1) (2 ^ suc k) n j (pow_pos (suc k)) few
    (rw (pow-add 2 (low f) (suc (emax f))) (down_lt n (2 ^ j) (2 ^ suc k) (2 ^ low f) (2 ^ suc (emax f)) parts (mul-lt-mul_of_pos_right big (pow_pos j))))
    (down_eq n (2 ^ j) (2 ^ suc k) (2 ^ low f) parts)

pub rounded_back : (f : Format) (x : Float) → T (fits f x) → to_bits f (rounded f x) ≡ to_bits f x
unfolding rounded
rounded_back f nan t = refl
rounded_back f (inf s) t = refl
rounded_back f (fin s m e) t = to_bits_same f (round f s (m * up e) (down e)) s m e (exact f s m e t)

pub rounded_fits : (f : Format) (x : Float) → T (fits f (rounded f x))
unfolding rounded
rounded_fits f nan = nan-fits f
rounded_fits f (inf s) = inf-fits f s
rounded_fits f (fin s m e) = round-fits f s (m * up e) (down e)

-- ---- boosts

-- the bits that are written for a 32-bit float are a boost
number_boost : (x : Float) → T (fits binary32 x) → is_nan x ≡ false → is_boost (to_bits binary32 x) ≡ true
number_boost x t h =
    let b = to_bits binary32 x in
    let n : nan_bits binary32 b ≡ false = nan_bits_is binary32 b ∙ ap is_nan (of_bits-to_bits binary32 x t) ∙ h in
    both (lt-ltb b (2 ^ 32) (to_bits-lt binary32 x t)) (or_l {a = not (nan_bits binary32 b)} (eqb b the_nan) (rw n))

is_boost_lem : (x : Float) → T (fits binary32 x) → is_boost (to_bits binary32 x) ≡ true
unfolding to_bits nan_bits is_nan
is_boost_lem nan t = refl
is_boost_lem (inf s) t = number_boost (inf s) t refl
is_boost_lem (fin s m e) t = number_boost (fin s m e) t refl

nan_back : to_bits binary32 (of_bits binary32 the_nan) ≡ the_nan
unfolding to_bits of_bits
nan_back = refl

bits_back : (b : ℕ) → is_boost b ≡ true → to_bits binary32 (of_bits binary32 b) ≡ b
bits_back b h = go (either (not (nan_bits binary32 b)) (eqb b the_nan) (and_r (ltb b (2 ^ 32)) (not (nan_bits binary32 b) || eqb b the_nan) h))
  where
    go : (not (nan_bits binary32 b) ≡ true) ⊎ (eqb b the_nan ≡ true) → to_bits binary32 (of_bits binary32 b) ≡ b
    go (inl n) = to_bits-of_bits binary32 b (boost_below b h) (subst T (sym (ap not (sym (nan_bits_is binary32 b)) ∙ n)) tt)
    go (inr e) = rw (eqb-true b the_nan e) nan_back

pub narrowed_widened : (b : ℕ) → is_boost b ≡ true → narrowed (widened b) ≡ b
unfolding narrowed widened
narrowed_widened b h = rounded_back binary32 (of_bits binary32 b) (of_bits-fits binary32 b) ∙ bits_back b h

pub times_boost : (a b : ℕ) → is_boost (times a b) ≡ true
unfolding times
times_boost a b = is_boost_lem (mul binary32 (of_bits binary32 a) (of_bits binary32 b)) (mul-fits binary32 (of_bits binary32 a) (of_bits binary32 b))

pub narrowed_boost : (s : Float) → is_boost (narrowed s) ≡ true
unfolding narrowed
narrowed_boost s = is_boost_lem (rounded binary32 s) (rounded_fits binary32 s)

pub zero_boost : is_boost 0 ≡ true
unfolding nan_bits
zero_boost = refl

-- ---- one

pub one_one : is_one one ≡ true
unfolding is_one one eq of_bits
one_one = refl

-- the bits of one
abbrev pub one_bits : ℕ
one_bits = 0x3f80_0000

pub widened_one : widened one_bits ≡ one
unfolding widened one of_bits
widened_one = refl

pub narrowed_one : narrowed one ≡ one_bits
unfolding narrowed rounded one of_bits to_bits round
narrowed_one = refl

-- a float that is one has its value
one_value : (x : Float) → is_one x ≡ true → HasValue x false (1 * up (pos 0)) (down (pos 0))
unfolding is_one one eq of_bits
one_value nan e = clash e refl
one_value (inf s) e = clash e refl
one_value (fin s m d) e =
    let a = m * up d * down (pos 0) in
    let b = 1 * up (pos 0) * down d in
    let h : a ≡ b = eqb-true a b (and_l (eqb a b) _ e) in
    (positive s a (omega (arith, down_pos d)) (and_r (eqb a b) _ e), h)
  where
    positive : (s : Bool) (a : ℕ) → 0 < a → (beq s false || eqb a 0) ≡ true → s ≡ false
    positive true a l t = absurd (let z = eqb-true a 0 t in omega arith)
    positive false a l t = refl

-- a boost is one by its bits
pub is_one_lem : (b : ℕ) → is_boost b ≡ true → is_one (widened b) ≡ eqb b one_bits
unfolding widened to_bits
is_one_lem b h = alike (is_one (widened b)) (eqb b one_bits) (λ e. eq-eqb b one_bits (bits e)) (λ e. rw (eqb-true b one_bits e, widened_one) one_one)
  where
    bits : is_one (widened b) ≡ true → b ≡ one_bits
    bits e = sym (bits_back b h) ∙ to_bits_same binary32 (widened b) false 1 (pos 0) (one_value (widened b) e)
