-- The nearest pattern is the floor and the bit, rounded once. Assumes nothing.
use mathlib.Core.Path.{◌≡◌, refl, sym, ap, ◌∙◌, subst}
use mathlib.Core.Logic.{◌⊎◌, inl, inr}
use mathlib.Core.Bool.{Bool, true, false, ◌||◌, cond}
use Prim.Native.Nat.{ℕ, zero, suc, ◌+◌, ◌-◌, ◌*◌, ◌/◌, ◌%◌, ◌^◌, ◌≤◌, ◌<◌, compare}
use native.Mathlib.Nat.{zero-add, le_trans, le_of_eq, lt_of_lt_of_le, mul_assoc, add-mul, mod-lt, mul-pos, div-add-mod', le-div_iff_mul-le, div-lt_iff_lt-mul, mul-div-mul_right}
use native.Mathlib.Omega.{arith}
use lib.Dec.{ltb, eqb}
use lib.Pow.{pow-add, pow_pos}
use lib.Ieee.{binary32, size, to_bits, units}
use lib.Ieee.Digits.{size-le}
use lib.Ieee.Fits.{round_is, nearest-le}
use lib.Ieee.Nearest.{closest, nearest-ge}
use borrow.Author.Tests.{ltb-true, ltb-false}
use Rattle.rules.specs.Numerals.{infinity, nearest}
use Rattle.rules.proofs.Bools.{split}
use Rattle.rules.proofs.Numerals.Order.{near_lt, near_eq, near_gt}
use Rattle.rules.proofs.Numerals.Pattern.{Full, size_exact, units_bits, units_bits_inf}
use Rattle.boost.specs.Top.{left, halved}
use Rattle.boost.proofs.Divisions.{floor_floor, Left, left_or_not, left_left}

-- k of the places of q can be dropped: what is kept has 25 digits, or nothing is dropped
abbrev pub Cut : ℕ → ℕ → Type 0
Cut q k = (q / 2 ^ k < 2 ^ 25) × ((2 ^ 24 ≤ q / 2 ^ k) ⊎ (k ≡ 0))

-- the pattern of q half units and the bit, where k places are dropped: rounded once
abbrev pub pattern_of : ℕ → Bool → ℕ → ℕ
pattern_of q below k = let p = k * 2 ^ 23 + halved (q / 2 ^ k) (below || left q (2 ^ k)) in cond (ltb p infinity) p infinity

-- ---- n / u to the nearest whole number, by the floor of its halves
half_floor : (n u : ℕ) → n * 2 / u / 2 ≡ n / u
half_floor n u = floor_floor (n * 2) u 2 ∙ mul-div-mul_right n u (two 0)
  where
    two : (z : ℕ) → 0 < 2
    two z = omega arith

parity : (h : ℕ) → (h % 2 ≡ 0) ⊎ (h % 2 ≡ 1)
parity h = small (h % 2) (omega arith)
  where
    small : (r : ℕ) → r < 2 → (r ≡ 0) ⊎ (r ≡ 1)
    small zero l = inl refl
    small (suc zero) l = inr refl
    small (suc (suc r)) l = absurd (omega arith)

pub halved_even : (h : ℕ) (b : Bool) → h % 2 ≡ 0 → halved h b ≡ h / 2
halved_even h b e = rw e (omega arith)

pub halved_more : (h : ℕ) → h % 2 ≡ 1 → halved h true ≡ h / 2 + 1
halved_more h e = rw e

pub halved_tie : (h : ℕ) → h % 2 ≡ 1 → halved h false ≡ h / 2 + h / 2 % 2
halved_tie h e = rw e (go (parity (h / 2)))
  where
    go : (h / 2 % 2 ≡ 0) ⊎ (h / 2 % 2 ≡ 1) → h / 2 + cond (eqb (h / 2 % 2) 1) 1 0 ≡ h / 2 + h / 2 % 2
    go (inl f) = rw f
    go (inr f) = rw f

closest_halved : (n u : ℕ) → 0 < u → closest n u ≡ halved (n * 2 / u) (left (n * 2) u)
closest_halved n u U = go (parity (n * 2 / u)) (left_or_not (n * 2) u)
  where
    -- what is left of n, twice
    twice : (h w r s : ℕ) → h / 2 ≡ w → h * u + r ≡ n * 2 → w * u + s ≡ n → s * 2 ≡ h % 2 * u + r
    twice h w r s e f g = let a : h ≡ 2 * w + h % 2 = omega arith in let b : h * u ≡ (2 * w + h % 2) * u = ap (λ (x : ℕ). x * u) a in omega (arith, add-mul (2 * w) (h % 2) u, mul_assoc 2 w u)

    rest : n % u * 2 ≡ n * 2 / u % 2 * u + n * 2 % u
    rest = twice (n * 2 / u) (n / u) (n * 2 % u) (n % u) (half_floor n u) (div-add-mod' (n * 2) u) (div-add-mod' n u)

    below : n * 2 / u % 2 ≡ 0 → n % u * 2 ≡ n * 2 % u
    below e = rest ∙ rw e (omega arith)

    above : n * 2 / u % 2 ≡ 1 → n % u * 2 ≡ u + n * 2 % u
    above e = rest ∙ rw e (omega arith)

    go : (n * 2 / u % 2 ≡ 0) ⊎ (n * 2 / u % 2 ≡ 1) → Left (n * 2) u → closest n u ≡ halved (n * 2 / u) (left (n * 2) u)
    go (inl e) l = near_lt (n / u) (n % u * 2) u (omega (arith, below e, mod-lt (n * 2) U)) ∙ sym (halved_even (n * 2 / u) (left (n * 2) u) e ∙ half_floor n u)
    go (inr e) (inl l) =
        near_gt (n / u) (n % u * 2) u (omega (arith, above e, l.1))
        ∙ ap (λ (x : ℕ). x + 1) (sym (half_floor n u)) ∙ sym (ap (halved (n * 2 / u)) l.0 ∙ halved_more (n * 2 / u) e)
    go (inr e) (inr l) =
        near_eq (n / u) (n % u * 2) u (omega (arith, above e, l.1))
        ∙ ap (λ (x : ℕ). x + x % 2) (sym (half_floor n u)) ∙ sym (ap (halved (n * 2 / u)) l.0 ∙ halved_tie (n * 2 / u) e)

-- ---- the dropped places
half_lt : (h : ℕ) → h < 2 ^ 25 → h / 2 < 2 ^ 24
half_lt h l = omega arith

half_ge : (h : ℕ) → 2 ^ 24 ≤ h → 2 ^ 23 ≤ h / 2
half_ge h l = omega arith

module _ (num den k : ℕ) (D : 0 < den) where
  abbrev n : ℕ
  n = num * 2 ^ 149

  abbrev u : ℕ
  u = den * 2 ^ k

  abbrev q : ℕ
  q = num * 2 ^ 150 / den

  abbrev h : ℕ
  h = q / 2 ^ k

  abbrev c : ℕ
  c = closest n u

  u_pos : 0 < u
  u_pos = mul-pos D (pow_pos k)

  twice_n : num * 2 ^ 150 ≡ n * 2
  twice_n = ap (λ (x : ℕ). num * x) (pow-add 2 149 1) ∙ sym (mul_assoc num (2 ^ 149) 2)

  h_is : n * 2 / u ≡ h
  h_is = ap (λ (x : ℕ). x / u) (sym twice_n) ∙ sym (floor_floor (num * 2 ^ 150) den (2 ^ k))

  rest_is : left (n * 2) u ≡ left (num * 2 ^ 150) den || left q (2 ^ k)
  rest_is = ap (λ (x : ℕ). left x u) (sym twice_n) ∙ left_left (num * 2 ^ 150) den (2 ^ k) D (pow_pos k)

  c_is : c ≡ halved h (left (num * 2 ^ 150) den || left q (2 ^ k))
  c_is = closest_halved n u u_pos ∙ ap (λ (x : ℕ). halved x (left (n * 2) u)) h_is ∙ ap (halved h) rest_is

  -- the units: whole ones
  w_is : n / u ≡ h / 2
  w_is = sym (half_floor n u) ∙ ap (λ (x : ℕ). x / 2) h_is

  z_is : n / den / 2 ^ k ≡ h / 2
  z_is = floor_floor n den (2 ^ k) ∙ w_is

  c_le : Cut q k → c ≤ 2 ^ 24
  c_le a = le_trans (nearest-le (n / u) (compare (n % u * 2) u)) (subst (λ (x : ℕ). x < 2 ^ 24) (sym w_is) (half_lt h a.0))

  full : Cut q k → Full c k
  full a = go a.1
    where
      go : (2 ^ 24 ≤ h) ⊎ (k ≡ 0) → Full c k
      go (inl g) = inl (le_trans (subst (λ (x : ℕ). 2 ^ 23 ≤ x) (sym w_is) (half_ge h g)) (nearest-ge (n / u) (compare (n % u * 2) u)))
      go (inr e) = inr e

  places : Cut q k → size (n / den) - 24 ≡ k
  places a = go a.1
    where
      top : n / den < 2 ^ 24 * 2 ^ k
      top = (div-lt_iff_lt-mul (pow_pos k)).0 (subst (λ (x : ℕ). x < 2 ^ 24) (sym z_is) (half_lt h a.0))

      one : (k : ℕ) → 24 + k ≡ suc (23 + k)
      one k = omega arith

      off : (k z : ℕ) → z ≡ suc (23 + k) → z - 24 ≡ k
      off k z e = omega arith

      none : (k z : ℕ) → k ≡ 0 → z ≤ 24 + k → z - 24 ≡ k
      none k z e l = omega arith

      top_pow : n / den < 2 ^ (24 + k)
      top_pow = lt_of_lt_of_le top (le_of_eq (sym (pow-add 2 24 k)))

      go : (2 ^ 24 ≤ h) ⊎ (k ≡ 0) → size (n / den) - 24 ≡ k
      go (inl g) = off k (size (n / den)) (size_exact (23 + k) (n / den)
          (le_trans (le_of_eq (pow-add 2 23 k)) ((le-div_iff_mul-le (pow_pos k)).0 (subst (λ (x : ℕ). 2 ^ 23 ≤ x) (sym z_is) (half_ge h g))))
          (subst (λ (x : ℕ). n / den < 2 ^ x) (one k) top_pow))
      go (inr e) = none k (size (n / den)) e (size-le (n / den) (24 + k) top_pow)

  bits : Cut q k → nearest num den ≡ to_bits binary32 (units binary32 false c k)
  unfolding nearest
  bits a = ap (to_bits binary32) (round_is binary32 false num den ∙ ap (λ (x : ℕ). units binary32 false (closest n (den * 2 ^ x)) x) (places a))

  -- one rounding of the floor and the bit, at any cut
  pub nearest_rounded : Cut q k → nearest num den ≡ pattern_of q (left (num * 2 ^ 150) den) k
  nearest_rounded a = bits a ∙ go (split (ltb P infinity)) ∙ ap (λ (x : ℕ). cond (ltb (k * 2 ^ 23 + x) infinity) (k * 2 ^ 23 + x) infinity) c_is
    where
      P : ℕ
      P = k * 2 ^ 23 + c

      go : (ltb P infinity ≡ true) ⊎ (ltb P infinity ≡ false) → to_bits binary32 (units binary32 false c k) ≡ cond (ltb P infinity) P infinity
      go (inl t) = rw t (units_bits false c k (c_le a) (full a) (ltb-true P infinity t) ∙ zero-add P)
      go (inr t) = rw t (units_bits_inf false c k (c_le a) (full a) (ltb-false P infinity t))

pub odd : (h : ℕ) → (h % 2 ≡ 0 → ⊥) → h % 2 ≡ 1
odd h n = go (parity h)
  where
    go : (h % 2 ≡ 0) ⊎ (h % 2 ≡ 1) → h % 2 ≡ 1
    go (inl e) = absurd (n e)
    go (inr e) = e
