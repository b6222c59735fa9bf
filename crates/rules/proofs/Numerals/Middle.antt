-- The size of a pattern by its digits and places; sizes grow with the pattern, so `Nearest` has one answer. Assumes nothing.
use mathlib.Core.Path.{◌≡◌, refl, sym, ap, ◌∙◌, subst}
use mathlib.Core.Logic.{inl, inr}
use mathlib.Core.Bool.{Bool, cond}
use Prim.Native.Nat.{ℕ, zero, suc, ◌+◌, ◌-◌, ◌*◌, ◌/◌, ◌%◌, ◌^◌, ◌≤◌, ◌<◌}
use native.Mathlib.Nat.{le_refl, le_trans, le_of_eq, le_of_lt, le_antisymm, lt_of_lt_of_le, not-le_of_lt, eq-or-lt_of_le, mul_assoc, add-mul, suc-mul, mul-lt-mul_of_pos_right}
use native.Mathlib.Omega.{arith}
use lib.Dec.{ltb, lt→ltb}
use lib.Arith.{le→nltb}
use lib.Pow.{pow-add, pow_pos}
use lib.Ieee.Bits.{is_true, is_false}
use Rattle.rules.specs.Numerals.{significand, units_of, Past, Nearest}
use Rattle.rules.proofs.Numerals.Order.{tri}
use Rattle.rules.proofs.Numerals.Pattern.{Full}

-- ---- the size of k * 2 ^ 23 + q
significand_low : (p : ℕ) → p < 2 ^ 23 → significand p ≡ p
unfolding significand
significand_low p h = ap (λ (b : Bool). cond b p (2 ^ 23 + p % 2 ^ 23)) (is_true (ltb p (2 ^ 23)) (lt→ltb p (2 ^ 23) h))

significand_high : (p : ℕ) → 2 ^ 23 ≤ p → significand p ≡ 2 ^ 23 + p % 2 ^ 23
unfolding significand
significand_high p h = ap (λ (b : Bool). cond b p (2 ^ 23 + p % 2 ^ 23)) (is_false (ltb p (2 ^ 23)) (le→nltb p (2 ^ 23) h))

units_is : (p q k : ℕ) → significand p ≡ q → p / 2 ^ 23 - 1 ≡ k → units_of p ≡ q * 2 ^ k
unfolding units_of
units_is p q k d e = ap (λ (x : ℕ). x * 2 ^ (p / 2 ^ 23 - 1)) d ∙ ap (λ (x : ℕ). q * 2 ^ x) e

size_low : (q : ℕ) → q < 2 ^ 23 → units_of q ≡ q * 2 ^ 0
size_low q h = units_is q q 0 (significand_low q h) (go q h)
  where
    go : (q : ℕ) → q < 2 ^ 23 → q / 2 ^ 23 - 1 ≡ 0
    go q h = omega arith

size_mid : (q k : ℕ) → 2 ^ 23 ≤ q → q < 2 ^ 24 → units_of (k * 2 ^ 23 + q) ≡ q * 2 ^ k
size_mid q k g h = units_is (k * 2 ^ 23 + q) q k (significand_high (k * 2 ^ 23 + q) (up q k g) ∙ dig q k g h) (pla q k g h)
  where
    up : (q k : ℕ) → 2 ^ 23 ≤ q → 2 ^ 23 ≤ k * 2 ^ 23 + q
    up q k g = omega arith

    dig : (q k : ℕ) → 2 ^ 23 ≤ q → q < 2 ^ 24 → 2 ^ 23 + (k * 2 ^ 23 + q) % 2 ^ 23 ≡ q
    dig q k g h = omega arith

    pla : (q k : ℕ) → 2 ^ 23 ≤ q → q < 2 ^ 24 → (k * 2 ^ 23 + q) / 2 ^ 23 - 1 ≡ k
    pla q k g h = omega arith

carried : (k : ℕ) → 2 ^ 23 * 2 ^ suc k ≡ 2 ^ 24 * 2 ^ k
carried k = sym (pow-add 2 23 (suc k)) ∙ ap (λ (x : ℕ). 2 ^ x) (go k) ∙ pow-add 2 24 k
  where
    go : (k : ℕ) → 23 + suc k ≡ 24 + k
    go k = omega arith

pub size_at : (q k : ℕ) → q ≤ 2 ^ 24 → Full q k → units_of (k * 2 ^ 23 + q) ≡ q * 2 ^ k
size_at q k h f = elim (eq-or-lt_of_le h) [
  | inl e ↦ ap units_of (next q k e) ∙ size_mid (2 ^ 23) (suc k) (le_refl (2 ^ 23)) (few 0) ∙ carried k ∙ ap (λ (x : ℕ). x * 2 ^ k) (sym e)
  | inr l ↦ elim (tri q (2 ^ 23)) [
    | inl s ↦ low f s
    | inr (inl e) ↦ size_mid q k (le_of_eq (sym e)) l
    | inr (inr g) ↦ size_mid q k (le_of_lt g) l
  ]
]
  where
    few : (z : ℕ) → 2 ^ 23 < 2 ^ 24
    few z = omega arith

    next : (q k : ℕ) → q ≡ 2 ^ 24 → k * 2 ^ 23 + q ≡ suc k * 2 ^ 23 + 2 ^ 23
    next q k e = omega arith

    low : Full q k → q < 2 ^ 23 → units_of (k * 2 ^ 23 + q) ≡ q * 2 ^ k
    low (inl g) s = absurd (not-le_of_lt s g)
    low (inr z) s = ap units_of (go q k z) ∙ size_low q s ∙ ap (λ (x : ℕ). q * 2 ^ x) (sym z)
      where
        go : (q k : ℕ) → k ≡ 0 → k * 2 ^ 23 + q ≡ q
        go q k e = omega arith

-- every pattern is of this form
pub parts : (p : ℕ) → (q : ℕ) × (k : ℕ) × (p ≡ k * 2 ^ 23 + q) × (q < 2 ^ 24) × Full q k
parts p = elim (tri p (2 ^ 23)) [
  | inl l ↦ (p, 0, low p, small p l, inr refl)
  | inr (inl e) ↦ high p (le_of_eq (sym e))
  | inr (inr g) ↦ high p (le_of_lt g)
]
  where
    low : (p : ℕ) → p ≡ 0 * 2 ^ 23 + p
    low p = omega arith

    small : (p : ℕ) → p < 2 ^ 23 → p < 2 ^ 24
    small p l = omega arith

    high : (p : ℕ) → 2 ^ 23 ≤ p → (q : ℕ) × (k : ℕ) × (p ≡ k * 2 ^ 23 + q) × (q < 2 ^ 24) × Full q k
    high p g = (2 ^ 23 + p % 2 ^ 23, p / 2 ^ 23 - 1, is p g, lt p, inl (ge p))
      where
        is : (p : ℕ) → 2 ^ 23 ≤ p → p ≡ (p / 2 ^ 23 - 1) * 2 ^ 23 + (2 ^ 23 + p % 2 ^ 23)
        is p g = omega arith

        lt : (p : ℕ) → 2 ^ 23 + p % 2 ^ 23 < 2 ^ 24
        lt p = omega arith

        ge : (p : ℕ) → 2 ^ 23 ≤ 2 ^ 23 + p % 2 ^ 23
        ge p = omega arith

full_suc : (q k : ℕ) → Full q k → Full (suc q) k
full_suc q k (inl g) = inl (go q g)
  where
    go : (q : ℕ) → 2 ^ 23 ≤ q → 2 ^ 23 ≤ suc q
    go q g = omega arith
full_suc q k (inr z) = inr z

add_suc' : (a q : ℕ) → suc (a + q) ≡ a + suc q
add_suc' a q = omega arith

-- the next size is 2 ^ k more
pub size_next : (q k : ℕ) → q < 2 ^ 24 → Full q k → units_of (suc (k * 2 ^ 23 + q)) ≡ q * 2 ^ k + 2 ^ k
size_next q k l f = ap units_of (add_suc' (k * 2 ^ 23) q) ∙ size_at (suc q) k l (full_suc q k f) ∙ suc-mul q (2 ^ k)

-- twice the middle
pub middle : (q k : ℕ) → q < 2 ^ 24 → Full q k → units_of (k * 2 ^ 23 + q) + units_of (suc (k * 2 ^ 23 + q)) ≡ (2 * q + 1) * 2 ^ k
middle q k l f =
    ap (λ (x : ℕ). x + units_of (suc (k * 2 ^ 23 + q))) (size_at q k (le_of_lt l) f) ∙ ap (λ (x : ℕ). q * 2 ^ k + x) (size_next q k l f) ∙ sym (twice q (2 ^ k))
  where
    twice : (q w : ℕ) → (2 * q + 1) * w ≡ q * w + (q * w + w)
    twice q w = let a : (2 * q + 1) * w ≡ 2 * q * w + 1 * w = add-mul (2 * q) 1 w in let b : 2 * q * w ≡ 2 * (q * w) = mul_assoc 2 q w in omega arith

-- ---- sizes grow
size_up : (p : ℕ) → units_of p < units_of (suc p)
size_up p =
    let z = parts p in
    let q = z.0 in
    let k = z.1 in
    subst (λ (x : ℕ). units_of x < units_of (suc x)) (sym z.2)
    (subst (λ (x : ℕ). x < units_of (suc (k * 2 ^ 23 + q))) (sym (size_at q k (le_of_lt z.3) z.4))
    (subst (λ (x : ℕ). q * 2 ^ k < x) (sym (size_next q k z.3 z.4)) (go (q * 2 ^ k) (2 ^ k) (pow_pos k))))
  where
    go : (a w : ℕ) → 0 < w → a < a + w
    go a w h = omega arith

size_mono : (p d : ℕ) → units_of p ≤ units_of (p + d)
size_mono p zero = le_of_eq (ap units_of (go p))
  where
    go : (p : ℕ) → p ≡ p + 0
    go p = omega arith
size_mono p (suc d) = le_trans (size_mono p d) (le_trans (le_of_lt (size_up (p + d))) (le_of_eq (ap units_of (add_suc' p d))))

mid_lt : (p r : ℕ) → p < r → units_of p + units_of (suc p) < units_of r + units_of (suc r)
mid_lt p r h =
    let a : units_of (suc p) ≤ units_of r = le_trans (size_mono (suc p) (r - suc p)) (le_of_eq (ap units_of (go p r h))) in
    let b = size_up p in
    let c = size_up r in
    omega arith
  where
    go : (p r : ℕ) → p < r → suc p + (r - suc p) ≡ r
    go p r h = omega arith

-- what is past a middle is past every middle below
pub past_below : (x den p r : ℕ) → 0 < den → p ≤ r → Past x den r → Past x den p
past_below x den p r D h t = elim (eq-or-lt_of_le h) [
  | inl e ↦ subst (λ (y : ℕ). Past x den y) (sym e) t
  | inr l ↦ inl (lt_of_lt_of_le (mul-lt-mul_of_pos_right (mid_lt p r l) D) (reach t))
]
  where
    reach : Past x den r → (units_of r + units_of (suc r)) * den ≤ x
    reach (inl a) = le_of_lt a
    reach (inr b) = le_of_eq b.0

-- ---- one answer
nearest_le_other : (num den p r : ℕ) → 0 < den → Nearest num den p → Nearest num den r → r ≤ p
nearest_le_other num den p r D a b = elim (tri p r) [
  | inl l ↦ absurd (a.high (lt_of_lt_of_le l b.within) (past_below (num * 2 ^ 150) den p (r - 1) D (le r l) (b.low (r - 1) (one r l))))
  | inr (inl e) ↦ le_of_eq (sym e)
  | inr (inr g) ↦ le_of_lt g
]
  where
    le : (r : ℕ) → p < r → p ≤ r - 1
    le r l = omega arith

    one : (r : ℕ) → p < r → suc (r - 1) ≡ r
    one r l = omega arith

pub nearest_unique : (num den p r : ℕ) → 0 < den → Nearest num den p → Nearest num den r → p ≡ r
nearest_unique num den p r D a b = le_antisymm (nearest_le_other num den r p D b a) (nearest_le_other num den p r D a b)
