-- The pattern of `round binary32` is the nearest one over whole numbers, so the two definitions agree. Assumes nothing.
use mathlib.Core.Path.{◌≡◌, refl, sym, ap, ◌∙◌, subst}
use mathlib.Core.Logic.{◌⊎◌, inl, inr}
use mathlib.Core.Bool.{Bool, cond}
use Prim.Native.Nat.{ℕ, suc, ◌+◌, ◌-◌, ◌*◌, ◌/◌, ◌%◌, ◌^◌, ◌≤◌, ◌<◌, compare}
use native.Mathlib.Nat.{le_refl, le_trans, le_of_eq, le_of_lt, lt_of_lt_of_le, eq-or-lt_of_le, eq-zero-or-pos, mul_comm, mul_assoc, add-mul, suc-mul, mul-lt-mul_of_pos_right, mul-pos, mod-lt, div-add-mod', le-div_iff_mul-le, div-div-eq-div-mul, pow-succ'}
use native.Mathlib.Omega.{arith}
use lib.Dec.{lit≤}
use lib.Pow.{pow-add, pow_pos}
use lib.Ieee.{binary32, size, nearest, round, to_bits}
use lib.Ieee.Digits.{size_reaches}
use lib.Ieee.Fits.{kept-lt, nearest-le, round_is}
use lib.Ieee.Nearest.{closest, nearest-ge}
use Rattle.rules.specs.Numerals.{units_of, Past, Nearest}
use Rattle.rules.proofs.Numerals.Order.{tri, near_lt, near_eq, near_gt}
use Rattle.rules.proofs.Numerals.Pattern.{Full, units_bits, units_bits_inf}
use Rattle.rules.proofs.Numerals.Middle.{middle, past_below}

-- ---- a fraction n / u to the nearest whole number q: it lies between q - 1/2 and q + 1/2, and at an end q is even
odd_mul : (q u : ℕ) → (2 * q + 1) * u ≡ 2 * (q * u) + u
odd_mul q u = let a : (2 * q + 1) * u ≡ 2 * q * u + 1 * u = add-mul (2 * q) 1 u in let b : 2 * q * u ≡ 2 * (q * u) = mul_assoc 2 q u in omega arith

parity : (w : ℕ) → (w % 2 ≡ 0) ⊎ (w % 2 ≡ 1)
parity w = elim (tri (w % 2) 1) [ inl l ↦ inl (go w l) | inr (inl e) ↦ inr e | inr (inr g) ↦ absurd (no w g) ]
  where
    go : (w : ℕ) → w % 2 < 1 → w % 2 ≡ 0
    go w l = omega arith

    no : (w : ℕ) → 1 < w % 2 → ⊥
    no w g = omega arith

abbrev Upper : ℕ → ℕ → ℕ → Type 0
Upper n u q = (2 * n < (2 * q + 1) * u) ⊎ ((2 * n ≡ (2 * q + 1) * u) × (q % 2 ≡ 0))

abbrev Lower : ℕ → ℕ → ℕ → Type 0
Lower n u q = (i : ℕ) → suc i ≡ q → ((2 * i + 1) * u < 2 * n) ⊎ (((2 * i + 1) * u ≡ 2 * n) × (i % 2 ≡ 1))

bounds : (n u w r : ℕ) → w * u + r ≡ n → r < u → Upper n u (nearest w (compare (r * 2) u)) × Lower n u (nearest w (compare (r * 2) u))
bounds n u w r e l = elim (tri (r * 2) u) [
  | inl h ↦ subst (λ (q : ℕ). Upper n u q × Lower n u q) (sym (near_lt w (r * 2) u h)) (inl (a1 h (odd_mul w u)), λ i f. inl (a2 i f (odd_mul i u) (suc-mul i u ∙ refl)))
  | inr (inl h) ↦ elim (parity w) [
    | inl p ↦ subst (λ (q : ℕ). Upper n u q × Lower n u q) (sym (near_eq w (r * 2) u h ∙ b0 w p)) (inr (b1 h (odd_mul w u), p), λ i f. inl (a2 i f (odd_mul i u) (suc-mul i u ∙ refl)))
    | inr p ↦ subst (λ (q : ℕ). Upper n u q × Lower n u q) (sym (near_eq w (r * 2) u h ∙ b2 w p)) (inl (b3 h (odd_mul (suc w) u) (suc-mul w u)), λ i f. inr (b4 h i f (odd_mul w u), b5 w i p f))
  ]
  | inr (inr h) ↦ subst (λ (q : ℕ). Upper n u q × Lower n u q) (sym (near_gt w (r * 2) u h ∙ c0 w)) (inl (c1 (odd_mul (suc w) u) (suc-mul w u)), λ i f. inl (c2 h i f (odd_mul w u)))
]
  where
    a1 : r * 2 < u → (2 * w + 1) * u ≡ 2 * (w * u) + u → 2 * n < (2 * w + 1) * u
    a1 h m = omega arith

    a2 : (i : ℕ) → suc i ≡ w → (2 * i + 1) * u ≡ 2 * (i * u) + u → suc i * u ≡ i * u + u → (2 * i + 1) * u < 2 * n
    a2 i f m s = let t : suc i * u ≡ w * u = ap (λ (x : ℕ). x * u) f in omega arith

    b0 : (w : ℕ) → w % 2 ≡ 0 → w + w % 2 ≡ w
    b0 w p = omega arith

    b1 : r * 2 ≡ u → (2 * w + 1) * u ≡ 2 * (w * u) + u → 2 * n ≡ (2 * w + 1) * u
    b1 h m = omega arith

    b2 : (w : ℕ) → w % 2 ≡ 1 → w + w % 2 ≡ suc w
    b2 w p = omega arith

    b3 : r * 2 ≡ u → (2 * suc w + 1) * u ≡ 2 * (suc w * u) + u → suc w * u ≡ w * u + u → 2 * n < (2 * suc w + 1) * u
    b3 h m s = omega arith

    b4 : r * 2 ≡ u → (i : ℕ) → suc i ≡ suc w → (2 * w + 1) * u ≡ 2 * (w * u) + u → (2 * i + 1) * u ≡ 2 * n
    b4 h i f m = let g : i ≡ w = omega arith in ap (λ (x : ℕ). (2 * x + 1) * u) g ∙ sym (b1 h m)

    b5 : (w i : ℕ) → w % 2 ≡ 1 → suc i ≡ suc w → i % 2 ≡ 1
    b5 w i p f = omega arith

    c0 : (w : ℕ) → w + 1 ≡ suc w
    c0 w = omega arith

    c1 : (2 * suc w + 1) * u ≡ 2 * (suc w * u) + u → suc w * u ≡ w * u + u → 2 * n < (2 * suc w + 1) * u
    c1 m s = omega arith

    c2 : u < r * 2 → (i : ℕ) → suc i ≡ suc w → (2 * w + 1) * u ≡ 2 * (w * u) + u → (2 * i + 1) * u < 2 * n
    c2 h i f m = let g : i ≡ w = omega arith in subst (λ (x : ℕ). (2 * x + 1) * u < 2 * n) (sym g) (d h m)
      where
        d : u < r * 2 → (2 * w + 1) * u ≡ 2 * (w * u) + u → (2 * w + 1) * u < 2 * n
        d h m = omega arith

-- plain orders, over variables: `omega` gives up where it meets the numeral 2 ^ 149
two_ways : (a b : ℕ) → a < b → b < a → ⊥
two_ways a b h k = omega arith

not_equal : (a b : ℕ) → a ≡ b → b < a → ⊥
not_equal a b h k = omega arith

too_far : (a b c u : ℕ) → c ≡ b + u → 0 < u → c ≤ a → a ≤ b → ⊥
too_far a b c u e p h k = omega arith

doubled : (a n u : ℕ) → a * u ≤ n → 2 * a * u ≤ 2 * n
doubled a n u h = le_trans (le_of_eq (mul_assoc 2 a u)) (go (a * u) n h)
  where
    go : (x y : ℕ) → x ≤ y → 2 * x ≤ 2 * y
    go x y h = omega arith

-- ---- the fraction n / den in units, its dropped digits k and kept digits q
module _ (num den : ℕ) (D : 0 < den) where
  abbrev n : ℕ
  n = num * 2 ^ 149

  abbrev k : ℕ
  k = size (n / den) - 24

  abbrev u : ℕ
  u = den * 2 ^ k

  abbrev q : ℕ
  q = closest n u

  u_pos : 0 < u
  u_pos = mul-pos D (pow_pos k)

  sides : Upper n u q × Lower n u q
  sides = bounds n u (n / u) (n % u) (div-add-mod' n u) (mod-lt n u_pos)

  q_le : q ≤ 2 ^ 24
  q_le = le_trans (nearest-le (n / u) (compare (n % u * 2) u)) (subst (λ (x : ℕ). x < 2 ^ 24) (div-div-eq-div-mul n den (2 ^ k)) (kept-lt 24 (n / den)))

  -- where digits are dropped, the first one counts 2 ^ 23
  lead : 0 < k → 2 ^ 23 * u ≤ n
  lead h =
      le_trans (le_of_eq (ap (λ (x : ℕ). 2 ^ 23 * x) (mul_comm den (2 ^ k)) ∙ sym (mul_assoc (2 ^ 23) (2 ^ k) den) ∙ ap (λ (x : ℕ). x * den) (sym (pow-add 2 23 k))))
      ((le-div_iff_mul-le D).0 (size_reaches (n / den) (23 + k) (go (size (n / den)) h)))
    where
      go : (z : ℕ) → 0 < z - 24 → 23 + (z - 24) < z
      go z h = omega arith

  full : Full q k
  full = elim (eq-zero-or-pos k) [
    | inl z ↦ inr z
    | inr p ↦ inl (le_trans ((le-div_iff_mul-le u_pos).1 (lead p)) (nearest-ge (n / u) (compare (n % u * 2) u)))
  ]

  by_unit : (a : ℕ) → a * 2 ^ k * den ≡ a * u
  by_unit a = mul_assoc a (2 ^ k) den ∙ ap (λ (x : ℕ). a * x) (mul_comm (2 ^ k) den)

  twice_n : num * 2 ^ 150 ≡ 2 * n
  twice_n = ap (λ (x : ℕ). num * x) (pow-add 2 149 1) ∙ sym (mul_assoc num (2 ^ 149) 2) ∙ mul_comm n 2

  abbrev P : ℕ
  P = k * 2 ^ 23 + q

  even_P : q % 2 ≡ 0 → P % 2 ≡ 1 → ⊥
  even_P a b = go k q a b
    where
      go : (k q : ℕ) → q % 2 ≡ 0 → (k * 2 ^ 23 + q) % 2 ≡ 1 → ⊥
      go k q a b = omega arith

  upper_at : Upper n u q → Past (2 * n) den P → q < 2 ^ 24 → ⊥
  upper_at s (inl a) l = no s (subst (λ (x : ℕ). x < 2 * n) (ap (λ (x : ℕ). x * den) (middle q k l full) ∙ by_unit (2 * q + 1)) a)
    where
      no : Upper n u q → (2 * q + 1) * u < 2 * n → ⊥
      no (inl x) y = two_ways (2 * n) ((2 * q + 1) * u) x y
      no (inr x) y = not_equal (2 * n) ((2 * q + 1) * u) x.0 y
  upper_at s (inr a) l = no s (sym (ap (λ (x : ℕ). x * den) (middle q k l full) ∙ by_unit (2 * q + 1)) ∙ a.0)
    where
      no : Upper n u q → (2 * q + 1) * u ≡ 2 * n → ⊥
      no (inl x) y = not_equal ((2 * q + 1) * u) (2 * n) y x
      no (inr x) y = even_P x.1 a.1

  -- at q = 2 ^ 24 the middle above is one more unit away
  upper_top : Upper n u q → Past (2 * n) den P → q ≡ 2 ^ 24 → ⊥
  upper_top s t e =
      let m : (units_of P + units_of (suc P)) * den ≡ (2 * q + 2) * u =
      ap (λ (x : ℕ). (units_of x + units_of (suc x)) * den) (next k q e)
      ∙ ap (λ (x : ℕ). x * den) (middle (2 ^ 23) (suc k) (few 0) (inl (le_refl (2 ^ 23))))
      ∙ ap (λ (x : ℕ). x * den) (half k q e)
      ∙ by_unit (2 * q + 2) in
      no s (reach t m)
    where
      few : (z : ℕ) → 2 ^ 23 < 2 ^ 24
      few z = omega arith

      next : (k q : ℕ) → q ≡ 2 ^ 24 → k * 2 ^ 23 + q ≡ suc k * 2 ^ 23 + 2 ^ 23
      next k q e = omega arith

      half : (k q : ℕ) → q ≡ 2 ^ 24 → (2 * 2 ^ 23 + 1) * 2 ^ suc k ≡ (2 * q + 2) * 2 ^ k
      half k q e = ap (λ (x : ℕ). (2 * 2 ^ 23 + 1) * x) (pow-succ' 2 k) ∙ sym (mul_assoc (2 * 2 ^ 23 + 1) 2 (2 ^ k)) ∙ ap (λ (x : ℕ). x * 2 ^ k) (go q e)
        where
          go : (q : ℕ) → q ≡ 2 ^ 24 → (2 * 2 ^ 23 + 1) * 2 ≡ 2 * q + 2
          go q e = omega arith

      reach : Past (2 * n) den P → (units_of P + units_of (suc P)) * den ≡ (2 * q + 2) * u → (2 * q + 2) * u ≤ 2 * n
      reach (inl a) m = le_trans (le_of_eq (sym m)) (le_of_lt a)
      reach (inr a) m = le_of_eq (sym m ∙ a.0)

      more : (2 * q + 2) * u ≡ (2 * q + 1) * u + u
      more = ap (λ (x : ℕ). x * u) (go q) ∙ add-mul (2 * q + 1) 1 u ∙ ap (λ (x : ℕ). (2 * q + 1) * u + x) (tidy u)
        where
          go : (q : ℕ) → 2 * q + 2 ≡ 2 * q + 1 + 1
          go q = omega arith

          tidy : (u : ℕ) → 1 * u ≡ u
          tidy u = omega arith

      no : Upper n u q → (2 * q + 2) * u ≤ 2 * n → ⊥
      no (inl x) y = too_far (2 * n) ((2 * q + 1) * u) ((2 * q + 2) * u) u more u_pos y (le_of_lt x)
      no (inr x) y = too_far (2 * n) ((2 * q + 1) * u) ((2 * q + 2) * u) u more u_pos y (le_of_eq x.0)

  not_past : Past (2 * n) den P → ⊥
  not_past t = elim (eq-or-lt_of_le q_le) [ inl e ↦ upper_top sides.0 t e | inr l ↦ upper_at sides.0 t l ]

  -- ---- past the middle below
  lower_at : (i : ℕ) → suc i ≡ q → Full i k → i < 2 ^ 24 → Past (2 * n) den (k * 2 ^ 23 + i)
  lower_at i e f l = go (sides.1 i e)
    where
      is : (units_of (k * 2 ^ 23 + i) + units_of (suc (k * 2 ^ 23 + i))) * den ≡ (2 * i + 1) * u
      is = ap (λ (x : ℕ). x * den) (middle i k l f) ∙ by_unit (2 * i + 1)

      same : (k i : ℕ) → i % 2 ≡ 1 → (k * 2 ^ 23 + i) % 2 ≡ 1
      same k i o = omega arith

      go : ((2 * i + 1) * u < 2 * n) ⊎ (((2 * i + 1) * u ≡ 2 * n) × (i % 2 ≡ 1)) → Past (2 * n) den (k * 2 ^ 23 + i)
      go (inl a) = inl (subst (λ (x : ℕ). x < 2 * n) (sym is) a)
      go (inr a) = inr (is ∙ a.0, same k i a.1)

  -- q is 2 ^ 23 and digits were dropped: the size below is less than half a unit away
  lower_lead : (i : ℕ) → suc i ≡ q → q ≡ 2 ^ 23 → 0 < k → Past (2 * n) den (k * 2 ^ 23 + i)
  lower_lead i e f p =
      let j = k - 1 in
      let r = 2 ^ 24 - 1 in
      let at : k * 2 ^ 23 + i ≡ j * 2 ^ 23 + r = place k i q e f p in
      inl (subst (λ (x : ℕ). (units_of x + units_of (suc x)) * den < 2 * n) (sym at)
      (subst (λ (x : ℕ). x * den < 2 * n) (sym (middle r j (few 0) (inl (lit≤ tt))))
      (lt_of_lt_of_le (mul-lt-mul_of_pos_right (less k p) D) (le_trans (le_of_eq (by_unit (2 ^ 24))) (top (lead p))))))
    where
      few : (z : ℕ) → 2 ^ 24 - 1 < 2 ^ 24
      few z = omega arith

      place : (k i q : ℕ) → suc i ≡ q → q ≡ 2 ^ 23 → 0 < k → k * 2 ^ 23 + i ≡ (k - 1) * 2 ^ 23 + (2 ^ 24 - 1)
      place k i q e f p = omega arith

      less : (k : ℕ) → 0 < k → (2 * (2 ^ 24 - 1) + 1) * 2 ^ (k - 1) < 2 ^ 24 * 2 ^ k
      less k p = lt_of_lt_of_le (mul-lt-mul_of_pos_right (lit 0) (pow_pos (k - 1))) (le_of_eq (mul_assoc (2 ^ 24) 2 (2 ^ (k - 1)) ∙ ap (λ (x : ℕ). 2 ^ 24 * x) (sym (pow-add 2 1 (k - 1)) ∙ ap (λ (x : ℕ). 2 ^ x) (one k p))))
        where
          lit : (z : ℕ) → 2 * (2 ^ 24 - 1) + 1 < 2 ^ 24 * 2
          lit z = omega arith

          one : (k : ℕ) → 0 < k → 1 + (k - 1) ≡ k
          one k p = omega arith

      top : 2 ^ 23 * u ≤ n → 2 ^ 24 * u ≤ 2 * n
      top h = doubled (2 ^ 23) n u h

  -- `q` is above 0 where P is
  past_low : (j : ℕ) → suc j ≡ P → Past (2 * n) den j
  past_low j e = elim (eq-zero-or-pos q) [
    | inl z ↦ absurd (none full z)
    | inr p ↦
        let i = q - 1 in
        let f : suc i ≡ q = one q p in
        subst (λ (x : ℕ). Past (2 * n) den x) (sym (at k q j e p))
        (elim (tri i (2 ^ 23)) [
          | inl l ↦ small i f l full
          | inr (inl g) ↦ lower_at i f (inl (le_of_eq (sym g))) (under i f)
          | inr (inr g) ↦ lower_at i f (inl (le_of_lt g)) (under i f)
        ])
  ]
    where
      one : (q : ℕ) → 0 < q → suc (q - 1) ≡ q
      one q p = omega arith

      at : (k q j : ℕ) → suc j ≡ k * 2 ^ 23 + q → 0 < q → j ≡ k * 2 ^ 23 + (q - 1)
      at k q j e p = omega arith

      none : Full q k → q ≡ 0 → ⊥
      none (inl g) z = omega arith
      none (inr g) z = go k q j e g z
        where
          go : (k q j : ℕ) → suc j ≡ k * 2 ^ 23 + q → k ≡ 0 → q ≡ 0 → ⊥
          go k q j e g z = omega arith

      under : (i : ℕ) → suc i ≡ q → i < 2 ^ 24
      under i f = let b = q_le in omega arith

      small : (i : ℕ) → suc i ≡ q → i < 2 ^ 23 → Full q k → Past (2 * n) den (k * 2 ^ 23 + i)
      small i f l (inr z) = lower_at i f (inr z) (under i f)
      small i f l (inl g) = elim (eq-zero-or-pos k) [ inl z ↦ lower_at i f (inr z) (under i f) | inr p ↦ lower_lead i f (go i q f l g) p ]
        where
          go : (i q : ℕ) → suc i ≡ q → i < 2 ^ 23 → 2 ^ 23 ≤ q → q ≡ 2 ^ 23
          go i q f l g = omega arith

  -- ---- the answer, and that it is the pattern of `round`
  below_inf : P < 0x7f80_0000 → Nearest num den P
  below_inf h = record {
    within = le_of_lt h;
    low = λ j e. subst (λ (x : ℕ). Past x den j) (sym twice_n) (past_low j e);
    high = λ l t. not_past (subst (λ (x : ℕ). Past x den P) twice_n t);
  }

  at_inf : 0x7f80_0000 ≤ P → Nearest num den 0x7f80_0000
  at_inf h = record {
    within = le_refl 0x7f80_0000;
    low = λ j e. subst (λ (x : ℕ). Past x den j) (sym twice_n) (past_below (2 * n) den j (P - 1) D (le j P e h) (past_low (P - 1) (one P h)));
    high = λ l t. no l;
  }
    where
      le : (j P : ℕ) → suc j ≡ 0x7f80_0000 → 0x7f80_0000 ≤ P → j ≤ P - 1
      le j P e h = omega arith

      one : (P : ℕ) → 0x7f80_0000 ≤ P → suc (P - 1) ≡ P
      one P h = omega arith

      no : 0x7f80_0000 < 0x7f80_0000 → ⊥
      no l = omega arith

  -- some pattern is nearest, and `round` gives it with either sign
  pub found : (p : ℕ) × Nearest num den p × ((s : Bool) → to_bits binary32 (round binary32 s num den) ≡ cond s (2 ^ 31) 0 + p)
  found = elim (tri P 0x7f80_0000) [
    | inl l ↦ (P, below_inf l, λ s. ap (to_bits binary32) (round_is binary32 s num den) ∙ units_bits s q k q_le full l)
    | inr (inl e) ↦ over (le_of_eq (sym e))
    | inr (inr g) ↦ over (le_of_lt g)
  ]
    where
      over : 0x7f80_0000 ≤ P → (p : ℕ) × Nearest num den p × ((s : Bool) → to_bits binary32 (round binary32 s num den) ≡ cond s (2 ^ 31) 0 + p)
      over g = (0x7f80_0000, at_inf g, λ s. ap (to_bits binary32) (round_is binary32 s num den) ∙ units_bits_inf s q k q_le full g)
