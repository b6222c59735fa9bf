-- What the proofs of `rounded` and `pattern` cite: the highest places, and whether anything lies below them, decide the nearest pattern.
-- Assumes nothing.
use mathlib.Core.Path.{◌≡◌, refl, sym, ap, ◌∙◌, subst}
use mathlib.Core.Logic.{◌⊎◌, inl, inr}
use mathlib.Core.Bool.{Bool, true, false, not, ◌&&◌, ◌||◌, cond}
use mathlib.Core.List.{List}
use Prim.Native.Nat.{ℕ, zero, suc, ◌+◌, ◌-◌, ◌*◌, ◌/◌, ◌%◌, ◌^◌, ◌≤◌, ◌<◌}
use native.Mathlib.Nat.{le_trans, le_of_eq, le-div_iff_mul-le, div-lt_iff_lt-mul, mul-pos, mul_assoc, mul-le-mul_right, one-mul, eq-zero-or-pos, mod-eq_of_lt, pow-suc, div-one}
use native.Mathlib.Omega.{arith}
use lib.Count.{count_leading_zeros}
use lib.Dec.{ltb, eqb, eqb-suc-zero, lit≤, lit<}
use lib.ListN.{get_or}
use lib.Pow.{pow-add, pow_pos, pow_mono, pow-lt}
use borrow.Author.Tests.{ltb-true, ltb-false}
use Rattle.rules.specs.Numerals.{infinity, nearest}
use Rattle.rules.proofs.Bools.{split}
use Rattle.rules.proofs.Numerals.Order.{tri}
use Rattle.floats.proofs.Model.{Top, top_of}
use Rattle.boost.specs.Row.{up_to, Row, Topped, Used, Highest}
use Rattle.boost.specs.Top.{left, halved, Rounded}
use Rattle.boost.proofs.Divisions.{floor_floor, left_left}
use Rattle.boost.proofs.Rounding.{Cut, nearest_rounded}
use Rattle.boost.proofs.Rows.{B, up_to_suc, up_to_lt, only_quotient}
use Rattle.boost.proofs.Tests.{eq_no}

-- ---- how many places are dropped
module _ (w : ℕ) (h : w < 2 ^ 63) where
  abbrev z : ℕ
  z = count_leading_zeros 64 w

  abbrev k : ℕ
  k = 39 - z

  -- 25 places are kept, or nothing is dropped
  abbrev Kept : Type 0
  Kept = (w / 2 ^ k < 2 ^ 25) × ((2 ^ 24 ≤ w / 2 ^ k) ⊎ (k ≡ 0)) × (2 ^ 24 ≤ w → 2 ^ 24 ≤ w / 2 ^ k) × (k < 40)

  kept_some : 0 < w → Kept
  kept_some p = (
    (div-lt_iff_lt-mul (pow_pos k)).1 (le_trans t.hi (le_trans (mono (suc t.j) (25 + k) (hi t.j z t.makes t.few)) (le_of_eq (pow-add 2 25 k)))),
    keeps (least t.j z t.makes t.few),
    keeps_all (least t.j z t.makes t.few),
    few z,
  )
    where
      t : Top 64 63 w z
      t = top_of 64 63 w (lit≤ tt) p h

      mono : (a b : ℕ) → a ≤ b → 2 ^ a ≤ 2 ^ b
      mono a b l = pow_mono l

      hi : (j z : ℕ) → z + suc j ≡ 64 → j < 63 → suc j ≤ 25 + (39 - z)
      hi j z e l = omega arith

      least : (j z : ℕ) → z + suc j ≡ 64 → j < 63 → (24 + (39 - z) ≤ j) ⊎ ((39 - z ≡ 0) × (j ≤ 24))
      least j z e l = elim (tri j 24) [ inl a ↦ inr (omega arith, omega arith) | inr (inl a) ↦ inr (omega arith, omega arith) | inr (inr a) ↦ inl (omega arith) ]

      few : (z : ℕ) → 39 - z < 40
      few z = omega arith

      keeps : (24 + k ≤ t.j) ⊎ ((k ≡ 0) × (t.j ≤ 24)) → (2 ^ 24 ≤ w / 2 ^ k) ⊎ (k ≡ 0)
      keeps (inl l) = inl ((le-div_iff_mul-le (pow_pos k)).1 (le_trans (le_of_eq (sym (pow-add 2 24 k))) (le_trans (mono (24 + k) t.j l) t.lo)))
      keeps (inr e) = inr e.0

      keeps_all : (24 + k ≤ t.j) ⊎ ((k ≡ 0) × (t.j ≤ 24)) → 2 ^ 24 ≤ w → 2 ^ 24 ≤ w / 2 ^ k
      keeps_all (inl l) g = (le-div_iff_mul-le (pow_pos k)).1 (le_trans (le_of_eq (sym (pow-add 2 24 k))) (le_trans (mono (24 + k) t.j l) t.lo))
      keeps_all (inr e) g = subst (λ (x : ℕ). 2 ^ 24 ≤ w / 2 ^ x) (sym e.0) (one w g)
        where
          one : (w : ℕ) → 2 ^ 24 ≤ w → 2 ^ 24 ≤ w / 1
          one w g = omega arith

-- nothing is kept of nothing
kept_none : (w : ℕ) → w ≡ 0 → (w / 2 ^ (39 - count_leading_zeros 64 w) < 2 ^ 25) × (39 - count_leading_zeros 64 w < 40)
kept_none w e = (subst (λ (x : ℕ). x / 2 ^ (39 - count_leading_zeros 64 w) < 2 ^ 25) (sym e) (zero_few (2 ^ (39 - count_leading_zeros 64 w)) (pow_pos (39 - count_leading_zeros 64 w))), few (count_leading_zeros 64 w))
  where
    few : (z : ℕ) → 39 - z < 40
    few z = omega arith

    zero_few : (u : ℕ) → 0 < u → 0 / u < 2 ^ 25
    zero_few u U = (div-lt_iff_lt-mul U).1 (mul-pos (lit< tt) U)

-- ---- `rounded`
module _ (w : ℕ) (below : Bool) (c : ℕ) (h : w < 2 ^ 63) (s : (2 ^ 24 ≤ w) ⊎ (c ≡ 0)) where
  abbrev drops : ℕ
  drops = 39 - count_leading_zeros 64 w

  -- 25 places are kept, or nothing is dropped and nothing stands above half units
  kept : (w / 2 ^ drops < 2 ^ 25) × ((2 ^ 24 ≤ w / 2 ^ drops) ⊎ (c + drops ≡ 0)) × (drops < 40)
  unfolding count_leading_zeros
  kept = go (eq-zero-or-pos w)
    where
      none : c ≡ 0 → w ≡ 0 → c + drops ≡ 0
      none e f = ap (λ (x : ℕ). x + drops) e ∙ ap (λ (x : ℕ). 0 + (39 - count_leading_zeros 64 x)) f

      low : (2 ^ 24 ≤ w) ⊎ (c ≡ 0) → w ≡ 0 → c ≡ 0
      low (inl l) e = absurd (omega arith)
      low (inr q) e = q

      both : (c k : ℕ) → c ≡ 0 → k ≡ 0 → c + k ≡ 0
      both c k e f = omega arith

      go : (w ≡ 0) ⊎ (0 < w) → (w / 2 ^ drops < 2 ^ 25) × ((2 ^ 24 ≤ w / 2 ^ drops) ⊎ (c + drops ≡ 0)) × (drops < 40)
      go (inl e) = ((kept_none w e).0, inr (none (low s e) e), (kept_none w e).1)
      go (inr p) = let k = kept_some w h p in (k.0, which k.1 k.2 s, k.3)
        where
          which : (2 ^ 24 ≤ w / 2 ^ drops) ⊎ (drops ≡ 0) → (2 ^ 24 ≤ w → 2 ^ 24 ≤ w / 2 ^ drops) → (2 ^ 24 ≤ w) ⊎ (c ≡ 0) → (2 ^ 24 ≤ w / 2 ^ drops) ⊎ (c + drops ≡ 0)
          which a b (inl l) = inl (b l)
          which (inl a) b (inr q) = inl a
          which (inr a) b (inr q) = inr (both c drops q a)

  pub kept_few : w / 2 ^ drops < 2 ^ 25
  kept_few = kept.0

  pub drops_few : drops < 40
  drops_few = kept.2

  module _ (num den : ℕ) (D : 0 < den) (e : w ≡ num * 2 ^ 150 / (den * 2 ^ c)) (b : below ≡ left (num * 2 ^ 150) (den * 2 ^ c)) where
    abbrev X : ℕ
    X = num * 2 ^ 150

    -- c + k places dropped at once, or first c and then k
    den_both : den * 2 ^ (c + drops) ≡ den * 2 ^ c * 2 ^ drops
    den_both = ap (λ (x : ℕ). den * x) (pow-add 2 c drops) ∙ sym (mul_assoc den (2 ^ c) (2 ^ drops))

    floor_is : X / den / 2 ^ (c + drops) ≡ w / 2 ^ drops
    floor_is = floor_floor X den (2 ^ (c + drops)) ∙ ap (λ (x : ℕ). X / x) den_both ∙ sym (floor_floor X (den * 2 ^ c) (2 ^ drops)) ∙ ap (λ (x : ℕ). x / 2 ^ drops) (sym e)

    left_is : (left X den || left (X / den) (2 ^ (c + drops))) ≡ (below || left w (2 ^ drops))
    left_is =
        sym (left_left X den (2 ^ (c + drops)) D (pow_pos (c + drops))) ∙ ap (left X) den_both
        ∙ left_left X (den * 2 ^ c) (2 ^ drops) (mul-pos D (pow_pos c)) (pow_pos drops)
        ∙ ap (λ (x : Bool). x || left (X / (den * 2 ^ c)) (2 ^ drops)) (sym b) ∙ ap (λ (x : ℕ). below || left x (2 ^ drops)) (sym e)

    cut : Cut (X / den) (c + drops)
    cut = subst (λ (x : ℕ). (x < 2 ^ 25) × ((2 ^ 24 ≤ x) ⊎ (c + drops ≡ 0))) (sym floor_is) (kept.0, kept.1)

    abbrev P : ℕ
    P = (c + drops) * 2 ^ 23 + halved (w / 2 ^ drops) (below || left w (2 ^ drops))

    by_cut : nearest num den ≡ cond (ltb P infinity) P infinity
    by_cut =
        nearest_rounded num den (c + drops) D cut
        ∙ ap (λ (x : ℕ). let p = (c + drops) * 2 ^ 23 + halved x (left X den || left (X / den) (2 ^ (c + drops))) in cond (ltb p infinity) p infinity) floor_is
        ∙ ap (λ (x : Bool). let p = (c + drops) * 2 ^ 23 + halved (w / 2 ^ drops) x in cond (ltb p infinity) p infinity) left_is

    at_last : (r : ℕ) → (P < infinity → r ≡ P) → (infinity ≤ P → r ≡ infinity) → r ≡ nearest num den
    at_last r low high = go (split (ltb P infinity))
      where
        go : (ltb P infinity ≡ true) ⊎ (ltb P infinity ≡ false) → r ≡ nearest num den
        go (inl t) = low (ltb-true P infinity t) ∙ sym (by_cut ∙ rw t)
        go (inr t) = high (ltb-false P infinity t) ∙ sym (by_cut ∙ rw t)

  pub rounded_is : (h q r : ℕ) (more : Bool) → h ≡ w / 2 ^ drops → more ≡ below || left w (2 ^ drops) → q ≡ halved h more → ((c + drops) * 2 ^ 23 + q < infinity → r ≡ (c + drops) * 2 ^ 23 + q) → (infinity ≤ (c + drops) * 2 ^ 23 + q → r ≡ infinity) → Rounded w below c r
  rounded_is h q r more e f g low high = record {
    is = λ num den D a b. at_last num den D a b r
        (λ l. low (subst (λ (x : ℕ). (c + drops) * 2 ^ 23 + x < infinity) (sym same) l) ∙ ap (λ (x : ℕ). (c + drops) * 2 ^ 23 + x) same)
        (λ l. high (subst (λ (x : ℕ). infinity ≤ (c + drops) * 2 ^ 23 + x) (sym same) l));
  }
    where
      same : q ≡ halved (w / 2 ^ drops) (below || left w (2 ^ drops))
      same = g ∙ ap (λ (x : ℕ). halved x more) e ∙ ap (halved (w / 2 ^ drops)) f

-- the machine's shift
pub shifted_one : (k : ℕ) → k < 40 → 1 * 2 ^ k % 2 ^ 64 ≡ 2 ^ k
shifted_one k h = ap (λ (x : ℕ). x % 2 ^ 64) (one-mul (2 ^ k)) ∙ mod-eq_of_lt (pow-lt (go k h))
  where
    go : (k : ℕ) → k < 40 → k < 64
    go k h = omega arith

pub halved_few : (h q : ℕ) (b : Bool) → h < 2 ^ 25 → q ≡ halved h b → q ≤ 2 ^ 24
halved_few h q b l e = subst (λ (x : ℕ). x ≤ 2 ^ 24) (sym e) (go (eqb (h % 2) 1 && (b || eqb (h / 2 % 2) 1)))
  where
    go : (x : Bool) → h / 2 + cond x 1 0 ≤ 2 ^ 24
    go true = omega arith
    go false = omega arith

-- the same as the code has it: u is the unit that is kept
module _ (w : ℕ) (below : Bool) (c : ℕ) (h : w < 2 ^ 63) (s : (2 ^ 24 ≤ w) ⊎ (c ≡ 0)) (k : ℕ) (K : k ≡ 39 - count_leading_zeros 64 w) where
  abbrev u : ℕ
  u = 1 * 2 ^ k % 2 ^ 64

  unit_is : u ≡ 2 ^ (39 - count_leading_zeros 64 w)
  unit_is = ap (λ (x : ℕ). 1 * 2 ^ x % 2 ^ 64) K ∙ shifted_one (39 - count_leading_zeros 64 w) (drops_few w below c h s)

  pub unit_few : k < 40
  unit_few = subst (λ (x : ℕ). x < 40) (sym K) (drops_few w below c h s)

  pub unit_kept : w / u < 2 ^ 25
  unit_kept = subst (λ (x : ℕ). w / x < 2 ^ 25) (sym unit_is) (kept_few w below c h s)

  pub rounded_code : (q r : ℕ) (more : Bool) → more ≡ below || not (eqb (w % u) 0) → q ≡ halved (w / u) more → ((c + k) * 2 ^ 23 + q < infinity → r ≡ (c + k) * 2 ^ 23 + q) → (infinity ≤ (c + k) * 2 ^ 23 + q → r ≡ infinity) → Rounded w below c r
  rounded_code q r more f g low high = rounded_is w below c h s (w / u) q r more (ap (λ (x : ℕ). w / x) unit_is) (f ∙ ap (λ (x : ℕ). below || left w x) unit_is) g
      (λ l. low (subst (λ (x : ℕ). (c + x) * 2 ^ 23 + q < infinity) (sym K) l) ∙ ap (λ (x : ℕ). (c + x) * 2 ^ 23 + q) K)
      (λ l. high (subst (λ (x : ℕ). infinity ≤ (c + x) * 2 ^ 23 + q) (sym K) l))

-- ---- `pattern`
pub base_power : (n : ℕ) → B ^ n ≡ 2 ^ (16 * n)
base_power zero = refl
base_power (suc n) = pow-suc B n ∙ ap (λ (x : ℕ). x * B) (base_power n) ∙ sym (ap (λ (x : ℕ). 2 ^ x) (one n) ∙ pow-add 2 (16 * n) 16)
  where
    one : (n : ℕ) → 16 * suc n ≡ 16 * n + 16
    one n = omega arith

module _ (xs : List ℕ) (low len w j : ℕ) (r : Row xs) (g : Highest xs low len w) (u : Used xs low j) where
  low_is : (w ≡ up_to xs len / B ^ low) × (up_to xs low ≡ up_to xs len % B ^ low)
  low_is = only_quotient (up_to xs len) w (B ^ low) (up_to xs low) (sym g.is) (up_to_lt xs low r.word)

  -- what is used is not 0
  used_some : (j : ℕ) → Used xs low j → not (eqb (up_to xs low) 0) ≡ not (eqb j 0)
  unfolding up_to
  used_some zero u = ap (λ (x : ℕ). not (eqb x 0)) (sym u.is)
  used_some (suc j) u = ap not (eq_no (up_to xs low) 0 (λ e. no (up_to xs low) (some_le (up_to xs j) (get_or xs j 0) (B ^ j) (u.top.top j refl) (pow_pos_base j)) e)) ∙ sym (ap not (eqb-suc-zero j))
    where
      pow_pos_base : (n : ℕ) → 0 < B ^ n
      pow_pos_base n = subst (λ (x : ℕ). 0 < x) (sym (base_power n)) (pow_pos (16 * n))

      no : (x : ℕ) → 0 < x → x ≡ 0 → ⊥
      no x h e = omega arith

      some_le : (a x p : ℕ) → 0 < x → 0 < p → 0 < up_to xs low
      some_le a x p h k = subst (λ (z : ℕ). 0 < z) (sym (up_to_suc xs j) ∙ u.is) (sum (up_to xs j) (get_or xs j 0 * B ^ j) (mul-pos (u.top.top j refl) (pow_pos_base j)))
        where
          sum : (a b : ℕ) → 0 < b → 0 < a + b
          sum a b h = omega arith

  rest_is : left (up_to xs len) (B ^ low) ≡ not (eqb j 0)
  rest_is = ap (λ (x : ℕ). not (eqb x 0)) (sym low_is.1) ∙ used_some j u

  pub pattern_is : (b more : Bool) (c p : ℕ) → more ≡ b || not (eqb j 0) → Rounded w more (c + 16 * low) p → Rounded (up_to xs len) b c p
  pattern_is b more c p f q = record {
    is = λ num den D e l. q.is num den D
        (low_is.0 ∙ ap (λ (x : ℕ). x / B ^ low) e ∙ floor_floor (num * 2 ^ 150) (den * 2 ^ c) (B ^ low) ∙ ap (λ (x : ℕ). num * 2 ^ 150 / x) (dens den))
        (f ∙ ap (λ (x : Bool). b || x) (sym rest_is) ∙ ap (λ (x : Bool). x || left (up_to xs len) (B ^ low)) l
        ∙ ap (λ (x : ℕ). left (num * 2 ^ 150) (den * 2 ^ c) || left x (B ^ low)) e
        ∙ sym (left_left (num * 2 ^ 150) (den * 2 ^ c) (B ^ low) (mul-pos D (pow_pos c)) (subst (λ (x : ℕ). 0 < x) (sym (base_power low)) (pow_pos (16 * low))))
        ∙ ap (left (num * 2 ^ 150)) (dens den));
  }
    where
      dens : (den : ℕ) → den * 2 ^ c * B ^ low ≡ den * 2 ^ (c + 16 * low)
      dens den = ap (λ (x : ℕ). den * 2 ^ c * x) (base_power low) ∙ mul_assoc den (2 ^ c) (2 ^ (16 * low)) ∙ ap (λ (x : ℕ). den * x) (sym (pow-add 2 c (16 * low)))

  -- three words, the highest of them used, or all there are
  pub enough : Topped xs len → low ≡ len - 3 → (c : ℕ) → (2 ^ 24 ≤ up_to xs len) ⊎ (c ≡ 0) → (2 ^ 24 ≤ w) ⊎ (c + 16 * low ≡ 0)
  enough t e c s = elim (tri 3 len) [
    | inl l ↦ inl (le_trans (lit≤ tt) (subst (λ (x : ℕ). B ^ 2 ≤ x) (sym low_is.0) ((le-div_iff_mul-le (base_pos low)).1 (le_trans (le_of_eq (sym (pow-add B 2 low))) (reach len (len - 1) (t.top (len - 1) (before len l)) (step len low l e))))))
    | inr (inl l) ↦ few (omega arith) s
    | inr (inr l) ↦ few (omega arith) s
  ]
    where
      base_pos : (n : ℕ) → 0 < B ^ n
      base_pos n = subst (λ (x : ℕ). 0 < x) (sym (base_power n)) (pow_pos (16 * n))

      before : (len : ℕ) → 3 < len → suc (len - 1) ≡ len
      before len l = omega arith

      step : (len low : ℕ) → 3 < len → low ≡ len - 3 → (suc (len - 1) ≡ len) × (2 + low ≡ len - 1)
      step len low l e = (omega arith, omega arith)

      reach : (len j : ℕ) → 0 < get_or xs j 0 → (suc j ≡ len) × (2 + low ≡ j) → B ^ (2 + low) ≤ up_to xs len
      reach len j h e = subst (λ (n : ℕ). B ^ (2 + low) ≤ up_to xs n) e.0 (subst (λ (n : ℕ). B ^ n ≤ up_to xs (suc j)) (sym e.1) (le_trans (sum (up_to xs j) (B ^ j) (get_or xs j 0 * B ^ j) (le_trans (le_of_eq (sym (one-mul (B ^ j)))) (mul-le-mul_right (B ^ j) h))) (le_of_eq (sym (up_to_suc xs j)))))
        where
          sum : (a b x : ℕ) → b ≤ x → b ≤ a + x
          sum a b x h = omega arith

      few : low ≡ 0 → (2 ^ 24 ≤ up_to xs len) ⊎ (c ≡ 0) → (2 ^ 24 ≤ w) ⊎ (c + 16 * low ≡ 0)
      few z (inl l) = inl (subst (λ (x : ℕ). 2 ^ 24 ≤ x) (sym all) l)
        where
          all : w ≡ up_to xs len
          all = low_is.0 ∙ ap (λ (x : ℕ). up_to xs len / B ^ x) z ∙ div-one (up_to xs len)
      few z (inr l) = inr (omega arith)
