-- What the proofs of the functions on rows of words cite: the loops' invariants, one turn of each, and their ends. Assumes nothing.
use mathlib.Core.Path.{◌≡◌, refl, sym, ap, ◌∙◌, subst}
use mathlib.Core.Logic.{inl, inr}
use mathlib.Core.List.{List}
use Prim.Native.Nat.{ℕ, zero, suc, ◌+◌, ◌-◌, ◌*◌, ◌/◌, ◌%◌, ◌^◌, ◌≤◌, ◌<◌, zero-le}
use native.Mathlib.Nat.{le_refl, le_trans, le_of_eq, le-suc, lt_of_lt_of_le, lt_of_le_of_lt, ne_of_lt, ne_of_gt, mod-lt, zero-lt-suc, mul_comm, mul_assoc, add-mul, mul-add, suc-mul, one-mul, mul-le-mul_right, pow-suc, zero-mul, eq-zero-or-pos, div-lt_iff_lt-mul, div-add-mod', mul-add-div_right, mul-add-mod_self_right, div-eq_of_lt, mod-eq_of_lt, add-zero, pow-le-pow_right}
use native.Mathlib.Numerals.{add-one}
use native.Mathlib.Omega.{arith}
use lib.ListN.{length, get_or, set, length-set}
use lib.Seq.{get_or-set_same, get_or-set_other}
use lib.Dec.{lit<}
use Rattle.rules.proofs.Numerals.Order.{tri}
use Rattle.boost.specs.Row.{up_to, value, limit, Row, Scaled, Divided, Used, Highest}

abbrev pub B : ℕ
B = 0x1_0000

pub up_to_suc : (xs : List ℕ) (i : ℕ) → up_to xs (suc i) ≡ up_to xs i + get_or xs i 0 * B ^ i
unfolding up_to
up_to_suc xs i = refl

pub up_to_none : (xs : List ℕ) → up_to xs 0 ≡ 0
unfolding up_to
up_to_none xs = refl

-- the words below i alone count
pub up_to_same : (xs ys : List ℕ) (i : ℕ) → ((j : ℕ) → j < i → get_or xs j 0 ≡ get_or ys j 0) → up_to xs i ≡ up_to ys i
unfolding up_to
up_to_same xs ys zero h = refl
up_to_same xs ys (suc i) h =
    ap (λ (x : ℕ). x + get_or xs i 0 * B ^ i) (up_to_same xs ys i (λ j l. h j (le_trans l (le-suc i))))
    ∙ ap (λ (x : ℕ). up_to ys i + x * B ^ i) (h i (le_refl (suc i)))

-- ---- words below B: what i of them make is below B ^ i
pub top_lt : (u x w : ℕ) → u < w → x < B → u + x * w < w * B
top_lt u x w h k = let g : suc x * w ≤ B * w = mul-le-mul_right w k in let s : suc x * w ≡ x * w + w = suc-mul x w in let e : w * B ≡ B * w = mul_comm w B in omega arith

pub up_to_lt : (xs : List ℕ) (i : ℕ) → ((j : ℕ) → get_or xs j 0 < B) → up_to xs i < B ^ i
unfolding up_to
up_to_lt xs zero h = zero-lt-suc 0
up_to_lt xs (suc i) h = subst (λ (x : ℕ). up_to xs i + get_or xs i 0 * B ^ i < x) (sym (pow-suc B i)) (top_lt (up_to xs i) (get_or xs i 0) (B ^ i) (up_to_lt xs i h) (h i))

set_word : (ys : List ℕ) (i v : ℕ) → i < length ys → v < B → ((j : ℕ) → get_or ys j 0 < B) → (j : ℕ) → get_or (set ys i v) j 0 < B
set_word ys i v h k r j = elim (tri j i) [
  | inl n ↦ subst (λ (x : ℕ). x < B) (sym (get_or-set_other ys i j v 0 (ne_of_lt n))) (r j)
  | inr (inl e) ↦ subst (λ (x : ℕ). get_or (set ys i v) x 0 < B) (sym e) (subst (λ (x : ℕ). x < B) (sym (get_or-set_same ys i v 0 h)) k)
  | inr (inr n) ↦ subst (λ (x : ℕ). x < B) (sym (get_or-set_other ys i j v 0 (ne_of_gt n))) (r j)
]

-- one word changed
set_row : (ys : List ℕ) (i v : ℕ) → Row ys → i < 18 → v < B → Row (set ys i v)
set_row ys i v r h k = record { count = length-set ys i v ∙ r.count; word = set_word ys i v (subst (λ (n : ℕ). i < n) (sym r.count) h) k r.word }

set_below : (ys : List ℕ) (i v n : ℕ) → n ≤ i → up_to (set ys i v) n ≡ up_to ys n
set_below ys i v n h = up_to_same (set ys i v) ys n (λ j l. get_or-set_other ys i j v 0 (ne_of_lt (lt_of_lt_of_le l h)))

set_at : (ys : List ℕ) (i v : ℕ) → Row ys → i < 18 → get_or (set ys i v) i 0 ≡ v
set_at ys i v r h = get_or-set_same ys i v 0 (subst (λ (n : ℕ). i < n) (sym r.count) h)

set_change : (ys : List ℕ) (i v n : ℕ) → Row ys → i < 18 → i < n → up_to (set ys i v) n + get_or ys i 0 * B ^ i ≡ up_to ys n + v * B ^ i
unfolding up_to
set_change ys i v zero r h l = absurd (omega arith)
set_change ys i v (suc n) r h l = elim (tri i n) [
  | inl k ↦ far (up_to (set ys i v) n) (up_to ys n) (get_or (set ys i v) n 0) (get_or ys n 0) (get_or ys i 0 * B ^ i) (v * B ^ i) (B ^ n) (set_change ys i v n r h k) (get_or-set_other ys i n v 0 (ne_of_gt k))
  | inr (inl e) ↦ subst (λ (m : ℕ). up_to (set ys i v) m + get_or (set ys i v) m 0 * B ^ m + get_or ys i 0 * B ^ i ≡ up_to ys m + get_or ys m 0 * B ^ m + v * B ^ i) e (near (up_to (set ys i v) i) (up_to ys i) (get_or (set ys i v) i 0) (get_or ys i 0) v (B ^ i) (set_below ys i v i (le_refl i)) (set_at ys i v r h))
  | inr (inr k) ↦ absurd (omega arith)
]
  where
    far : (a b x y p q w : ℕ) → a + p ≡ b + q → x ≡ y → a + x * w + p ≡ b + y * w + q
    far a b x y p q w e f = let g : x * w ≡ y * w = ap (λ (z : ℕ). z * w) f in omega arith

    near : (a b x y v w : ℕ) → a ≡ b → x ≡ v → a + x * w + y * w ≡ b + y * w + v * w
    near a b x y v w e f = let g : x * w ≡ v * w = ap (λ (z : ℕ). z * w) f in omega arith

-- ---- `scale`
pub record Going (xs : List ℕ) (from m add : ℕ) (ys : List ℕ) (carry i : ℕ) : Type 0 where
  pub within : i ≤ 18
  pub begun : from ≤ i
  pub small : carry < m
  pub row : Row ys
  pub rest : (j : ℕ) → i ≤ j → get_or ys j 0 ≡ get_or xs j 0
  pub none : up_to ys from ≡ 0
  pub is : up_to ys i + carry * B ^ i ≡ up_to xs i * m + add * B ^ from

step_sum : (u c w a m add lo hi x : ℕ) → u + c * w ≡ a * m + add → lo + hi * B ≡ x * m + c → u + lo * w + hi * (w * B) ≡ (a + x * w) * m + add
step_sum u c w a m add lo hi x p q =
    let e : lo * w + hi * (w * B) ≡ x * m * w + c * w = shape ∙ ap (λ (z : ℕ). z * w) q ∙ add-mul (x * m) c w in
    let f : (a + x * w) * m ≡ a * m + x * m * w = add-mul a (x * w) m ∙ ap (λ (z : ℕ). a * m + z) (mul_assoc x w m ∙ ap (λ (z : ℕ). x * z) (mul_comm w m) ∙ sym (mul_assoc x m w)) in
    omega arith
  where
    shape : lo * w + hi * (w * B) ≡ (lo + hi * B) * w
    shape = sym (add-mul lo (hi * B) w ∙ ap (λ (z : ℕ). lo * w + z) (mul_assoc hi B w ∙ ap (λ (z : ℕ). hi * z) (mul_comm B w)))

pub going_next : (xs : List ℕ) (from m add : ℕ) (ys : List ℕ) (carry i t : ℕ) → Going xs from m add ys carry i → i < 18 → t ≡ get_or ys i 0 * m + carry → (v : ℕ) → v ≡ t % B → Going xs from m add (set ys i v) (t / B) (i + 1)
going_next xs from m add ys carry i t g h e v f =
    let v_lt : v < B = subst (λ (x : ℕ). x < B) (sym f) (mod-lt t (lit< tt)) in
    record {
      within = omega arith;
      begun = le_trans g.begun (omega arith);
      small = over (get_or ys i 0) m carry t (g.row.word i) g.small e;
      row = set_row ys i v g.row h v_lt;
      rest = λ j l. get_or-set_other ys i j v 0 (ne_of_gt (le_trans (le_of_eq (sym (add-one i))) l)) ∙ g.rest j (le_trans (le-suc i) (le_trans (le_of_eq (sym (add-one i))) l));
      none = set_below ys i v from g.begun ∙ g.none;
      is = subst (λ (n : ℕ). up_to (set ys i v) n + t / B * B ^ n ≡ up_to xs n * m + add * B ^ from) (sym (add-one i))
          (ap (λ (z : ℕ). z + t / B * B ^ suc i) (up_to_suc (set ys i v) i)
          ∙ ap (λ (z : ℕ). z + get_or (set ys i v) i 0 * B ^ i + t / B * B ^ suc i) (set_below ys i v i (le_refl i))
          ∙ ap (λ (z : ℕ). up_to ys i + z * B ^ i + t / B * B ^ suc i) (set_at ys i v g.row h)
          ∙ ap (λ (z : ℕ). up_to ys i + v * B ^ i + t / B * z) (pow-suc B i)
          ∙ step_sum (up_to ys i) carry (B ^ i) (up_to xs i) m (add * B ^ from) v (t / B) (get_or ys i 0) g.is (parts v t f ∙ e)
          ∙ ap (λ (z : ℕ). (up_to xs i + z * B ^ i) * m + add * B ^ from) (g.rest i (le_refl i))
          ∙ ap (λ (z : ℕ). z * m + add * B ^ from) (sym (up_to_suc xs i)));
    }
  where
    parts : (v t : ℕ) → v ≡ t % B → v + t / B * B ≡ t
    parts v t f = omega arith

    over : (x m c t : ℕ) → x < B → c < m → t ≡ x * m + c → t / B < m
    over x m c t a d e = let p : suc x * m ≤ B * m = mul-le-mul_right m a in let s : suc x * m ≡ x * m + m = suc-mul x m in omega arith

-- what fits leaves no carry
no_over : (a r w b : ℕ) → a + r * w ≡ b → b < w → a ≡ b
no_over a r w b e h = elim (eq-zero-or-pos r) [
  | inl z ↦ plain a (r * w) b (ap (λ (x : ℕ). x * w) z ∙ zero-mul w) e
  | inr p ↦ absurd (big a (r * w) w b (le_trans (le_of_eq (sym (one-mul w))) (mul-le-mul_right w p)) e h)
]
  where
    plain : (a x b : ℕ) → x ≡ 0 → a + x ≡ b → a ≡ b
    plain a x b z e = omega arith

    big : (a x w b : ℕ) → w ≤ x → a + x ≡ b → b < w → ⊥
    big a x w b g e h = omega arith

pub going_last : (xs : List ℕ) (from m add : ℕ) (ys : List ℕ) (carry i : ℕ) → Going xs from m add ys carry i → 18 ≤ i → value xs * m + add * B ^ from < limit → Scaled xs ys from m add
unfolding limit
going_last xs from m add ys carry i g h l =
    let i-is : i ≡ 18 = omega (arith, g.within) in
    record {
      none = g.none;
      is = no_over (value ys) carry (B ^ 18) (value xs * m + add * B ^ from) (subst (λ (n : ℕ). up_to ys n + carry * B ^ n ≡ up_to xs n * m + add * B ^ from) i-is g.is) l;
    }

-- one less, where there is one
back : (i : ℕ) → 0 < i → suc (i - 1) ≡ i
back i h = omega arith

-- ---- `divide`
pub record Dividing (xs : List ℕ) (len f : ℕ) (ys : List ℕ) (rest i : ℕ) : Type 0 where
  pub within : i ≤ len
  pub small : rest < f
  pub row : Row ys
  pub is : up_to xs len + f * up_to ys i ≡ f * up_to ys len + rest * B ^ i + up_to ys i

-- a rest and a word
pub rest_fits : (rest x f : ℕ) → rest < f → f ≤ 2 ^ 47 → x < B → (rest * B < 2 ^ 63) × (rest * B + x < 2 ^ 64) × (rest * B + x < B * f)
rest_fits rest x f a b d = (omega arith, omega arith, omega arith)

quotient_few : (t f : ℕ) → 0 < f → t < B * f → t / f < B
quotient_few t f p h = (div-lt_iff_lt-mul p).1 h

divide_sum : (X f U w P Y W rest v r t : ℕ) → X + f * (U + w * P) ≡ f * Y + rest * (P * B) + (U + w * P) → W + w * P ≡ Y + v * P → t ≡ rest * B + w → v * f + r ≡ t → X + f * U ≡ f * W + r * P + U
divide_sum X f U w P Y W rest v r t a b c d =
    let e1 : f * (U + w * P) ≡ f * U + f * (w * P) = mul-add f U (w * P) in
    let e2 : f * (W + w * P) ≡ f * W + f * (w * P) = mul-add f W (w * P) in
    let e3 : f * (Y + v * P) ≡ f * Y + f * (v * P) = mul-add f Y (v * P) in
    let e4 : f * (W + w * P) ≡ f * (Y + v * P) = ap (λ (z : ℕ). f * z) b in
    let e5 : (v * f + r) * P ≡ v * f * P + r * P = add-mul (v * f) r P in
    let e6 : (rest * B + w) * P ≡ rest * B * P + w * P = add-mul (rest * B) w P in
    let e7 : (v * f + r) * P ≡ (rest * B + w) * P = ap (λ (z : ℕ). z * P) (d ∙ c) in
    let e8 : v * f * P ≡ f * (v * P) = ap (λ (z : ℕ). z * P) (mul_comm v f) ∙ mul_assoc f v P in
    let e9 : rest * (P * B) ≡ rest * B * P = ap (λ (z : ℕ). rest * z) (mul_comm P B) ∙ sym (mul_assoc rest B P) in
    omega arith

dividing_turn : (xs : List ℕ) (len f : ℕ) (ys : List ℕ) (rest i t v : ℕ) → Dividing xs len f ys rest (suc i) → len ≤ 18 → 0 < f → f ≤ 2 ^ 47 → t ≡ rest * B + get_or ys i 0 → v ≡ t / f → Dividing xs len f (set ys i v) (t % f) i
dividing_turn xs len f ys rest i t v g h F k e q = record {
  within = le_trans (le-suc i) g.within;
  small = mod-lt t F;
  row = set_row ys i v g.row at v_lt;
  is = subst (λ (z : ℕ). up_to xs len + f * z ≡ f * up_to (set ys i v) len + t % f * B ^ i + z) (sym (set_below ys i v i (le_refl i)))
      (divide_sum (up_to xs len) f (up_to ys i) (get_or ys i 0) (B ^ i) (up_to ys len) (up_to (set ys i v) len) rest v (t % f) t
      (subst (λ (z : ℕ). up_to xs len + f * z ≡ f * up_to ys len + rest * (B ^ i * B) + z) (up_to_suc ys i) (subst (λ (z : ℕ). up_to xs len + f * up_to ys (suc i) ≡ f * up_to ys len + rest * z + up_to ys (suc i)) (pow-suc B i) g.is))
      (set_change ys i v len g.row at g.within) e (ap (λ (z : ℕ). z * f + t % f) q ∙ div-add-mod' t f));
}
  where
    at : i < 18
    at = lt_of_lt_of_le g.within h

    few : t / f < B
    few = quotient_few t f F (subst (λ (z : ℕ). z < B * f) (sym e) (rest_fits rest (get_or ys i 0) f g.small k (g.row.word i)).2)

    v_lt : v < B
    v_lt = subst (λ (z : ℕ). z < B) (sym q) few

pub dividing_next : (xs : List ℕ) (len f : ℕ) (ys : List ℕ) (rest i t v : ℕ) → Dividing xs len f ys rest i → len ≤ 18 → 0 < i → 0 < f → f ≤ 2 ^ 47 → t ≡ rest * B + get_or ys (i - 1) 0 → v ≡ t / f → Dividing xs len f (set ys (i - 1) v) (t % f) (i - 1)
dividing_next xs len f ys rest i t v g h l = dividing_turn xs len f ys rest (i - 1) t v (subst (λ (n : ℕ). Dividing xs len f ys rest n) (sym (back i l)) g) h

-- a whole number by its quotient and its rest
pub only_quotient : (a q f r : ℕ) → a ≡ q * f + r → r < f → (q ≡ a / f) × (r ≡ a % f)
only_quotient a q f r e h = (
  sym (ap (λ (x : ℕ). x / f) e ∙ mul-add-div_right (lt_of_le_of_lt zero-le h) q r ∙ ap (λ (x : ℕ). q + x) (div-eq_of_lt h) ∙ add-zero q),
  sym (ap (λ (x : ℕ). x % f) e ∙ mul-add-mod_self_right q f r ∙ mod-eq_of_lt h),
)

pub dividing_last : (xs : List ℕ) (len f : ℕ) (ys : List ℕ) (rest i : ℕ) → Dividing xs len f ys rest i → i ≤ 0 → Divided xs ys len f rest
unfolding up_to
dividing_last xs len f ys rest (suc i) g h = absurd (omega arith)
dividing_last xs len f ys rest zero g h = let u = only_quotient (up_to xs len) (up_to ys len) f rest (tidy (up_to xs len) f (up_to ys len) rest g.is) g.small in record { is = u.0; rest = u.1 }
  where
    tidy : (x f y r : ℕ) → x + f * 0 ≡ f * y + r * 1 + 0 → x ≡ y * f + r
    tidy x f y r e = let c : y * f ≡ f * y = mul_comm y f in omega arith

-- ---- `used`
pub record Using (xs : List ℕ) (len i : ℕ) : Type 0 where
  pub within : i ≤ len
  pub is : up_to xs i ≡ up_to xs len

using_turn : (xs : List ℕ) (len i : ℕ) → Using xs len (suc i) → get_or xs i 0 ≡ 0 → Using xs len i
using_turn xs len i g e = record { within = le_trans (le-suc i) g.within; is = sym (up_to_suc xs i ∙ ap (λ (x : ℕ). up_to xs i + x * B ^ i) e ∙ tidy (up_to xs i) (B ^ i)) ∙ g.is }
  where
    tidy : (u w : ℕ) → u + 0 * w ≡ u
    tidy u w = omega (arith, zero-mul w)

pub using_next : (xs : List ℕ) (len i : ℕ) → Using xs len i → 0 < i → get_or xs (i - 1) 0 ≡ 0 → Using xs len (i - 1)
using_next xs len i g h = using_turn xs len (i - 1) (subst (Using xs len) (sym (back i h)) g)

pub using_none : (xs : List ℕ) (len i : ℕ) → Using xs len i → i ≤ 0 → Used xs len 0
using_none xs len zero g h = record { within = zero-le; is = g.is; top = record { top = λ j e. absurd (omega arith) } }
using_none xs len (suc i) g h = absurd (omega arith)

-- ---- `highest`
pub record Gathered (xs : List ℕ) (low len w i : ℕ) : Type 0 where
  pub after : low ≤ i
  pub within : i ≤ len
  pub is : w * B ^ i + up_to xs i ≡ up_to xs len
  pub small : w < B ^ (len - i)

base_mono : (i j : ℕ) → i ≤ j → B ^ i ≤ B ^ j
base_mono i j h = pow-le-pow_right (zero-lt-suc 0xffff) h

pub gathered_few : (xs : List ℕ) (low len w i : ℕ) → Gathered xs low len w i → len ≤ low + 3 → low < i → w < 2 ^ 32
gathered_few xs low len w i g h l = lt_of_lt_of_le g.small (base_mono (len - i) 2 (go low len i h l))
  where
    go : (low len i : ℕ) → len ≤ low + 3 → low < i → len - i ≤ 2
    go low len i h l = omega arith

gathered_turn : (xs : List ℕ) (low len w i x : ℕ) → Row xs → Gathered xs low len w (suc i) → low ≤ i → x ≡ get_or xs i 0 → Gathered xs low len (w * B + x) i
gathered_turn xs low len w i x r g h e = record {
  after = h;
  within = le_trans (le-suc i) g.within;
  is = sum w x (B ^ i) (up_to xs i) ∙ ap (λ (z : ℕ). w * (B ^ i * B) + (up_to xs i + z * B ^ i)) e ∙ ap (λ (z : ℕ). w * z + (up_to xs i + get_or xs i 0 * B ^ i)) (sym (pow-suc B i)) ∙ ap (λ (z : ℕ). w * B ^ suc i + z) (sym (up_to_suc xs i)) ∙ g.is;
  small = subst (λ (n : ℕ). w * B + x < B ^ n) (one len i g.within) (subst (λ (n : ℕ). w * B + x < n) (sym (pow-suc B (len - suc i))) (more w x (B ^ (len - suc i)) g.small (subst (λ (z : ℕ). z < B) (sym e) (r.word i))));
}
  where
    sum : (w x p u : ℕ) → (w * B + x) * p + u ≡ w * (p * B) + (u + x * p)
    sum w x p u = let a : (w * B + x) * p ≡ w * B * p + x * p = add-mul (w * B) x p in let b : w * (p * B) ≡ w * B * p = ap (λ (z : ℕ). w * z) (mul_comm p B) ∙ sym (mul_assoc w B p) in omega arith

    one : (n i : ℕ) → i < n → suc (n - suc i) ≡ n - i
    one n i h = omega arith

    more : (w x p : ℕ) → w < p → x < B → w * B + x < p * B
    more w x p h k = omega arith

pub gathered_next : (xs : List ℕ) (low len w i x : ℕ) → Row xs → Gathered xs low len w i → low < i → x ≡ get_or xs (i - 1) 0 → Gathered xs low len (w * B + x) (i - 1)
gathered_next xs low len w i x r g h = gathered_turn xs low len w (i - 1) x r (subst (Gathered xs low len w) (sym (back i (omega arith))) g) (omega arith)

pub gathered_last : (xs : List ℕ) (low len w i : ℕ) → Gathered xs low len w i → len ≤ low + 3 → i ≤ low → Highest xs low len w
gathered_last xs low len w i g h l =
    let e : i ≡ low = omega (arith, g.after) in
    record {
      is = subst (λ (n : ℕ). w * B ^ n + up_to xs n ≡ up_to xs len) e g.is;
      small = lt_of_lt_of_le g.small (base_mono (len - i) 3 (go low len i h g.after));
    }
  where
    go : (low len i : ℕ) → len ≤ low + 3 → low ≤ i → len - i ≤ 3
    go low len i h l = omega arith
