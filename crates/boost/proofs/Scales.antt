-- What the proofs of the functions from digits and an exponent to a pattern cite. Assumes nothing.
use mathlib.Core.Path.{◌≡◌, sym, ap, ◌∙◌, subst}
use mathlib.Core.Logic.{inl, inr}
use mathlib.Core.List.{List}
use mathlib.Core.Bool.{Bool, false, not}
use Prim.Native.Nat.{ℕ, ◌+◌, ◌-◌, ◌*◌, ◌/◌, ◌^◌, ◌≤◌, ◌<◌, min}
use native.Mathlib.Nat.{le_refl, le_trans, le_of_eq, le_of_lt, lt_of_le_of_lt, lt_of_lt_of_le, eq-zero-or-pos, one-mul, mul-one, mul_assoc, mul-le-mul_right, mul-le-mul_left, mul-lt-mul_of_pos_right, zero-mul, zero-lt-suc, div-one, mod-one, mul-div-mul_right}
use native.Mathlib.Omega.{arith}
use lib.Dec.{eqb, lit≤}
use lib.ListN.{length}
use lib.Pow.{pow-add, pow_pos}
use lib.Ieee.{binary32, to_bits}
use lib.Ieee.Scale.{round_same}
use Rattle.rules.specs.Numerals.{infinity, is_digit, digits_on, nearest}
use Rattle.rules.proofs.Numerals.Nearest.{nearest_is, bound_infinity, bound_zero}
use Rattle.boost.specs.Row.{up_to, value, limit, Times, Used, Quotient}
use Rattle.boost.specs.Top.{left, Rounded}
use Rattle.std.specs.List.{AllPass}
use Rattle.boost.specs.Digits.{short_most, quick_most, number_of, Held, forty}
use Rattle.boost.specs.Decimal.{Up, Down}
use Rattle.boost.proofs.Divisions.{left_scale}
use Rattle.boost.proofs.Tens.{ten_pos, ten_mono, five_pos, by_five, twos_off}
use Rattle.boost.proofs.Rooms.{room_tens}
use Rattle.boost.proofs.Runs.{run_few}

-- ---- the number of the digits
pub whole_few : (whole : List ℕ) → AllPass is_digit whole → digits_on 0 whole < 10 ^ length whole
whole_few whole a = subst (λ (x : ℕ). digits_on 0 whole < 10 ^ x) (go (length whole)) (run_few 0 0 whole a (zero-lt-suc 0))
  where
    go : (n : ℕ) → 0 + n ≡ n
    go n = omega arith

module _ (whole fraction : List ℕ) (v : ℕ) (g : Held whole fraction v) where
  pub held_few : number_of whole fraction < forty
  unfolding forty
  held_few = lt_of_lt_of_le (run_few (digits_on 0 whole) (length whole) fraction g.fraction_digits (whole_few whole g.whole_digits)) (ten_mono (length whole + length fraction) 40 g.few)

  pub places_most : length fraction ≤ 40
  places_most = omega (arith, g.few)

  pub held_zero : v ≡ 0 → number_of whole fraction ≡ 0
  held_zero e = go v (number_of whole fraction) g.is e
    where
      go : (v n : ℕ) → v ≡ min n short_most → v ≡ 0 → n ≡ 0
      go v n e h = omega arith

  pub held_some : (v ≡ 0 → ⊥) → 0 < number_of whole fraction
  held_some h = go v (number_of whole fraction) g.is h
    where
      go : (v n : ℕ) → v ≡ min n short_most → (v ≡ 0 → ⊥) → 0 < n
      go v n e h = elim (eq-zero-or-pos n) [ inl z ↦ absurd (h (less v n e z)) | inr p ↦ p ]
        where
          less : (v n : ℕ) → v ≡ min n short_most → n ≡ 0 → v ≡ 0
          less v n e z = omega arith

  -- what is not for the short way has 25 places
  pub much_digits : (n : ℕ) → quick_most ≤ v → 2 ^ 24 ≤ number_of whole fraction * 10 ^ n
  much_digits n h = le_trans (go v (number_of whole fraction) g.is h) (le_trans (le_of_eq (sym (mul-one (number_of whole fraction)))) (mul-le-mul_left (number_of whole fraction) (ten_pos n)))
    where
      go : (v n : ℕ) → v ≡ min n short_most → quick_most ≤ v → 2 ^ 24 ≤ n
      go v n e h = omega arith

  pub much_tens : (n : ℕ) → 0 < v → 8 ≤ n → 2 ^ 24 ≤ number_of whole fraction * 10 ^ n
  much_tens n h k = le_trans (lit≤ tt) (le_trans (ten_mono 8 n k) (le_trans (le_of_eq (sym (one-mul (10 ^ n)))) (mul-le-mul_right (10 ^ n) (go v (number_of whole fraction) g.is h))))
    where
      go : (v n : ℕ) → v ≡ min n short_most → 0 < v → 1 ≤ n
      go v n e h = omega arith

-- ---- by a row
-- N over 10 ^ n: in half units, times 2 ^ (150 - n) and over 5 ^ n
module _ (N n : ℕ) (xs zs : List ℕ) (len : ℕ) (b : Bool) (r : ℕ) (h : n < 86) (e : value xs ≡ N * 2 ^ (150 - n)) (q : Quotient xs zs n len b) (k : Rounded (up_to zs len) b 0 r) where
  pub below_row : r ≡ nearest N (10 ^ n)
  below_row = k.is N (10 ^ n) (ten_pos n) (q.is ∙ ap (λ (x : ℕ). x / 5 ^ n) e ∙ same.0) (q.rest ∙ ap (λ (x : ℕ). left x (5 ^ n)) e ∙ same.1)
    where
      all : (n : ℕ) → n < 86 → 150 - n + n ≡ 150
      all n h = omega arith

      none : (n : ℕ) → n + 0 ≡ n
      none n = omega arith

      same : (N * 2 ^ (150 - n) / 5 ^ n ≡ N * 2 ^ 150 / (10 ^ n * 2 ^ 0)) × (left (N * 2 ^ (150 - n)) (5 ^ n) ≡ left (N * 2 ^ 150) (10 ^ n * 2 ^ 0))
      same = by_five N n 0 n (N * 2 ^ (150 - n)) (5 ^ n) (five_pos n)
          (ap (λ (x : ℕ). N * 2 ^ x) (sym (all n h)) ∙ ap (λ (x : ℕ). N * x) (pow-add 2 (150 - n) n) ∙ sym (mul_assoc N (2 ^ (150 - n)) (2 ^ n))) (twos_off n 0 n (none n))

-- N times 10 ^ n
module _ (N n : ℕ) (xs ys : List ℕ) (len : ℕ) (e : value xs ≡ N * 0x1_0000 ^ 0) (t : Times xs ys (10 ^ n)) (u : Used ys 18 len) where
  all_is : up_to ys len ≡ N * 10 ^ n
  all_is = u.is ∙ t.is ∙ ap (λ (x : ℕ). x * 10 ^ n) (e ∙ mul-one N)

  pub above_enough : 2 ^ 24 ≤ N * 10 ^ n → 2 ^ 24 ≤ up_to ys len
  above_enough h = subst (λ (x : ℕ). 2 ^ 24 ≤ x) (sym all_is) h

  pub above_row : (r : ℕ) → Rounded (up_to ys len) false 150 r → r ≡ nearest (N * 10 ^ n) 1
  above_row r k = k.is (N * 10 ^ n) 1 (zero-lt-suc 0)
      (all_is ∙ sym (mul-div-mul_right (N * 10 ^ n) 1 (pow_pos 150) ∙ div-one (N * 10 ^ n)))
      (sym (left_scale (N * 10 ^ n) 1 (2 ^ 150) (zero-lt-suc 0) (pow_pos 150) ∙ ap (λ (x : ℕ). not (eqb x 0)) (mod-one (N * 10 ^ n))))

pub above_room : (N n x : ℕ) → x ≡ N * 0x1_0000 ^ 0 → N < forty → n < 39 → x * 10 ^ n < limit
above_room N n x e h k = lt_of_le_of_lt (le_of_eq (ap (λ (y : ℕ). y * 10 ^ n) (e ∙ mul-one N))) (room_tens N n h k)

pub nearest_within : (num den r : ℕ) → 0 < den → r ≡ nearest num den → r ≤ infinity
nearest_within num den r D e = subst (λ (x : ℕ). x ≤ infinity) (sym e) (nearest_is num den D).within

nearest_same : (a b c d : ℕ) → 0 < b → 0 < d → a * d ≡ c * b → nearest a b ≡ nearest c d
unfolding nearest
nearest_same a b c d B D e = ap (to_bits binary32) (round_same binary32 false a b c d B D e)

zero_within : 0 ≤ infinity
zero_within = lit≤ tt

-- ---- `scaled_up`
uncut : (X x c : ℕ) → x ≡ min X short_most → x < c → c ≤ short_most → X ≡ x
uncut X x c e h k = omega arith

split : (d a b c : ℕ) → a + b ≡ c → d * 10 ^ c ≡ d * 10 ^ a * 10 ^ b
split d a b c e = ap (λ (y : ℕ). d * y) (ap (λ (y : ℕ). 10 ^ y) (sym e) ∙ pow-add 10 a b) ∙ sym (mul_assoc d (10 ^ a) (10 ^ b))

pub up_below : (d x f r : ℕ) → x ≤ f → f ≤ 40 → r ≡ nearest d (10 ^ (f - x)) → Up d x f r
up_below d x f r l k h = record {
  within = nearest_within d (10 ^ (f - x)) r (ten_pos (f - x)) h;
  is = λ X e. h ∙ nearest_same d (10 ^ (f - x)) (d * 10 ^ x) (10 ^ f) (ten_pos (f - x)) (ten_pos f) (split d x (f - x) f (go x f l))
      ∙ ap (λ (y : ℕ). nearest (d * 10 ^ y) (10 ^ f)) (sym (uncut X x 41 e (few x f l k) (lit≤ tt)));
}
  where
    few : (x f : ℕ) → x ≤ f → f ≤ 40 → x < 41
    few x f l k = omega arith

    go : (x f : ℕ) → x ≤ f → x + (f - x) ≡ f
    go x f l = omega arith

pub up_above : (d x f r : ℕ) → f ≤ x → f ≤ 40 → x - f < 39 → r ≡ nearest (d * 10 ^ (x - f)) 1 → Up d x f r
up_above d x f r l k m h = record {
  within = nearest_within (d * 10 ^ (x - f)) 1 r (zero-lt-suc 0) h;
  is = λ X e. h ∙ nearest_same (d * 10 ^ (x - f)) 1 (d * 10 ^ x) (10 ^ f) (zero-lt-suc 0) (ten_pos f) (sym (split d (x - f) f x (go x f l)) ∙ sym (mul-one (d * 10 ^ x)))
      ∙ ap (λ (y : ℕ). nearest (d * 10 ^ y) (10 ^ f)) (sym (uncut X x 79 e (few x f k m) (lit≤ tt)));
}
  where
    few : (x f : ℕ) → f ≤ 40 → x - f < 39 → x < 79
    few x f k m = omega arith

    go : (x f : ℕ) → f ≤ x → x - f + f ≡ x
    go x f l = omega arith

pub up_zero : (d x f : ℕ) → d ≡ 0 → Up d x f 0
up_zero d x f e = record {
  within = zero_within;
  is = λ X g. sym (bound_zero (d * 10 ^ X) (10 ^ f) (ten_pos f)
      (le_trans (le_of_eq (ap (λ (y : ℕ). y * 10 ^ X * 2 ^ 150) e ∙ ap (λ (y : ℕ). y * 2 ^ 150) (zero-mul (10 ^ X)) ∙ zero-mul (2 ^ 150))) (none (10 ^ f))));
}
  where
    none : (n : ℕ) → 0 ≤ n
    none n = omega arith

pub up_huge : (d x f : ℕ) → 0 < d → f ≤ x → 39 ≤ x - f → Up d x f infinity
up_huge d x f D l m = record {
  within = le_refl infinity;
  is = λ X e. sym (bound_infinity (d * 10 ^ X) (10 ^ f) (ten_pos f)
      (le_trans (mul-le-mul_right (10 ^ f) over) (le_trans (le_of_eq (sym (pow-add 10 39 f))) (le_trans (ten_mono (39 + f) X (go X x f e l m)) (le_trans (le_of_eq (sym (one-mul (10 ^ X)))) (mul-le-mul_right (10 ^ X) D))))));
}
  where
    over : (2 ^ 25 - 1) * 2 ^ 103 ≤ 10 ^ 39
    over = lit≤ tt

    go : (X x f : ℕ) → x ≡ min X short_most → f ≤ x → 39 ≤ x - f → 39 + f ≤ X
    go X x f e l m = omega arith

-- ---- `scaled_down`
less_86 : (d : ℕ) → d < forty → d * 10 ^ 0 * 2 ^ 150 ≤ 10 ^ 86
unfolding forty
less_86 d h = le_of_lt (lt_of_lt_of_le (mul-lt-mul_of_pos_right (lt_of_le_of_lt (le_of_eq (mul-one d)) h) (pow_pos 150)) (lit≤ tt))

pub down_tiny : (d x f : ℕ) → d < forty → 85 < f + x → Down d x f 0
down_tiny d x f h l = record { within = zero_within; is = λ X e. sym (bound_zero (d * 10 ^ 0) (10 ^ (f + X)) (ten_pos (f + X)) (le_trans (less_86 d h) (ten_mono 86 (f + X) (go X x f e l)))) }
  where
    go : (X x f : ℕ) → x ≡ min X short_most → 85 < f + x → 86 ≤ f + X
    go X x f e l = omega arith

pub down_below : (d x f r : ℕ) → f + x ≤ 85 → r ≡ nearest d (10 ^ (f + x)) → Down d x f r
down_below d x f r l h = record {
  within = nearest_within d (10 ^ (f + x)) r (ten_pos (f + x)) h;
  is = λ X e. h ∙ ap (λ (y : ℕ). nearest y (10 ^ (f + x))) (sym (mul-one d)) ∙ ap (λ (y : ℕ). nearest (d * 10 ^ 0) (10 ^ (f + y))) (sym (uncut X x 86 e (go x f l) (lit≤ tt)));
}
  where
    go : (x f : ℕ) → f + x ≤ 85 → x < 86
    go x f l = omega arith
