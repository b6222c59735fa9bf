-- What the proofs of `tens` and `fives` cite: powers of ten and of five, and passes over a row one after the other. Assumes nothing.
use mathlib.Core.Path.{◌≡◌, refl, sym, ap, ◌∙◌, subst}
use mathlib.Core.List.{List}
use mathlib.Core.Bool.{Bool, false, not, ◌||◌}
use Prim.Native.Nat.{ℕ, zero, suc, ◌+◌, ◌-◌, ◌*◌, ◌/◌, ◌%◌, ◌^◌, ◌≤◌, ◌<◌, zero-le}
use native.Mathlib.Nat.{le_trans, le_of_eq, lt_of_le_of_lt, lt_of_lt_of_le, mul-one, mul_comm, mul_assoc, mul-le-mul_left, pow-suc, pow-le-pow_right, div-one, mod-one, mul-div-mul_right, zero-mul, add-zero}
use native.Mathlib.Omega.{arith}
use lib.Dec.{eqb, lit<, lit≤}
use lib.Pow.{pow-add, pow_pos}
use Rattle.boost.specs.Row.{up_to, value, limit, Scaled, Times, Divided, Topped, Used, Quotient}
use Rattle.boost.specs.Top.{left}
use Rattle.boost.proofs.Divisions.{floor_floor, left_left, left_scale}

-- ---- powers
pub ten_mono : (i j : ℕ) → i ≤ j → 10 ^ i ≤ 10 ^ j
ten_mono i j h = pow-le-pow_right (lit< tt) h

pub five_mono : (i j : ℕ) → i ≤ j → 5 ^ i ≤ 5 ^ j
five_mono i j h = pow-le-pow_right (lit< tt) h

pub ten_pos : (k : ℕ) → 0 < 10 ^ k
ten_pos k = lt_of_lt_of_le (lit< tt) (ten_mono 0 k zero-le)

pub five_pos : (k : ℕ) → 0 < 5 ^ k
five_pos k = lt_of_lt_of_le (lit< tt) (five_mono 0 k zero-le)

-- a number that no smaller one is
-- ten is five times two
pub ten_five : (n : ℕ) → 10 ^ n ≡ 5 ^ n * 2 ^ n
ten_five zero = refl
ten_five (suc n) = pow-suc 10 n ∙ ap (λ (x : ℕ). x * 10) (ten_five n) ∙ sum (5 ^ n) (2 ^ n) ∙ sym (ap (λ (x : ℕ). x * 2 ^ suc n) (pow-suc 5 n) ∙ ap (λ (x : ℕ). 5 ^ n * 5 * x) (pow-suc 2 n))
  where
    sum : (a b : ℕ) → a * b * 10 ≡ a * 5 * (b * 2)
    sum a b = let e : a * 5 * b ≡ a * b * 5 = mul_assoc a 5 b ∙ ap (λ (x : ℕ). a * x) (mul_comm 5 b) ∙ sym (mul_assoc a b 5) in let f : a * 5 * (b * 2) ≡ a * 5 * b * 2 = sym (mul_assoc (a * 5) b 2) in omega arith

-- a power of the sum of two
join : (b i j k : ℕ) → i + j ≡ k → b ^ i * b ^ j ≡ b ^ k
join b i j k e = sym (pow-add b i j) ∙ ap (λ (x : ℕ). b ^ x) e

-- ---- `tens`
pub record Tens (xs ys : List ℕ) (n j : ℕ) : Type 0 where
  pub is : value ys * 10 ^ j ≡ value xs * 10 ^ n

pub tens_room : (xs ys : List ℕ) (n j c m : ℕ) → Tens xs ys n j → value xs * 10 ^ n < limit → c ≤ j → m ≡ 10 ^ c → value ys * m + 0 * 0x1_0000 ^ 0 < limit
tens_room xs ys n j c m g h l e =
    lt_of_le_of_lt (le_of_eq (ap (λ (x : ℕ). value ys * m + x) (zero-mul (0x1_0000 ^ 0)) ∙ add-zero (value ys * m) ∙ ap (λ (x : ℕ). value ys * x) e))
    (lt_of_le_of_lt (le_trans (mul-le-mul_left (value ys) (ten_mono c j l)) (le_of_eq g.is)) h)

pub tens_next : (xs ys zs : List ℕ) (n j c m : ℕ) → Tens xs ys n j → c ≤ j → m ≡ 10 ^ c → Scaled ys zs 0 m 0 → Tens xs zs n (j - c)
tens_next xs ys zs n j c m g h e t = record {
  is = ap (λ (x : ℕ). x * 10 ^ (j - c)) (t.is ∙ ap (λ (x : ℕ). value ys * m + x) (zero-mul (0x1_0000 ^ 0)) ∙ add-zero (value ys * m) ∙ ap (λ (x : ℕ). value ys * x) e)
      ∙ mul_assoc (value ys) (10 ^ c) (10 ^ (j - c)) ∙ ap (λ (x : ℕ). value ys * x) (join 10 c (j - c) j (go c j h)) ∙ g.is;
}
  where
    go : (c j : ℕ) → c ≤ j → c + (j - c) ≡ j
    go c j h = omega arith

pub tens_last : (xs ys : List ℕ) (n j : ℕ) → Tens xs ys n j → j ≤ 0 → Times xs ys (10 ^ n)
tens_last xs ys n j g h = record { is = sym (mul-one (value ys)) ∙ ap (λ (x : ℕ). value ys * 10 ^ x) (sym (go j h)) ∙ g.is }
  where
    go : (j : ℕ) → j ≤ 0 → j ≡ 0
    go j h = omega arith

pub ten_factor : (c m : ℕ) → c ≤ 14 → m ≡ 10 ^ c → (m ≤ 2 ^ 47) × (0 < m)
ten_factor c m h e = (le_trans (le_of_eq e) (le_trans (ten_mono c 14 h) (lit≤ tt)), subst (λ (x : ℕ). 0 < x) (sym e) (ten_pos c))

-- ---- `fives`
pub record Fives (xs ys : List ℕ) (n j len : ℕ) (b : Bool) : Type 0 where
  pub within : len ≤ 18
  pub top : Topped ys len
  pub done : j ≤ n
  pub is : up_to ys len ≡ value xs / 5 ^ (n - j)
  pub rest : b ≡ left (value xs) (5 ^ (n - j))

pub fives_first : (xs : List ℕ) (n j len : ℕ) → j ≡ n → Used xs 18 len → Fives xs xs n j len false
fives_first xs n j len e u = record {
  within = u.within;
  top = u.top;
  done = le_of_eq e;
  is = u.is ∙ sym (ap (λ (x : ℕ). value xs / 5 ^ x) (none n j e) ∙ div-one (value xs));
  rest = sym (ap (λ (x : ℕ). left (value xs) (5 ^ x)) (none n j e) ∙ ap (λ (x : ℕ). not (eqb x 0)) (mod-one (value xs)));
}
  where
    none : (n j : ℕ) → j ≡ n → n - j ≡ 0
    none n j e = omega arith

pub fives_next : (xs ys zs : List ℕ) (n j len c f r l : ℕ) (b more : Bool) → Fives xs ys n j len b → c ≤ j → f ≡ 5 ^ c → Divided ys zs len f r → Used zs len l → more ≡ b || not (eqb r 0) → Fives xs zs n (j - c) l more
fives_next xs ys zs n j len c f r l b more g h e d u m = record {
  within = le_trans u.within g.within;
  top = u.top;
  done = less n j c g.done;
  is = u.is ∙ d.is ∙ ap (λ (x : ℕ). x / f) g.is ∙ ap (λ (x : ℕ). value xs / 5 ^ (n - j) / x) e ∙ floor_floor (value xs) (5 ^ (n - j)) (5 ^ c) ∙ ap (λ (x : ℕ). value xs / x) joined;
  rest = m ∙ ap (λ (x : Bool). x || not (eqb r 0)) g.rest
      ∙ ap (λ (x : ℕ). left (value xs) (5 ^ (n - j)) || not (eqb x 0)) (d.rest ∙ ap (λ (x : ℕ). x % f) g.is ∙ ap (λ (x : ℕ). value xs / 5 ^ (n - j) % x) e)
      ∙ sym (left_left (value xs) (5 ^ (n - j)) (5 ^ c) (five_pos (n - j)) (five_pos c)) ∙ ap (left (value xs)) joined;
}
  where
    less : (n j c : ℕ) → j ≤ n → j - c ≤ n
    less n j c h = omega arith

    go : (n j c : ℕ) → j ≤ n → c ≤ j → n - j + c ≡ n - (j - c)
    go n j c h k = omega arith

    joined : 5 ^ (n - j) * 5 ^ c ≡ 5 ^ (n - (j - c))
    joined = join 5 (n - j) c (n - (j - c)) (go n j c g.done h)

pub fives_last : (xs ys : List ℕ) (n j len : ℕ) (b : Bool) → Fives xs ys n j len b → j ≡ 0 → Quotient xs ys n len b
fives_last xs ys n j len b g e = record {
  within = g.within;
  top = g.top;
  is = g.is ∙ ap (λ (x : ℕ). value xs / 5 ^ x) (all n j e);
  rest = g.rest ∙ ap (λ (x : ℕ). left (value xs) (5 ^ x)) (all n j e);
}
  where
    all : (n j : ℕ) → j ≡ 0 → n - j ≡ n
    all n j e = omega arith

pub five_factor : (c m : ℕ) → c ≤ 20 → m ≡ 5 ^ c → (0 < m) × (m ≤ 2 ^ 47)
five_factor c m h e = (subst (λ (x : ℕ). 0 < x) (sym e) (five_pos c), le_trans (le_of_eq e) (le_trans (five_mono c 20 h) (lit≤ tt)))

-- ---- a fraction over a power of ten as one over a power of five: the twos are taken off above and below
pub by_five : (num n c e x t : ℕ) → 0 < t → num * 2 ^ 150 ≡ x * 2 ^ e → 10 ^ n * 2 ^ c ≡ t * 2 ^ e → (x / t ≡ num * 2 ^ 150 / (10 ^ n * 2 ^ c)) × (left x t ≡ left (num * 2 ^ 150) (10 ^ n * 2 ^ c))
by_five num n c e x t T a b = (
  sym (ap (λ (y : ℕ). y / (10 ^ n * 2 ^ c)) a ∙ ap (λ (y : ℕ). x * 2 ^ e / y) b ∙ mul-div-mul_right x t (pow_pos e)),
  sym (ap (λ (y : ℕ). left y (10 ^ n * 2 ^ c)) a ∙ ap (left (x * 2 ^ e)) b ∙ left_scale x t (2 ^ e) T (pow_pos e)),
)

pub twos_off : (n c e : ℕ) → n + c ≡ e → 10 ^ n * 2 ^ c ≡ 5 ^ n * 2 ^ e
twos_off n c e h = ap (λ (x : ℕ). x * 2 ^ c) (ten_five n) ∙ mul_assoc (5 ^ n) (2 ^ n) (2 ^ c) ∙ ap (λ (x : ℕ). 5 ^ n * x) (join 2 n c e h)
