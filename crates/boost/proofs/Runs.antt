-- What the proofs of the functions that read digits cite: the digits that a text begins with, their number, and the loops' turns.
-- Assumes nothing.
use mathlib.Core.Path.{◌≡◌, refl, sym, ap, ◌∙◌, subst}
use mathlib.Core.Logic.{inl, inr}
use mathlib.Core.List.{List, [], ◌∷◌, ◌++◌}
use mathlib.Core.Bool.{Bool, true, false, ◌&&◌, cond}
use Prim.Native.Nat.{ℕ, suc, ◌+◌, ◌-◌, ◌*◌, ◌^◌, ◌≤◌, ◌<◌, min}
use native.Mathlib.Nat.{le_trans, le_of_eq, lt_of_lt_of_le, lt_of_le_of_lt, add-zero, add-mul, suc-mul, mul-one, mul_comm, mul_assoc, mul-le-mul_right, eq_of_mul-eq-mul_right, pow-suc, zero-lt-suc}
use native.Mathlib.Numerals.{add-one}
use native.Mathlib.Omega.{arith}
use lib.ListN.{length, take, drop, get_or, take-append-drop, length-append}
use lib.Seq.{take_all}
use lib.Dec.{T, leb, le→leb, leb→le, lit≤}
use lib.Arith.{lt→nleb}
use lib.Pow.{pow-add, pow_pos}
use lib.Ieee.Bits.{is_true, is_false}
use Rattle.std.specs.List.{AllPass}
use Rattle.std.proofs.lemmas.List.{take_more}
use Rattle.std.proofs.lemmas.List.Elements.{All-nil, All-cons, All-head, All-tail, All-drop, All-same, All-get_or}
use Rattle.rules.specs.Analysis.{front, after}
use Rattle.rules.specs.Numerals.{is_digit, digits_on}
use Rattle.rules.proofs.Numerals.Order.{tri}
use Rattle.boost.specs.Row.{value, limit, Scaled}
use Rattle.boost.specs.Digits.{short_most, forty, Reading, Holds, Filled}
use Rattle.boost.proofs.Rows.{B}
use Rattle.boost.proofs.Tops.{base_power}
use Rattle.boost.proofs.Tens.{ten_mono}
use Rattle.boost.proofs.Rooms.{room_digits}

-- ---- one byte
pub digit_yes : (b : ℕ) → 48 ≤ b → b ≤ 57 → is_digit b ≡ true
digit_yes b h k = ap (λ (x : Bool). x && leb b 57) (is_true (leb 48 b) (le→leb 48 b h)) ∙ is_true (leb b 57) (le→leb b 57 k)

digit_low : (b : ℕ) → b < 48 → is_digit b ≡ false
digit_low b h = ap (λ (x : Bool). x && leb b 57) (is_false (leb 48 b) (lt→nleb 48 b h))

pub digit_high : (b : ℕ) → 57 < b → is_digit b ≡ false
digit_high b h = ap (λ (x : Bool). x && leb b 57) (is_true (leb 48 b) (le→leb 48 b (go b h))) ∙ is_false (leb b 57) (lt→nleb b 57 h)
  where
    go : (b : ℕ) → 57 < b → 48 ≤ b
    go b h = omega arith

digit_not : (b : ℕ) → (48 ≤ b → b ≤ 57 → ⊥) → is_digit b ≡ false
digit_not b n = elim (tri b 48) [
  | inl l ↦ digit_low b l
  | inr (inl e) ↦ digit_high b (above b n (omega arith))
  | inr (inr l) ↦ digit_high b (above b n (omega arith))
]
  where
    above : (b : ℕ) → (48 ≤ b → b ≤ 57 → ⊥) → 48 ≤ b → 57 < b
    above b n h = elim (tri 57 b) [ inl l ↦ l | inr (inl e) ↦ absurd (n h (omega arith)) | inr (inr l) ↦ absurd (n h (omega arith)) ]

-- what a digit is, to the code
pub digit_within : (b : ℕ) → is_digit b ≡ true → (48 ≤ b) × (b ≤ 57)
digit_within b e = (leb→le 48 b (subst T (sym (first (leb 48 b) (leb b 57) e)) tt), leb→le b 57 (subst T (sym (second (leb 48 b) (leb b 57) e)) tt))
  where
    first : (x y : Bool) → (x && y) ≡ true → x ≡ true
    first true y e = refl
    first false true e = e
    first false false e = e

    second : (x y : Bool) → (x && y) ≡ true → y ≡ true
    second true y e = e
    second false true e = refl
    second false false e = e

-- ---- a run that begins with a byte
front_cons : (b : ℕ) (l : List ℕ) (x : Bool) → is_digit b ≡ x → front is_digit (b ∷ l) ≡ cond x (b ∷ front is_digit l) []
unfolding front
front_cons b l x e = ap (λ (y : Bool). cond y (b ∷ front is_digit l) []) e

after_cons : (b : ℕ) (l : List ℕ) (x : Bool) → is_digit b ≡ x → after is_digit (b ∷ l) ≡ cond x (after is_digit l) (b ∷ l)
unfolding after
after_cons b l x e = ap (λ (y : Bool). cond y (after is_digit l) (b ∷ l)) e

digits_cons : (w b : ℕ) (l : List ℕ) → digits_on w (b ∷ l) ≡ digits_on (w * 10 + (b - 48)) l
unfolding digits_on
digits_cons w b l = refl

pub digits_none : (w : ℕ) → digits_on w [] ≡ w
unfolding digits_on
digits_none w = refl

pub digits_append : (w : ℕ) (a b : List ℕ) → digits_on w (a ++ b) ≡ digits_on (digits_on w a) b
unfolding digits_on
digits_append w [] b = refl
digits_append w (c ∷ a) b = digits_append (w * 10 + (c - 48)) a b

-- what stands before the digits is moved up
digits_shift : (n v : ℕ) (l : List ℕ) → digits_on (n + v) l ≡ n * 10 ^ length l + digits_on v l
digits_shift n v [] = digits_none (n + v) ∙ ap (λ (x : ℕ). x + v) (sym (mul-one n)) ∙ ap (λ (x : ℕ). n * 1 + x) (sym (digits_none v))
digits_shift n v (b ∷ l) =
    digits_cons (n + v) b l
    ∙ ap (λ (x : ℕ). digits_on x l) (sum n v (b - 48))
    ∙ digits_shift (n * 10) (v * 10 + (b - 48)) l
    ∙ ap (λ (x : ℕ). x + digits_on (v * 10 + (b - 48)) l) (mul_assoc n 10 (10 ^ length l) ∙ ap (λ (x : ℕ). n * x) (mul_comm 10 (10 ^ length l) ∙ sym (pow-suc 10 (length l))))
    ∙ ap (λ (x : ℕ). n * 10 ^ suc (length l) + x) (sym (digits_cons v b l))
  where
    sum : (n v x : ℕ) → (n + v) * 10 + x ≡ n * 10 + (v * 10 + x)
    sum n v x = omega arith

-- ---- the digits that a text begins with
pub front_digits : (s : List ℕ) → AllPass is_digit (front is_digit s)
unfolding front
front_digits [] = All-nil (λ x. is_digit x ≡ true)
front_digits (b ∷ s) = by (is_digit b) refl (front_digits s)
  where
    by : (x : Bool) → is_digit b ≡ x → AllPass is_digit (front is_digit s) → AllPass is_digit (cond x (b ∷ front is_digit s) [])
    by true e more = All-cons (λ x. is_digit x ≡ true) b (front is_digit s) e more
    by false e more = All-nil (λ x. is_digit x ≡ true)

pub front_after : (s : List ℕ) → front is_digit s ++ after is_digit s ≡ s
unfolding front after
front_after [] = refl
front_after (b ∷ s) = by (is_digit b) (front_after s)
  where
    by : (x : Bool) → front is_digit s ++ after is_digit s ≡ s → cond x (b ∷ front is_digit s) [] ++ cond x (after is_digit s) (b ∷ s) ≡ b ∷ s
    by true more = ap (λ (l : List ℕ). b ∷ l) more
    by false more = refl

-- no digit stands first
pub record Stop (s : List ℕ) : Type 0 where
  pub none : front is_digit s ≡ []
  pub all : after is_digit s ≡ s

pub stop : (s : List ℕ) → (1 ≤ length s → 48 ≤ get_or s 0 0 → get_or s 0 0 ≤ 57 → ⊥) → Stop s
unfolding front after
stop [] n = record { none = refl; all = refl }
stop (b ∷ s) n = let e = digit_not b (n (zero-lt-suc (length s))) in record { none = front_cons b s false e; all = after_cons b s false e }

-- ---- a bound for the number of a run, after a w of at most k digits
next_small : (v d i : ℕ) → v < 10 ^ i → d < 10 → v * 10 + d < 10 ^ (i + 1)
next_small v d i h k = subst (λ (x : ℕ). v * 10 + d < 10 ^ x) (sym (add-one i)) (subst (λ (x : ℕ). v * 10 + d < x) (sym (pow-suc 10 i)) (go v d (10 ^ i) h k))
  where
    go : (v d w : ℕ) → v < w → d < 10 → v * 10 + d < w * 10
    go v d w h k = omega arith

digit_few : (b : ℕ) → is_digit b ≡ true → b - 48 < 10
digit_few b e = let w = digit_within b e in omega arith

pub run_few : (w k : ℕ) (l : List ℕ) → AllPass is_digit l → w < 10 ^ k → digits_on w l < 10 ^ (k + length l)
run_few w k [] a h = subst (λ (x : ℕ). x < 10 ^ (k + 0)) (sym (digits_none w)) (subst (λ (x : ℕ). w < 10 ^ x) (sym (add-zero k)) h)
run_few w k (b ∷ l) a h =
    subst (λ (x : ℕ). x < 10 ^ (k + suc (length l))) (sym (digits_cons w b l))
    (subst (λ (x : ℕ). digits_on (w * 10 + (b - 48)) l < 10 ^ x) (one k (length l))
    (run_few (w * 10 + (b - 48)) (k + 1) l (All-tail (λ x. is_digit x ≡ true) b l a) (next_small w (b - 48) k h (digit_few b (All-head (λ x. is_digit x ≡ true) b l a)))))
  where
    one : (k n : ℕ) → k + 1 + n ≡ k + suc n
    one k n = omega arith

-- ---- `read`
pub record Counting (s : List ℕ) (start v : ℕ) (rest : List ℕ) : Type 0 where
  pub after_is : after is_digit s ≡ after is_digit rest
  pub is : (w : ℕ) → start ≡ min w short_most → (u : ℕ) × (digits_on w (front is_digit s) ≡ digits_on u (front is_digit rest)) × (min v short_most ≡ min u short_most)

cut : (v w : ℕ) → v ≡ min w short_most → min v short_most ≡ min w short_most
cut v w e = omega arith

pub count_first : (s : List ℕ) (start : ℕ) → Counting s start start s
count_first s start = record { after_is = refl; is = λ w e. (w, refl, cut start w e) }

pub count_next : (s rest : List ℕ) (start v r n : ℕ) → Counting s start v rest → 1 ≤ length rest → 48 ≤ get_or rest 0 0 → get_or rest 0 0 ≤ 57 → (v < short_most → r ≡ v * 10 + (get_or rest 0 0 - 48)) → (short_most ≤ v → r ≡ v) → n ≡ length rest → Counting s start r (take (n - 1) (drop 1 rest))
count_next s [] start v r n g l h k low high e = let z : ⊥ = omega arith in absurd z
count_next s (b ∷ t) start v r n g l h k low high e = subst (Counting s start r) (sym (take_all (n - 1) t (le n (length t) e))) (record {
  after_is = g.after_is ∙ after_cons b t true (digit_yes b h k);
  is = λ w f. ((g.is w f).0 * 10 + (b - 48), (g.is w f).1 ∙ ap (digits_on (g.is w f).0) (front_cons b t true (digit_yes b h k)) ∙ digits_cons (g.is w f).0 b (front is_digit t), go (g.is w f).0 v (b - 48) r (g.is w f).2 low high);
})
  where
    le : (n m : ℕ) → n ≡ suc m → m ≤ n - 1
    le n m e = omega arith

    go : (u v d r : ℕ) → min v short_most ≡ min u short_most → (v < short_most → r ≡ v * 10 + d) → (short_most ≤ v → r ≡ v) → min r short_most ≡ min (u * 10 + d) short_most
    go u v d r f low high = elim (tri v short_most) [
      | inl l ↦ let z : r ≡ v * 10 + d = low l in omega arith
      | inr (inl l) ↦ let z : r ≡ v = high (le_of_eq (sym l)) in omega arith
      | inr (inr l) ↦ let z : r ≡ v = high (omega arith) in omega arith
    ]

module _ (s rest : List ℕ) (start v : ℕ) (g : Counting s start v rest) (z : Stop rest) where
  split : front is_digit s ++ rest ≡ s
  split = ap (λ (l : List ℕ). front is_digit s ++ l) (sym (g.after_is ∙ z.all)) ∙ front_after s

  lengths : length (front is_digit s) + length rest ≡ length s
  lengths = sym (length-append (front is_digit s) rest) ∙ ap length split

  pub counted_within : length rest ≤ length s
  counted_within = omega (arith, lengths)

  pub counted : (r : ℕ) → r ≡ min v short_most → Reading s start (take (length s - length rest) s) r rest
  counted r f = record {
    is = λ w e. f ∙ (g.is w e).2 ∙ ap (λ (x : ℕ). min x short_most) (sym ((g.is w e).1 ∙ ap (digits_on (g.is w e).0) z.none ∙ digits_none (g.is w e).0) ∙ ap (digits_on w) (sym digits_are));
    digits_are = digits_are;
    rest_is = sym (g.after_is ∙ z.all);
    small = omega (arith, f);
  }
    where
      digits_are : take (length s - length rest) s ≡ front is_digit s
      digits_are = ap (λ (n : ℕ). take n s) (less (length (front is_digit s)) (length rest) (length s) lengths) ∙ ap (take (length (front is_digit s))) (sym split) ∙ take_front (front is_digit s) rest
        where
          less : (a b n : ℕ) → a + b ≡ n → n - b ≡ a
          less a b n e = omega arith

          take_front : (a b : List ℕ) → take (length a) (a ++ b) ≡ a
          take_front [] b = refl
          take_front (c ∷ a) b = ap (λ (l : List ℕ). c ∷ l) (take_front a b)

-- ---- `number_of`
pub number_next : (l : List ℕ) (i v : ℕ) → AllPass is_digit l → i < length l → v ≡ digits_on 0 (take i l) → v < 10 ^ i
    → (v * 10 + (get_or l i 0 - 48) ≡ digits_on 0 (take (i + 1) l)) × (v * 10 + (get_or l i 0 - 48) < 10 ^ (i + 1))
number_next l i v a h e k = (
  ap (λ (x : ℕ). x * 10 + (get_or l i 0 - 48)) e
      ∙ sym (ap (digits_on 0) (take_more l i 0 h) ∙ digits_append 0 (take i l) (get_or l i 0 ∷ []) ∙ digits_cons (digits_on 0 (take i l)) (get_or l i 0) [] ∙ digits_none _),
  next_small v (get_or l i 0 - 48) i k (digit_few (get_or l i 0) (All-get_or (λ x. is_digit x ≡ true) l i 0 h a)),
)

-- ---- `fill`
pub record Filling (digits : List ℕ) (from : ℕ) (xs ys rest : List ℕ) : Type 0 where
  pub holds : Holds ys from (40 - length rest)
  pub all_digits : AllPass is_digit rest
  pub few : length rest ≤ 40
  pub is : (v : ℕ) → value xs ≡ v * B ^ from → digits_on v digits ≡ digits_on holds.number rest

base_pos : (n : ℕ) → 0 < B ^ n
base_pos n = subst (λ (x : ℕ). 0 < x) (sym (base_power n)) (pow_pos (16 * n))

pub fill_first : (digits : List ℕ) (from : ℕ) (xs : List ℕ) → AllPass is_digit digits → length digits ≤ 40 → Holds xs from (40 - length digits) → Filling digits from xs xs digits
fill_first digits from xs a h g = record {
  holds = g;
  all_digits = a;
  few = h;
  is = λ v e. ap (λ (x : ℕ). digits_on x digits) (eq_of_mul-eq-mul_right (B ^ from) (base_pos from) v g.number (sym e ∙ g.is));
}

in_forty : {n : ℕ} → n < 10 ^ 40 → n < forty
unfolding forty
in_forty h = h

-- some digits, and what follows them
pub record Parts (rest : List ℕ) (k : ℕ) (some others : List ℕ) : Type 0 where
  pub front : some ≡ take k rest
  pub back : others ≡ drop k rest
  pub front_len : length some ≡ k
  pub back_len : length others + k ≡ length rest

module _ (digits : List ℕ) (from : ℕ) (xs ys rest : List ℕ) (g : Filling digits from xs ys rest) (k : ℕ) (some others : List ℕ) (q : Parts rest k some others)
    (p v : ℕ) (e : p ≡ 10 ^ length some) (f : v ≡ digits_on 0 some) (h : v < 10 ^ length some) where
  abbrev U : ℕ
  U = g.holds.number * p + v

  taken_is : value ys * p + v * B ^ from ≡ U * B ^ from
  taken_is = ap (λ (x : ℕ). x * p + v * B ^ from) g.holds.is ∙ sum g.holds.number p v (B ^ from)
    where
      sum : (u p v w : ℕ) → u * w * p + v * w ≡ (u * p + v) * w
      sum u p v w = let a : (u * p + v) * w ≡ u * p * w + v * w = add-mul (u * p) v w in let b : u * w * p ≡ u * p * w = mul_assoc u w p ∙ ap (λ (x : ℕ). u * x) (mul_comm w p) ∙ sym (mul_assoc u p w) in omega arith

  taken_few : U < 10 ^ (40 - length others)
  taken_few = lt_of_lt_of_le (more g.holds.number p v (lt_of_lt_of_le h (le_of_eq (sym e)))) (le_trans (mul-le-mul_right p g.holds.small) (le_of_eq all))
    where
      more : (u p v : ℕ) → v < p → u * p + v < suc u * p
      more u p v h = let a : suc u * p ≡ u * p + p = suc-mul u p in omega arith

      all : 10 ^ (40 - length rest) * p ≡ 10 ^ (40 - length others)
      all = ap (λ (x : ℕ). 10 ^ (40 - length rest) * x) e ∙ sym (pow-add 10 (40 - length rest) (length some)) ∙ ap (λ (x : ℕ). 10 ^ x) (omega (arith, q.front_len, q.back_len, g.few))

  pub fill_room : from ≤ 9 → value ys * p + v * B ^ from < limit
  fill_room l = lt_of_le_of_lt (le_of_eq taken_is) (room_digits U from (in_forty (lt_of_lt_of_le taken_few (ten_mono (40 - length others) 40 (omega arith)))) l)

  pub fill_next : (zs : List ℕ) → Scaled ys zs from p v → Filling digits from xs zs others
  fill_next zs z = record {
    holds = record { none = z.none; number = U; is = z.is ∙ taken_is; small = taken_few };
    all_digits = All-same (λ x. is_digit x ≡ true) others (drop k rest) q.back (All-drop (λ x. is_digit x ≡ true) k rest g.all_digits);
    few = omega (arith, q.back_len, g.few);
    is = λ w d. g.is w d ∙ ap (digits_on g.holds.number) (sym (take-append-drop k rest) ∙ ap (λ (l : List ℕ). l ++ drop k rest) (sym q.front) ∙ ap (λ (l : List ℕ). some ++ l) (sym q.back))
        ∙ digits_append g.holds.number some others ∙ ap (λ (x : ℕ). digits_on x others) number_is;
  }
    where
      number_is : digits_on g.holds.number some ≡ U
      number_is = ap (λ (x : ℕ). digits_on x some) (sym (add-zero g.holds.number)) ∙ digits_shift g.holds.number 0 some ∙ ap (λ (x : ℕ). g.holds.number * x + digits_on 0 some) (sym e) ∙ ap (λ (x : ℕ). g.holds.number * p + x) (sym f)

pub no_length : (l : List ℕ) → length l ≡ 0 → l ≡ []
no_length [] h = refl
no_length (c ∷ l) h = absurd (no (length l) h)
  where
    no : (n : ℕ) → suc n ≡ 0 → ⊥
    no n e = omega arith

pub filled : (digits : List ℕ) (from : ℕ) (xs ys rest : List ℕ) → Filling digits from xs ys rest → length rest ≡ 0 → Filled digits from xs ys
filled digits from xs ys rest g e = let z = no_length rest e in record {
  none = g.holds.none;
  is = λ v e. g.holds.is ∙ ap (λ (x : ℕ). x * B ^ from) (sym (g.is v e ∙ ap (digits_on g.holds.number) z ∙ digits_none g.holds.number));
}

pub number_fits : (v i : ℕ) → v < 10 ^ i → i < 14 → v < 10 ^ 14
number_fits v i h k = lt_of_lt_of_le h (ten_mono i 14 (omega arith))

pub fill_small : (k p v : ℕ) → k ≤ 14 → p ≡ 10 ^ k → v < 10 ^ k → (p ≤ 2 ^ 47) × (v < p)
fill_small k p v h e f = (le_trans (le_of_eq e) (le_trans (ten_mono k 14 h) (lit≤ tt)), lt_of_lt_of_le f (le_of_eq (sym e)))
