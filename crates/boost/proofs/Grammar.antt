-- What the proofs of the functions that walk a numeral's grammar cite: each way that a function returns gives the definition's own case.
-- Assumes nothing.
use mathlib.Core.Path.{◌≡◌, refl, sym, ap, ◌∙◌, subst}
use mathlib.Core.List.{List, [], ◌∷◌, ◌++◌}
use mathlib.Core.Bool.{Bool, true, false, not, ◌||◌, cond, true≢false}
use Prim.Native.Nat.{ℕ, suc, ◌+◌, ◌-◌, ◌≤◌, ◌<◌, min}
use native.Mathlib.Nat.{zero-lt-suc}
use native.Mathlib.Omega.{arith}
use lib.ListN.{length, take, drop, get_or, length-append}
use Rattle.std.proofs.Common.{append-nil}
use lib.Seq.{take_all}
use lib.Dec.{eqb}
use Rattle.std.proofs.lemmas.List.Elements.{All-nil, All-same}
use Rattle.rules.specs.Bytes.{is_empty}
use Rattle.rules.specs.Analysis.{front, after}
use Rattle.rules.specs.Numerals.{Numeral, bad, decimal, is_digit, digits_on, is_minus, after_sign, exponent, after_digits, after_whole}
use Rattle.boost.specs.declared.numeral.Scale.TheVariants.{Times}
use Rattle.boost.specs.Digits.{short_most, number_of, Reading, Held}
use Rattle.boost.specs.Numeral.{by_digits, Fraction, ScaledBy}
use Rattle.boost.proofs.Tests.{eq_yes, eq_no}
use Rattle.boost.proofs.Runs.{digits_none, front_digits, front_after, no_length}

-- ---- lists
tail_is : (n : ℕ) (t : List ℕ) → n ≡ suc (length t) → take (n - 1) t ≡ t
tail_is n t e = take_all (n - 1) t (le n (length t) e)
  where
    le : (n m : ℕ) → n ≡ suc m → m ≤ n - 1
    le n m e = omega arith

some_length : (l : List ℕ) → (length l ≡ 0 → ⊥) → is_empty l ≡ false
some_length [] n = absurd (n refl)
some_length (c ∷ l) n = refl

none_length : (l : List ℕ) → length l ≡ 0 → is_empty l ≡ true
none_length l e = ap is_empty (no_length l e)

front_length : (s : List ℕ) → length (front is_digit s) + length (after is_digit s) ≡ length s
front_length s = sym (length-append (front is_digit s) (after is_digit s)) ∙ ap length (front_after s)

or_true : (b : Bool) → (b || true) ≡ true
or_true true = refl
or_true false = refl

or_false : (b : Bool) → (b || false) ≡ b
or_false true = refl
or_false false = refl

-- ---- the exponent
pub exponent_none : (m : Bool) (d f : ℕ) (s : List ℕ) → length s ≡ 0 → exponent m d f s ≡ bad
unfolding exponent
exponent_none m d f s e = ap (λ (b : Bool). cond (b || not (is_empty (after is_digit s))) bad (cond m (decimal d 0 (f + digits_on 0 s)) (decimal d (digits_on 0 s) f))) (none_length s e)

module _ (s digits rest : List ℕ) (v : ℕ) (g : Reading s 0 digits v rest) (m : Bool) (d f : ℕ) where
  abbrev good : Numeral
  good = cond m (decimal d 0 (f + digits_on 0 s)) (decimal d (digits_on 0 s) f)

  pub exponent_more : (length rest ≡ 0 → ⊥) → exponent m d f s ≡ bad
  unfolding exponent
  exponent_more n = ap (λ (l : List ℕ). cond (is_empty s || not (is_empty l)) bad good) (sym g.rest_is)
      ∙ ap (λ (b : Bool). cond (is_empty s || not b) bad good) (some_length rest n) ∙ ap (λ (b : Bool). cond b bad good) (or_true (is_empty s))

  module _ (some : length s ≡ 0 → ⊥) (ends : length rest ≡ 0) where
    pub exponent_cut : v ≡ min (digits_on 0 s) short_most
    exponent_cut = g.is 0 refl ∙ ap (λ (l : List ℕ). min (digits_on 0 l) short_most)
        (g.digits_are ∙ sym (append-nil (front is_digit s)) ∙ ap (λ (l : List ℕ). front is_digit s ++ l) (sym (sym g.rest_is ∙ no_length rest ends)) ∙ front_after s)

    pub exponent_good : (b : Bool) → m ≡ b → exponent m d f s ≡ cond b (decimal d 0 (f + digits_on 0 s)) (decimal d (digits_on 0 s) f)
    unfolding exponent
    exponent_good b e = ap (λ (b : Bool). cond (b || not (is_empty (after is_digit s))) bad good) (some_length s some)
        ∙ ap (λ (l : List ℕ). cond (not (is_empty l)) bad good) (sym g.rest_is ∙ no_length rest ends)
        ∙ ap (λ (b : Bool). cond b (decimal d 0 (f + digits_on 0 s)) (decimal d (digits_on 0 s) f)) e

-- ---- what follows the digits
pub digits_end : (d f : ℕ) (s : List ℕ) → length s < 1 → ScaledBy (Times 0) d f (after_digits d f s)
unfolding after_digits
digits_end d f [] h = (0, refl, refl)
digits_end d f (c ∷ s) h = let z : ⊥ = omega arith in absurd z

pub digits_e : (d f : ℕ) (s l : List ℕ) (m : Bool) → 1 ≤ length s → ((get_or s 0 0 ≡ 101 → ⊥) → (get_or s 0 0 ≡ 69 → ⊥) → ⊥)
    → m ≡ is_minus (take (length s - 1) (drop 1 s)) → l ≡ after_sign (take (length s - 1) (drop 1 s)) → after_digits d f s ≡ exponent m d f l
unfolding after_digits
digits_e d f [] l m h e p q = let z : ⊥ = omega arith in absurd z
digits_e d f (c ∷ t) l m h e p q =
    ap (λ (b : Bool). cond b (exponent (is_minus t) d f (after_sign t)) bad) (either (eqb c 101) (eqb c 69) refl refl (λ x y. e (no 101 x) (no 69 y)))
    ∙ ap (λ (b : Bool). exponent b d f (after_sign t)) (sym (p ∙ ap is_minus (tail_is (suc (length t)) t refl)))
    ∙ ap (exponent m d f) (sym (q ∙ ap after_sign (tail_is (suc (length t)) t refl)))
  where
    no : (k : ℕ) → eqb c k ≡ false → c ≡ k → ⊥
    no k x y = true≢false (sym (eq_yes c k y) ∙ x)

    either : (x y : Bool) → eqb c 101 ≡ x → eqb c 69 ≡ y → (x ≡ false → y ≡ false → ⊥) → (x || y) ≡ true
    either true y a b n = refl
    either false true a b n = refl
    either false false a b n = absurd (n refl refl)

pub digits_other : (d f : ℕ) (s : List ℕ) → 1 ≤ length s → (get_or s 0 0 ≡ 101 → ⊥) → (get_or s 0 0 ≡ 69 → ⊥) → after_digits d f s ≡ bad
unfolding after_digits
digits_other d f [] h n k = let z : ⊥ = omega arith in absurd z
digits_other d f (c ∷ t) h n k =
    ap (λ (b : Bool). cond (b || eqb c 69) (exponent (is_minus t) d f (after_sign t)) bad) (eq_no c 101 n)
    ∙ ap (λ (b : Bool). cond b (exponent (is_minus t) d f (after_sign t)) bad) (eq_no c 69 k)

-- ---- the digits behind a point
pub fraction_point : (s : List ℕ) (start v : ℕ) (digits rest : List ℕ) → 1 ≤ length s → get_or s 0 0 ≡ 46 → Reading (take (length s - 1) (drop 1 s)) start digits v rest → Fraction s start digits v rest
unfolding after_whole
fraction_point [] start v digits rest h e g = let z : ⊥ = omega arith in absurd z
fraction_point (c ∷ t) start v digits rest h e g = let k : Reading t start digits v rest = subst (λ (l : List ℕ). Reading l start digits v rest) (tail_is (suc (length t)) t refl) g in record {
  is = k.is;
  all_digits = All-same (λ x. is_digit x ≡ true) digits (front is_digit t) k.digits_are (front_digits t);
  few = omega (arith, ap length k.digits_are, front_length t);
  small = k.small;
  means = λ some d.
      ap (λ (b : Bool). cond b (cond (some || not (is_empty (front is_digit t))) (after_digits (digits_on d (front is_digit t)) (length (front is_digit t)) (after is_digit t)) bad) (cond some (after_digits d 0 (c ∷ t)) bad)) (eq_yes c 46 e)
      ∙ ap (λ (l : List ℕ). cond (some || not (is_empty l)) (after_digits (digits_on d l) (length l) (after is_digit t)) bad) (sym k.digits_are)
      ∙ ap (λ (l : List ℕ). cond (some || not (is_empty digits)) (after_digits (digits_on d digits) (length digits) l) bad) (sym k.rest_is);
}

whole_plain : (s : List ℕ) (some : Bool) (d : ℕ) → (1 ≤ length s → get_or s 0 0 ≡ 46 → ⊥) → after_whole some d s ≡ cond some (after_digits d 0 s) bad
unfolding after_whole
whole_plain [] some d n = refl
whole_plain (c ∷ t) some d n = ap (λ (b : Bool). cond b (cond (some || not (is_empty (front is_digit t))) (after_digits (digits_on d (front is_digit t)) (length (front is_digit t)) (after is_digit t)) bad) (cond some (after_digits d 0 (c ∷ t)) bad)) (eq_no c 46 (n (zero-lt-suc (length t))))

pub fraction_none : (s : List ℕ) (start v : ℕ) → (1 ≤ length s → get_or s 0 0 ≡ 46 → ⊥) → v ≡ min start short_most → Fraction s start [] v s
fraction_none s start v n e = record {
  is = λ w f. e ∙ cut start w f ∙ ap (λ (x : ℕ). min x short_most) (sym (digits_none w));
  all_digits = All-nil (λ x. is_digit x ≡ true);
  few = omega arith;
  small = omega (arith, e);
  means = λ some d. whole_plain s some d n ∙ ap (λ (b : Bool). cond b (after_digits d 0 s) bad) (sym (or_false some)) ∙ ap (λ (x : ℕ). cond (some || false) (after_digits x 0 s) bad) (sym (digits_none d));
}
  where
    cut : (v w : ℕ) → v ≡ min w short_most → min v short_most ≡ min w short_most
    cut v w e = omega arith

-- ---- digits, and perhaps a point and further digits
module _ (s whole mid fraction last : List ℕ) (v u : ℕ) (g : Reading s 0 whole v mid) (h : Fraction mid v fraction u last) where
  abbrev decimals : Numeral
  decimals = after_digits (number_of whole fraction) (length fraction) last

  parts : by_digits s ≡ cond (not (is_empty whole) || not (is_empty fraction)) decimals bad
  parts =
      ap (λ (l : List ℕ). after_whole (not (is_empty l)) (digits_on 0 l) (after is_digit s)) (sym g.digits_are)
      ∙ ap (after_whole (not (is_empty whole)) (digits_on 0 whole)) (sym g.rest_is)
      ∙ h.means (not (is_empty whole)) (digits_on 0 whole)

  pub parts_none : length whole ≡ 0 → length fraction ≡ 0 → by_digits s ≡ bad
  parts_none a b = parts ∙ ap (λ (x : Bool). cond (not x || not (is_empty fraction)) decimals bad) (none_length whole a) ∙ ap (λ (x : Bool). cond (not x) decimals bad) (none_length fraction b)

  pub parts_whole : (length whole ≡ 0 → ⊥) → by_digits s ≡ decimals
  parts_whole n = parts ∙ ap (λ (x : Bool). cond (not x || not (is_empty fraction)) decimals bad) (some_length whole n)

  pub parts_fraction : (length fraction ≡ 0 → ⊥) → by_digits s ≡ decimals
  parts_fraction n = parts ∙ ap (λ (x : Bool). cond (not (is_empty whole) || not x) decimals bad) (some_length fraction n) ∙ ap (λ (x : Bool). cond x decimals bad) (or_true (not (is_empty whole)))

  pub parts_held : length s ≤ 40 → Held whole fraction u
  parts_held l = record {
    is = h.is (digits_on 0 whole) (g.is 0 refl);
    whole_digits = All-same (λ x. is_digit x ≡ true) whole (front is_digit s) g.digits_are (front_digits s);
    fraction_digits = h.all_digits;
    few = omega (arith, front_length s, ap length g.digits_are, ap length g.rest_is, h.few);
  }
