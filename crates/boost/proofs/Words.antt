-- What the proofs of the functions on words and on the whole text cite. Assumes nothing.
use mathlib.Core.Path.{◌≡◌, refl, sym, ap, ◌∙◌, subst}
use mathlib.Core.List.{List, [], ◌∷◌, map}
use mathlib.Core.Bool.{Bool, true, false, not, ◌&&◌, ◌||◌, cond, true≢false}
use Prim.Native.Nat.{ℕ, ◌+◌, ◌≤◌, ◌<◌}
use native.Mathlib.Omega.{arith}
use lib.ListN.{length, get_or}
use lib.Dec.{T, leb, eqb, le→leb, lit<, eqb→eq}
use lib.Arith.{lt→nleb}
use lib.Ieee.Bits.{is_true, is_false}
use Rattle.std.proofs.lemmas.Bool.Decides.{nat_tests}
use Rattle.std.proofs.Common.{Option, Some, None, Result, Err}
use Rattle.std.specs.Char.{to_ascii_lowercase}
use Rattle.std.specs.Option.{ok_or}
use Rattle.names.specs.declared.refusal.Refusal.{Refusal}
use Rattle.names.specs.declared.refusal.Refusal.TheVariants.{BadNumeral, LongNumeral}
use Rattle.rules.specs.Numbers.{faulty, bad_numeral, long_numeral, need}
use Rattle.rules.specs.Bytes.{ascii, same, is_empty}
use Rattle.rules.specs.Analysis.{lower, lowercase, front, after}
use Rattle.rules.specs.Numerals.{bad, infinite, not_number, is_digit, digits_on, is_minus, after_sign, after_digits, after_whole, unsigned, bits_of, numeral_bits}
use Rattle.boost.specs.declared.numeral.Unsigned.{Unsigned}
use Rattle.boost.specs.Numeral.{by_digits, Parsed, Parses}
use Rattle.boost.proofs.Runs.{digit_high}
use Rattle.boost.proofs.Tests.{eq_yes, eq_no}

-- ---- one byte
by_two : (b : ℕ) (x y : Bool) → leb 65 b ≡ x → leb b 90 ≡ y → lower b ≡ cond (x && y) (b + 32) b
by_two b x y p q = ap (λ (z : Bool). cond (z && leb b 90) (b + 32) b) p ∙ ap (λ (z : Bool). cond (x && z) (b + 32) b) q

lower_low : (b : ℕ) → b < 65 → b ≡ lower b
lower_low b h = sym (by_two b false (leb b 90) (is_false (leb 65 b) (lt→nleb 65 b h)) refl)

small : (b : ℕ) → to_ascii_lowercase b ≡ lower b
small b = grind (arith, nat_tests)

-- ---- `is_word`
smalls : (l : List ℕ) → map to_ascii_lowercase l ≡ lowercase l
smalls [] = refl
smalls (b ∷ l) = ap (λ (x : ℕ). x ∷ map to_ascii_lowercase l) (small b) ∙ ap (λ (x : List ℕ). lower b ∷ x) (smalls l)

same_yes : (a b : List ℕ) → same a b ≡ true → a ≡ b
unfolding same
same_yes [] [] e = refl
same_yes [] (y ∷ b) e = absurd (true≢false (sym e))
same_yes (x ∷ a) [] e = absurd (true≢false (sym e))
same_yes (x ∷ a) (y ∷ b) e = ap (λ (z : ℕ). z ∷ a) (eqb→eq x y (subst T (sym (first (eqb x y) (same a b) e)) tt)) ∙ ap (λ (z : List ℕ). y ∷ z) (same_yes a b (second (eqb x y) (same a b) e))
  where
    first : (x y : Bool) → (x && y) ≡ true → x ≡ true
    first true y e = refl
    first false true e = e
    first false false e = e

    second : (x y : Bool) → (x && y) ≡ true → y ≡ true
    second true y e = e
    second false true e = refl
    second false false e = e

same_self : (a : List ℕ) → same a a ≡ true
unfolding same
same_self [] = refl
same_self (x ∷ a) = ap (λ (z : Bool). z && same a a) (eq_yes x x refl) ∙ same_self a

pub word_test : (r : Bool) (s w : List ℕ) → (r ≡ true → map to_ascii_lowercase s ≡ map to_ascii_lowercase w) → (map to_ascii_lowercase s ≡ map to_ascii_lowercase w → r ≡ true) → r ≡ same (lowercase s) (lowercase w)
word_test true s w h k = sym (ap (same (lowercase s)) (sym (sym (smalls s) ∙ h refl ∙ smalls w)) ∙ same_self (lowercase s))
word_test false s w h k = sym (go (same (lowercase s) (lowercase w)) refl)
  where
    go : (b : Bool) → same (lowercase s) (lowercase w) ≡ b → b ≡ false
    go false e = refl
    go true e = sym (k (smalls s ∙ same_yes (lowercase s) (lowercase w) e ∙ sym (smalls w)))

-- ---- the words
abbrev pub w_inf : List ℕ
w_inf = 105 ∷ 110 ∷ 102 ∷ []

abbrev pub w_infinity : List ℕ
w_infinity = 105 ∷ 110 ∷ 102 ∷ 105 ∷ 110 ∷ 105 ∷ 116 ∷ 121 ∷ []

abbrev pub w_nan : List ℕ
w_nan = 110 ∷ 97 ∷ 110 ∷ []

by_words : (s : List ℕ) (x y z : Bool) → same (lowercase s) w_inf ≡ x → same (lowercase s) w_infinity ≡ y → same (lowercase s) w_nan ≡ z → unsigned s ≡ cond (x || y) infinite (cond z not_number (by_digits s))
unfolding unsigned ascii
by_words s x y z p q r =
    ap (λ (b : Bool). cond (b || same (lowercase s) w_infinity) infinite (cond (same (lowercase s) w_nan) not_number (by_digits s))) p
    ∙ ap (λ (b : Bool). cond (x || b) infinite (cond (same (lowercase s) w_nan) not_number (by_digits s))) q
    ∙ ap (λ (b : Bool). cond (x || y) infinite (cond b not_number (by_digits s))) r

-- a text that begins with neither digit nor point is no number
case_bad : (c : ℕ) (s : List ℕ) → 57 < c → by_digits (c ∷ s) ≡ bad
unfolding front after after_whole
case_bad c s h =
    ap (λ (b : Bool). after_whole (not (is_empty (cond b (c ∷ front is_digit s) []))) (digits_on 0 (cond b (c ∷ front is_digit s) [])) (cond b (after is_digit s) (c ∷ s))) (digit_high c h)
    ∙ ap (λ (b : Bool). cond b (cond (not (is_empty (front is_digit s))) (after_digits (digits_on (digits_on 0 []) (front is_digit s)) (length (front is_digit s)) (after is_digit s)) bad) bad) (eq_no c 0x2e (no c h))
  where
    no : (c : ℕ) → 57 < c → c ≡ 0x2e → ⊥
    no c h e = omega arith

no_digit : (s : List ℕ) → 57 < get_or s 0 0 → by_digits s ≡ bad
no_digit [] h = let z : ⊥ = omega arith in absurd z
no_digit (c ∷ s) h = case_bad c s h

-- what the tests say, of which the code makes as many as it needs
module _ (s : List ℕ) (x : Bool) (p : x ≡ same (lowercase s) w_inf) where
  pub word_inf : x ≡ true → unsigned s ≡ infinite
  word_inf e = by_words s true (same (lowercase s) w_infinity) (same (lowercase s) w_nan) (sym p ∙ e) refl refl

  module _ (e : x ≡ false) (y : Bool) (q : y ≡ same (lowercase s) w_infinity) where
    pub word_infinity : y ≡ true → unsigned s ≡ infinite
    word_infinity f = by_words s false true (same (lowercase s) w_nan) (sym p ∙ e) (sym q ∙ f) refl

    module _ (f : y ≡ false) (z : Bool) (r : z ≡ same (lowercase s) w_nan) where
      words : (b : Bool) → z ≡ b → unsigned s ≡ cond b not_number (by_digits s)
      words b g = by_words s false false b (sym p ∙ e) (sym q ∙ f) (sym r ∙ g)

      pub word_nan : z ≡ true → unsigned s ≡ not_number
      word_nan g = words true g

      pub word_none : 57 < get_or s 0 0 → z ≡ false → unsigned s ≡ bad
      word_none h g = words false g ∙ no_digit s h

-- one that begins with a byte to 57, or with none, is no word
same_cons : (a b : ℕ) (l w : List ℕ) (x : Bool) → eqb (lower a) b ≡ x → same (lowercase (a ∷ l)) (b ∷ w) ≡ (x && same (lowercase l) w)
unfolding same
same_cons a b l w x e = ap (λ (y : Bool). y && same (lowercase l) w) e

no_word : (s : List ℕ) (b : ℕ) (w : List ℕ) → get_or s 0 0 ≤ 57 → 57 < b → same (lowercase s) (b ∷ w) ≡ false
unfolding same
no_word [] b w h k = refl
no_word (c ∷ s) b w h k = same_cons c b s w false (eq_no (lower c) b (λ e. no c b (lower_low c (up c h) ∙ e) h k))
  where
    up : (c : ℕ) → c ≤ 57 → c < 65
    up c h = omega arith

    no : (c b : ℕ) → c ≡ b → c ≤ 57 → 57 < b → ⊥
    no c b e h k = omega arith

pub digit_first : (s : List ℕ) → get_or s 0 0 ≤ 57 → unsigned s ≡ by_digits s
digit_first s k =
    by_words s false false false
    (no_word s 105 (110 ∷ 102 ∷ []) k (lit< tt))
    (no_word s 105 (110 ∷ 102 ∷ 105 ∷ 110 ∷ 105 ∷ 116 ∷ 121 ∷ []) k (lit< tt))
    (no_word s 110 (97 ∷ 110 ∷ []) k (lit< tt))

pub none_first : (s : List ℕ) → length s < 1 → get_or s 0 0 ≤ 57
none_first [] h = omega arith
none_first (c ∷ s) h = let z : ⊥ = omega arith in absurd z

-- ---- the whole text
fits : (s : List ℕ) → length s ≤ 40 → numeral_bits s ≡ bits_of (is_minus s) (unsigned (after_sign s))
unfolding numeral_bits
fits s h = ap (λ (b : Bool). need b (faulty long_numeral 0) (bits_of (is_minus s) (unsigned (after_sign s)))) (is_true (leb (length s) 40) (le→leb (length s) 40 h))

pub too_long : (s : List ℕ) → 40 < length s → Parses s (Err LongNumeral)
unfolding numeral_bits
too_long s h = (faulty long_numeral 0, ap (λ (b : Bool). need b (faulty long_numeral 0) (bits_of (is_minus s) (unsigned (after_sign s)))) (is_false (leb (length s) 40) (lt→nleb (length s) 40 h)), refl)

pub parsed : (s l : List ℕ) (o : Option Unsigned) (r : Result Unsigned Refusal) → length s ≤ 40 → l ≡ after_sign s → Parsed o (unsigned l) → r ≡ ok_or o BadNumeral → Parses s r
parsed s l None r h e p q = subst (Parses s) (sym q) (faulty bad_numeral 0, fits s h ∙ ap (bits_of (is_minus s)) (ap unsigned (sym e) ∙ p), refl)
parsed s l (Some u) r h e p q = subst (Parses s) (sym q) (unsigned l, p, fits s h ∙ ap (λ (x : List ℕ). bits_of (is_minus s) (unsigned x)) (sym e))
