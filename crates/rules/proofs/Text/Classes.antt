-- The class table's rule, by one test over all its entries, and what each flag says. Assumes nothing.
use mathlib.Core.Path.{◌≡◌, refl, sym, ◌∙◌, subst}
use mathlib.Core.Bool.{Bool, true, false, not, ◌&&◌, ◌||◌, and-eq-true_iff}
use mathlib.Core.List.{List, [], ◌∷◌}
use Prim.Native.Nat.{ℕ, zero, suc, ◌+◌, ◌/◌, ◌%◌, ◌≤◌, ◌<◌}
use native.Mathlib.Nat.{add-zero, zero-add, add-suc, suc-add, le_of_suc-le-suc, not-suc-le-zero}
use native.Mathlib.Decide.{dec_lt}
use native.Mathlib.Omega.{arith}
use lib.Dec.{T, leb, ltb, eqb, eqb→eq}
use lib.ListN.{length, get_or, get_or-eq_default}
use borrow.Author.Tests.{lt-leb, ne_eqb, ltb-true}
use Rattle.rules.specs.Bytes.{ascii, some, all}
use Rattle.rules.specs.Words.{WordBreak, other, is, a_letter, numeric, extend_num_let, is_mid_letters, is_mid_numbers, is_alphanumeric, word_break}
use Rattle.rules.specs.Analysis.{between, is_space, ends_term, is_letter, is_digit, flag, class_of, classes}

-- ---- a table's rule at each entry, from a test that computes over all of them

pub both_left : (a b : Bool) → T (a && b) → T a
both_left true b t = tt
both_left false b t = t

pub both_right : (a b : Bool) → T (a && b) → T b
both_right true b t = t
both_right false b t = absurd t

-- f is true of each entry and its place, counted from i
abbrev pub every_from : (ℕ → ℕ → Bool) → ℕ → List ℕ → Bool
every_from f i [] = true
every_from f i (x ∷ xs) = f i x && every_from f (suc i) xs

from : (f : ℕ → ℕ → Bool) (xs : List ℕ) (i : ℕ) → T (every_from f i xs) → (k : ℕ) → k < length xs → T (f (i + k) (get_or xs k 0))
from f [] i t k h = absurd (not-suc-le-zero h)
from f (x ∷ xs) i t zero h = subst (λ (m : ℕ). T (f m x)) (sym (add-zero i)) (both_left (f i x) (every_from f (suc i) xs) t)
from f (x ∷ xs) i t (suc k) h =
    subst (λ (m : ℕ). T (f m (get_or xs k 0))) (suc-add i k ∙ sym (add-suc i k))
    (from f xs (suc i) (both_right (f i x) (every_from f (suc i) xs) t) k (le_of_suc-le-suc h))

pub at_each : (f : ℕ → ℕ → Bool) (xs : List ℕ) → T (every_from f 0 xs) → (k : ℕ) → k < length xs → T (f k (get_or xs k 0))
at_each f xs t k h = subst (λ (m : ℕ). T (f m (get_or xs k 0))) (zero-add k) (from f xs 0 t k h)

-- ---- the class table

right : ℕ → ℕ → Bool
right k x = eqb x (class_of k)

-- all 128 entries
pub entries : length classes ≡ 128
unfolding classes
entries = refl

right_each : T (every_from right 0 classes)
unfolding right classes class_of word_break some ascii
right_each = tt

pub class_within : (c : ℕ) → c < 128 → get_or classes c 0 ≡ class_of c
unfolding right
class_within c h = eqb→eq (get_or classes c 0) (class_of c) (at_each right classes right_each c (rw entries h))

-- ---- beyond the table: bytes from 128 on have no class

above : (a b c : ℕ) → b < c → between a b c ≡ false
above a b c h = rw (lt-leb c b h) (and_false (leb a c))
  where
    and_false : (t : Bool) → t && false ≡ false
    and_false true = refl
    and_false false = refl

none_of : (c : ℕ) (xs : List ℕ) → 128 ≤ c → all (λ x. ltb x 128) xs ≡ true → some (eqb c) xs ≡ false
unfolding some all
none_of c [] h k = refl
none_of c (x ∷ xs) h k =
    let t = (and-eq-true_iff (ltb x 128) (all (λ x. ltb x 128) xs)).0 k in
    let r = none_of c xs h t.1 in
    rw (ne_eqb c x (λ e. omega (arith, ltb-true x 128 t.0)), r)

marks_below : all (λ x. ltb x 128) (ascii "!():^\"~[]{}*?") ≡ true
unfolding all ascii
marks_below = refl

two_below : all (λ x. ltb x 128) (0x2c ∷ 0x3b ∷ []) ≡ true
unfolding all
two_below = refl

module _ (c : ℕ) (h : 128 ≤ c) where
  pub no_space : is_space c ≡ false
  no_space = rw (above 0x09 0x0d c (omega arith), ne_eqb c 0x20 (λ e. omega arith))

  pub no_end : ends_term c ≡ false
  no_end = rw (no_space, none_of c (ascii "!():^\"~[]{}*?") h marks_below)

  pub no_letter : is_letter c ≡ false
  no_letter = rw (above 0x41 0x5a c (omega arith), above 0x61 0x7a c (omega arith))

  pub no_digit : is_digit c ≡ false
  no_digit = above 0x30 0x39 c (omega arith)

  not_one : (x : ℕ) → ltb x 128 ≡ true → some (eqb c) (x ∷ []) ≡ false
  unfolding all
  not_one x k = none_of c (x ∷ []) h (rw k)

  pub no_value : word_break c ≡ other
  unfolding word_break ascii
  no_value =
      rw (
        ne_eqb c 0x0d (λ e. omega arith),
        ne_eqb c 0x0a (λ e. omega arith),
        above 0x0b 0x0c c (omega arith),
        ne_eqb c 0x20 (λ e. omega arith),
        no_letter,
        no_digit,
        not_one 0x5f refl,
        not_one 0x3a refl,
        none_of c (0x2c ∷ 0x3b ∷ []) h two_below,
        not_one 0x2e refl,
        not_one 0x27 refl,
      )

  pub class_beyond : class_of c ≡ 0
  unfolding class_of
  class_beyond = rw (no_end, no_space, no_letter, no_digit, no_value)

-- the table's entry is the byte's class, also past its end
pub class_at : (c : ℕ) → get_or classes c 0 ≡ class_of c
class_at c = pass (dec_lt c 128)
  where
    pass : Dec (c < 128) → get_or classes c 0 ≡ class_of c
    pass (yes h) = class_within c h
    pass (no n) = get_or-eq_default classes 0 (rw entries (omega arith)) ∙ sym (class_beyond c (omega arith))

-- ---- what each flag says

-- what holds of seven flags, by one test over all their values
abbrev every_flag : (Bool → Bool) → Bool
every_flag P = P true && P false

of_flag : (P : Bool → Bool) → T (every_flag P) → (b : Bool) → T (P b)
of_flag P t true = both_left (P true) (P false) t
of_flag P t false = both_right (P true) (P false) t

module _ (P : Bool → Bool → Bool → Bool → Bool → Bool → Bool → Bool) where
  abbrev every_three : Bool → Bool → Bool → Bool → Bool
  every_three s e m n = every_flag (λ u. every_flag (λ d. every_flag (λ l. P s e m n u d l)))

  abbrev every_seven : Bool
  every_seven = every_flag (λ s. every_flag (λ e. every_flag (λ m. every_flag (λ n. every_three s e m n))))

  of_three : (s e m n u d l : Bool) → T (every_three s e m n) → T (P s e m n u d l)
  of_three s e m n u d l t =
      of_flag (λ l. P s e m n u d l) (of_flag (λ d. every_flag (λ l. P s e m n u d l)) (of_flag (λ u. every_flag (λ d. every_flag (λ l. P s e m n u d l))) t u) d) l

  of_seven : (s e m n u d l : Bool) → T every_seven → T (P s e m n u d l)
  of_seven s e m n u d l t =
      of_three s e m n u d l
      (of_flag (λ n. every_three s e m n)
      (of_flag (λ m. every_flag (λ n. every_three s e m n))
      (of_flag (λ e. every_flag (λ m. every_flag (λ n. every_three s e m n)))
      (of_flag (λ s. every_flag (λ e. every_flag (λ m. every_flag (λ n. every_three s e m n)))) t s) e) m) n)

abbrev pub same_flag : Bool → Bool → Bool
same_flag true b = b
same_flag false true = false
same_flag false false = true

pub same_flag_lem : (a b : Bool) → T (same_flag a b) → a ≡ b
same_flag_lem true true t = refl
same_flag_lem true false t = absurd t
same_flag_lem false true t = absurd t
same_flag_lem false false t = refl

abbrev sum : Bool → Bool → Bool → Bool → Bool → Bool → Bool → ℕ
sum s e m n u d l = flag s 1 + flag e 2 + flag m 4 + flag n 8 + flag u 16 + flag d 32 + flag l 64

-- a byte of a word: a letter, a digit or `_`
abbrev pub is_plain : ℕ → Bool
is_plain c = is_alphanumeric c || is (word_break c) extend_num_let

module _ (c : ℕ) where
  -- what f tells from the sum of seven flags it tells from a byte's class
  flag_law : (f : ℕ → Bool) (g : Bool → Bool → Bool → Bool → Bool → Bool → Bool → Bool) →
      T (every_seven (λ s e m n u d l. same_flag (f (sum s e m n u d l)) (g s e m n u d l))) →
      f (class_of c) ≡ g (is_space c) (ends_term c) (is_mid_letters (word_break c)) (is_mid_numbers (word_break c)) (is (word_break c) extend_num_let) (is_digit c) (is_letter c)
  unfolding class_of
  flag_law f g t =
      same_flag_lem _ _
      (of_seven (λ s e m n u d l. same_flag (f (sum s e m n u d l)) (g s e m n u d l))
      (is_space c) (ends_term c) (is_mid_letters (word_break c)) (is_mid_numbers (word_break c)) (is (word_break c) extend_num_let) (is_digit c) (is_letter c) t)

  pub space_flag : eqb (class_of c % 2) 1 ≡ is_space c
  space_flag = flag_law (λ x. eqb (x % 2) 1) (λ s e m n u d l. s) tt

  pub end_flag : eqb (class_of c / 2 % 2) 1 ≡ ends_term c
  end_flag = flag_law (λ x. eqb (x / 2 % 2) 1) (λ s e m n u d l. e) tt

  pub letters_flag : eqb (class_of c / 4 % 2) 1 ≡ is_mid_letters (word_break c)
  letters_flag = flag_law (λ x. eqb (x / 4 % 2) 1) (λ s e m n u d l. m) tt

  pub numbers_flag : eqb (class_of c / 8 % 2) 1 ≡ is_mid_numbers (word_break c)
  numbers_flag = flag_law (λ x. eqb (x / 8 % 2) 1) (λ s e m n u d l. n) tt

  pub joins_flag : eqb (class_of c / 4 % 4) 0 ≡ not (is_mid_letters (word_break c) || is_mid_numbers (word_break c))
  joins_flag = flag_law (λ x. eqb (x / 4 % 4) 0) (λ s e m n u d l. not (m || n)) tt

  -- the higher ones are told by comparison
  pub plain_flag : leb 16 (class_of c) ≡ is_plain c
  plain_flag = flag_law (λ x. leb 16 x) (λ s e m n u d l. (l || d) || u) tt

  pub alphanumeric_flag : leb 32 (class_of c) ≡ is_alphanumeric c
  alphanumeric_flag = flag_law (λ x. leb 32 x) (λ s e m n u d l. l || d) tt

  pub letter_flag : leb 64 (class_of c) ≡ is_letter c
  letter_flag = flag_law (λ x. leb 64 x) (λ s e m n u d l. l) tt

-- ---- the value of a letter and of a digit

-- what has the value v is what P is true of, by one test over ASCII, and P is true of nothing beyond
module _ (v : WordBreak) (P : ℕ → Bool) (n : is other v ≡ false) (none : (c : ℕ) → 128 ≤ c → P c ≡ false)
    (t : T (every_from (λ k x. same_flag (is (word_break k) v) (P k)) 0 classes)) (c : ℕ) where
  pub value_law : is (word_break c) v ≡ P c
  value_law = pass (dec_lt c 128)
    where
      pass : Dec (c < 128) → is (word_break c) v ≡ P c
      pass (yes h) = same_flag_lem _ _ (at_each (λ k x. same_flag (is (word_break k) v) (P k)) classes t c (rw entries h))
      pass (no m) = let h : 128 ≤ c = omega arith in rw (no_value c h, none c h) n

pub letter_value : (c : ℕ) → is (word_break c) a_letter ≡ is_letter c
unfolding classes word_break some ascii
letter_value c = value_law a_letter is_letter refl no_letter tt c

pub digit_value : (c : ℕ) → is (word_break c) numeric ≡ is_digit c
unfolding classes word_break some ascii
digit_value c = value_law numeric is_digit refl no_digit tt c
