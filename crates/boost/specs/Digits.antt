-- Digits read from a numeral: their number, as far as a short one goes or whole in a row.
use Rattle.std.specs.Prelude.{◌≡◌, List, ℕ, ◌+◌, ◌*◌, ◌^◌, ◌<◌, ◌≤◌, min, length}
use Rattle.std.specs.List.{AllPass}
use Rattle.rules.specs.Analysis.{front, after}
use Rattle.rules.specs.Numerals.{is_digit, digits_on}
use Rattle.boost.specs.Row.{value, up_to}

-- a short number: this one stands for itself and for all above
abbrev pub short_most : ℕ
short_most = 0x100_0000_0000_0000

-- below this a number is a 32-bit float exactly
abbrev pub quick_most : ℕ
quick_most = 0x100_0000

-- v is the number of the digits, read after the number `start`, cut off
abbrev pub Counted : List ℕ → ℕ → ℕ → Type 0
Counted digits start v = (w : ℕ) → start ≡ min w short_most → v ≡ min (digits_on w digits) short_most

-- s is the digits that it begins with, and the rest
pub record Reading (s : List ℕ) (start : ℕ) (digits : List ℕ) (v : ℕ) (rest : List ℕ) : Type 0 where
  pub is : Counted digits start v
  pub digits_are : digits ≡ front is_digit s
  pub rest_is : rest ≡ after is_digit s
  pub small : v ≤ short_most

-- the number of a numeral's digits: those before its point, and those behind it
abbrev pub number_of : List ℕ → List ℕ → ℕ
number_of whole fraction = digits_on (digits_on 0 whole) fraction

-- what the code holds of them: v is their number cut off
pub record Held (whole fraction : List ℕ) (v : ℕ) : Type 0 where
  pub is : v ≡ min (number_of whole fraction) short_most
  pub whole_digits : AllPass is_digit whole
  pub fraction_digits : AllPass is_digit fraction
  pub few : length whole + length fraction ≤ 40

-- the row holds a number of at most k digits, in the words from `from` on
pub record Holds (xs : List ℕ) (from k : ℕ) : Type 0 where
  pub none : up_to xs from ≡ 0
  pub number : ℕ
  pub is : value xs ≡ number * 0x1_0000 ^ from
  pub small : number < 10 ^ k

-- the digits into these words, after the number that is there
pub record Filled (digits : List ℕ) (from : ℕ) (xs ys : List ℕ) : Type 0 where
  pub none : up_to ys from ≡ 0
  pub is : (v : ℕ) → value xs ≡ v * 0x1_0000 ^ from → value ys ≡ digits_on v digits * 0x1_0000 ^ from

-- forty digits make a number below this
unfoldable pub forty : ℕ
forty = 10 ^ 40

-- the number n, in the words from `from` on
pub record NumberRow (n from : ℕ) (xs : List ℕ) : Type 0 where
  pub none : up_to xs from ≡ 0
  pub is : value xs ≡ n * 0x1_0000 ^ from
  pub small : n < forty
