-- The answer of `numeral` for what the definition reads: a refusal, or the bits; and what its parts read.
use Rattle.std.specs.Prelude.{◌≡◌, ℕ, ◌+◌, ◌≤◌, min, Bool, not, ◌||◌, cond, List, length, Option, Some, None, Result, Ok, Err}
use Rattle.std.specs.List.{AllPass}
use Rattle.rules.specs.Bytes.{is_empty}
use Rattle.rules.specs.Numbers.{Read, refused}
use Rattle.rules.specs.Numbers as rules
use Rattle.rules.specs.Analysis.{front, after}
use Rattle.rules.specs.Numerals.{Numeral, bad, infinite, not_number, decimal, is_digit, digits_on, is_minus, after_digits, after_whole, bits_of, numeral_bits}
use Rattle.names.specs.Refusals.{answered, coded}
use Rattle.names.specs.declared.refusal.Refusal.{Refusal}
use Rattle.boost.specs.Digits.{short_most, Counted}
use Rattle.boost.specs.Decimal.{number}
use Rattle.boost.specs.declared.numeral.Scale.{Scale}
use Rattle.boost.specs.declared.numeral.Scale.TheVariants.{Times, Over}
use Rattle.boost.specs.declared.numeral.Unsigned.{Unsigned}
use Rattle.boost.specs.declared.numeral.Unsigned.TheVariants.{Infinite, NotNumber, Decimal}

abbrev pub answer_of : Read ℕ → Result ℕ Refusal
answer_of o = answered (λ b. b) o

-- a text that is no word, by its digits
abbrev pub by_digits : List ℕ → Numeral
by_digits s = after_whole (not (is_empty (front is_digit s))) (digits_on 0 (front is_digit s)) (after is_digit s)

-- the digits that stand behind a point, if one stands first in s, and what follows them: `some` says whether digits stand before it
pub record Fraction (s : List ℕ) (start : ℕ) (digits : List ℕ) (v : ℕ) (rest : List ℕ) : Type 0 where
  pub is : Counted digits start v
  pub all_digits : AllPass is_digit digits
  pub few : length digits ≤ length s
  pub small : v ≤ short_most
  pub means : (some : Bool) (d : ℕ) → after_whole some d s ≡ cond (some || not (is_empty digits)) (after_digits (digits_on d digits) (length digits) rest) bad

-- the digits d, of which f stand behind the point, times the power of ten are the numeral o; an exponent is cut off
abbrev pub ScaledBy : Scale → ℕ → ℕ → Numeral → Type 0
ScaledBy (Times x) d f o = (X : ℕ) × (x ≡ min X short_most) × (o ≡ decimal d X f)
ScaledBy (Over x) d f o = (X : ℕ) × (x ≡ min X short_most) × (o ≡ decimal d 0 (f + X))

abbrev pub Scaled : Option Scale → ℕ → ℕ → Numeral → Type 0
Scaled None d f o = o ≡ bad
Scaled (Some x) d f o = ScaledBy x d f o

abbrev pub StandsFor : Unsigned → Numeral → Type 0
StandsFor Infinite o = o ≡ infinite
StandsFor NotNumber o = o ≡ not_number
StandsFor (Decimal d x) o = ScaledBy x (number d) (length d.fraction.now) o

abbrev pub Parsed : Option Unsigned → Numeral → Type 0
Parsed None o = o ≡ bad
Parsed (Some u) o = StandsFor u o

-- the text's refusal, or what it stands for
abbrev pub Parses : List ℕ → Result Unsigned Refusal → Type 0
Parses s (Err e) = (r : rules.Refusal) × (numeral_bits s ≡ refused r) × (e ≡ coded r)
Parses s (Ok u) = (o : Numeral) × StandsFor u o × (numeral_bits s ≡ bits_of (is_minus s) o)
