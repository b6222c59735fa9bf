-- What an entry has: its kind, its field, and its text and position or the bits of its number.
use Rattle.std.specs.Prelude.{ℕ, List, [], Bool, true, false}
use Rattle.rules.specs.Query.{Numbers, whole, float}
use Rattle.rules.specs.Lists.{Entry, place, value}
use Rattle.rules.specs.Matching.{same_numbers}

-- the kind of numbers by the flag that code has for it
abbrev pub numbers : Bool → Numbers
numbers true = float
numbers false = whole

abbrev pub is_place : Entry → Bool
is_place (place f y t) = true
is_place (value n f x) = false

abbrev pub is_of : Numbers → Entry → Bool
is_of n (place f y t) = false
is_of n (value k f x) = same_numbers n k

abbrev pub field_of : Entry → List ℕ
field_of (place f y t) = f
field_of (value n f x) = f

abbrev pub text_of : Entry → List ℕ
text_of (place f y t) = t
text_of (value n f x) = []

abbrev pub position_of : Entry → ℕ
position_of (place f y t) = y
position_of (value n f x) = 0

abbrev pub bits_of : Entry → ℕ
bits_of (place f y t) = 0
bits_of (value n f x) = x
