-- The signed order of 64 bits, as an unsigned one; and what a bound asks, whichever it is.
use Rattle.std.specs.Prelude.{◌≡◌, ℕ, ◌+◌, ◌≤◌, ◌<◌, Bool, true, false}
use Rattle.rules.specs.Query.{Numbers, Bound}
use Rattle.rules.specs.Matching.{at_most, below, over_lower, under_upper}

abbrev pub half : ℕ
half = 0x8000_0000_0000_0000

-- r is x with its top bit turned
abbrev pub Turned : ℕ → ℕ → Type 0
Turned x r = (x < half → r ≡ x + half) × (half ≤ x → r + half ≡ x)

-- in the strict order, or in the other
abbrev pub ordered : Bool → Numbers → ℕ → ℕ → Bool
ordered true n a b = below n a b
ordered false n a b = at_most n a b

-- what the upper bound asks, or the lower one
abbrev pub keeps : Bool → Numbers → Bound → ℕ → Bool
keeps true n l x = under_upper n l x
keeps false n l x = over_lower n l x
