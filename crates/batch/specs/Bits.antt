-- Bits of a number, a bit for each query: the last one that was pushed stands lowest.
use Rattle.std.specs.Prelude.{ℕ, ◌/◌, ◌%◌, ◌^◌, Bool, eqb}

-- the bit that j others were pushed after
unfoldable pub bit_at : ℕ → ℕ → Bool
bit_at m j = eqb (m / 2 ^ j % 2) 1
