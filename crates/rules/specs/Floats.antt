-- Boosts as floats: sums in 64 bits, one rounding to 32, one 32-bit product. Section 'One round of rewriting'.
-- A boost is its 32 bits, and a running sum the value of a 64-bit float. `to_bits` writes every NaN as the one NaN.
use Rattle.std.specs.Prelude.{ℕ, ◌*◌, Bool, Float}
use Rattle.std.specs.Float.{nan, inf, fin, Format, binary32, binary64}
use Rattle.std.specs.Float.Ieee.{up, down, round, of_bits, to_bits, mul, add, eq}

unfoldable pub one : Float
one = of_bits binary64 0x3ff0_0000_0000_0000

-- the value of the format f that is nearest to x
unfoldable pub rounded : Format → Float → Float
rounded f nan = nan
rounded f (inf s) = inf s
rounded f (fin s m e) = round f s (m * up e) (down e)

-- a boost at 64 bits, and a sum at 32
unfoldable pub widened : ℕ → Float
widened b = of_bits binary32 b

unfoldable pub narrowed : Float → ℕ
narrowed s = to_bits binary32 (rounded binary32 s)

unfoldable pub plus : Float → Float → Float
plus s x = add binary64 s x

unfoldable pub times : ℕ → ℕ → ℕ
times a b = to_bits binary32 (mul binary32 (of_bits binary32 a) (of_bits binary32 b))

unfoldable pub is_one : Float → Bool
is_one s = eq s one
