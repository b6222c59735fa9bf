-- `vectors::line::is_hex`: the bytes passed are those of the digits.
use Rattle.std.proofs.Common.{◌≡◌, ◌+◌, ◌<◌, length, ℕ}
use Rattle.vectors.specs.Line.{pair_at}
use lib.ListN.{get_or}
use Rattle.vectors.proofs.line.is_hex.Given as goal

abbrev pub invariant-loop-i : goal.invariant-loop-i
invariant-loop-i l = (length l.hex ≡ length l.bytes + length l.bytes) × ((k : ℕ) → k < l.i → get_or l.bytes k 0 ≡ pair_at l.hex k)
