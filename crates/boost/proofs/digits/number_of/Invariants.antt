-- `boost::digits::number_of` meets its contract. Assumes nothing.
use Rattle.std.proofs.Common.{◌≡◌, ◌^◌, ◌<◌, take}
use Rattle.rules.specs.Numerals.{digits_on}
use Rattle.boost.proofs.digits.number_of.Given as goal

abbrev pub invariant-loop-c : goal.invariant-loop-c
invariant-loop-c l = (l.v ≡ digits_on 0 (take l.c-index l.digits)) × (l.v < 10 ^ l.c-index)
