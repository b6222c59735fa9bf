-- `lists::is_records` meets its contract.
use Rattle.rules.specs.Bytes.{every}
use Rattle.rules.specs.Lists.{is_record}
use lib.ListN.{length}
use mathlib.Core.Path.{◌≡◌}
use Rattle.lists.proofs.is_records.Given as goal

abbrev pub invariant-loop-t : goal.invariant-loop-t
invariant-loop-t l = every is_record l.s ≡ every is_record l.t

abbrev pub decreases-loop-t : goal.decreases-loop-t
decreases-loop-t l = length l.t
