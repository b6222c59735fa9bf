use Rattle.rules.specs.Bytes.{every}
use Rattle.rules.specs.Lists.{is_entry}
use lib.ListN.{length}
use mathlib.Core.Path.{◌≡◌}
use Rattle.lists.proofs.is_entries.Given as goal

abbrev pub invariant-loop-t : goal.invariant-loop-t
invariant-loop-t l = every is_entry l.s ≡ every is_entry l.t

abbrev pub decreases-loop-t : goal.decreases-loop-t
decreases-loop-t l = length l.t
