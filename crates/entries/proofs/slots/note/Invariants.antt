-- `entries::slots::note` meets its contract.
use Rattle.entries.proofs.Noting as noting
use lib.ListN.{length}
use Rattle.entries.proofs.slots.note.Given as goal

abbrev pub invariant-loop-e : goal.invariant-loop-e
invariant-loop-e l = noting.Upto l.rec l.from l.e l.slots

abbrev pub decreases-loop-e : goal.decreases-loop-e
decreases-loop-e l = length l.e
