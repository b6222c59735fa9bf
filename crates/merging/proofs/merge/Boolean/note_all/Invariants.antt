-- `merging::merge::Boolean::note_all` meets its contract.
use Rattle.merging.proofs.Alike as alike
use lib.ListN.{length}
use Rattle.merging.proofs.merge.Boolean.note_all.Given as goal

abbrev pub invariant-loop-t : goal.invariant-loop-t
invariant-loop-t l = alike.Noting l.self.least l.s l.t l.table

abbrev pub decreases-loop-t : goal.decreases-loop-t
decreases-loop-t l = length l.t
