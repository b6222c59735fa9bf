-- `wanted::mark_query` meets its contract.
use Rattle.wanted.proofs.Marking as marking
use lib.ListN.{length}
use Rattle.wanted.proofs.mark_query.Given as goal

abbrev pub invariant-loop-t : goal.invariant-loop-t
invariant-loop-t l = marking.Going l.query l.wanted l.t l.ranges

abbrev pub decreases-loop-t : goal.decreases-loop-t
decreases-loop-t l = length l.t
