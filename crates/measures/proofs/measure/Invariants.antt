-- `measures::measure` meets its contract.
use Rattle.measures.proofs.Walking as walking
use lib.ListN.{length}
use Rattle.measures.proofs.measure.Given as goal

abbrev pub invariant-loop-t : goal.invariant-loop-t
invariant-loop-t l = walking.Walked l.s l.t l.so_far.weight l.so_far.largest

abbrev pub decreases-loop-t : goal.decreases-loop-t
decreases-loop-t l = length l.t
