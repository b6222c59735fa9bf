-- `round::clauses::only_must_not` meets its contract.
use Rattle.round.proofs.Tallies as tallies
use lib.ListN.{length}
use Rattle.round.proofs.clauses.only_must_not.Given as goal

abbrev pub invariant-loop-t : goal.invariant-loop-t
invariant-loop-t l = tallies.Negative l.s l.t

abbrev pub decreases-loop-t : goal.decreases-loop-t
decreases-loop-t l = length l.t
