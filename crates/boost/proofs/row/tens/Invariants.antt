-- `boost::row::tens` meets its contract. Assumes nothing.
use Rattle.boost.proofs.Tens.{Tens}
use Rattle.boost.proofs.row.tens.Given as goal

abbrev pub invariant-loop-j : goal.invariant-loop-j
invariant-loop-j l = Tens l.initial.row l.row l.n l.j

abbrev pub decreases-loop-j : goal.decreases-loop-j
decreases-loop-j l = l.j
