-- `boost::digits::fill` meets its contract. Assumes nothing.
use Rattle.std.proofs.Common.{length}
use Rattle.boost.proofs.Runs.{Filling}
use Rattle.boost.proofs.digits.fill.Given as goal

abbrev pub invariant-loop-rest : goal.invariant-loop-rest
invariant-loop-rest l = Filling l.digits l.from l.initial.row l.row l.rest

abbrev pub decreases-loop-rest : goal.decreases-loop-rest
decreases-loop-rest l = length l.rest
