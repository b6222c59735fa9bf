-- `boost::digits::read` meets its contract. Assumes nothing.
use Rattle.std.proofs.Common.{length}
use Rattle.boost.proofs.Runs.{Counting}
use Rattle.boost.proofs.digits.read.Given as goal

abbrev pub invariant-loop-rest : goal.invariant-loop-rest
invariant-loop-rest l = Counting l.s l.start l.v l.rest

abbrev pub decreases-loop-rest : goal.decreases-loop-rest
decreases-loop-rest l = length l.rest
