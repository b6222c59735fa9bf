-- `boost::top::highest` meets its contract. Assumes nothing.
use Rattle.boost.proofs.Rows.{Gathered}
use Rattle.boost.proofs.top.highest.Given as goal

abbrev pub invariant-loop-i : goal.invariant-loop-i
invariant-loop-i l = Gathered l.row l.low l.len l.w l.i
