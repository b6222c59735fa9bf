-- `boost::row::divide` meets its contract. Assumes nothing.
use Rattle.boost.proofs.Rows.{Dividing}
use Rattle.boost.proofs.row.divide.Given as goal

abbrev pub invariant-loop-i : goal.invariant-loop-i
invariant-loop-i l = Dividing l.initial.row l.len l.f l.row l.rest l.i
