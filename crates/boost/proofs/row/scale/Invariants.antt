-- `boost::row::scale` meets its contract. Assumes nothing.
use Rattle.boost.proofs.Rows.{Going}
use Rattle.boost.proofs.row.scale.Given as goal

abbrev pub invariant-loop-i : goal.invariant-loop-i
invariant-loop-i l = Going l.initial.row l.from l.m l.add l.row l.carry l.i
