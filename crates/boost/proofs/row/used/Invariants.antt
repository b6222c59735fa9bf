-- `boost::row::used` meets its contract. Assumes nothing.
use Rattle.boost.proofs.Rows.{Using}
use Rattle.boost.proofs.row.used.Given as goal

abbrev pub invariant-loop-i : goal.invariant-loop-i
invariant-loop-i l = Using l.row l.len l.i
