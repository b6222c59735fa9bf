-- `boost::row::used` meets its contract. Assumes nothing.
use Rattle.std.proofs.Common.{arith}
use Rattle.boost.proofs.Rows.{using_next}
use Rattle.boost.proofs.row.used.Goals as goal

pub loop-i-preserved : goal.loop-i-preserved
loop-i-preserved c = using_next c.args.row.now c.args.len c.loop-i.i c.loop-i.invariant (omega arith) c.if-row-i-ne0.false
