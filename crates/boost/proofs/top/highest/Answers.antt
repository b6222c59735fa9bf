-- `boost::top::highest` meets its contract. Assumes nothing.
use Rattle.std.proofs.Common.{arith}
use Rattle.boost.proofs.Rows.{gathered_few, gathered_next, gathered_last}
use Rattle.boost.proofs.top.highest.Goals as goal

pub overflow_mul-w : goal.overflow_mul-w
overflow_mul-w c = let p = gathered_few c.args.row.now c.args.low c.args.len c.loop-i.w c.loop-i.i c.loop-i.invariant c.requires.2 (omega arith) in omega arith

pub overflow_add-w : goal.overflow_add-w
overflow_add-w c = let p = gathered_few c.args.row.now c.args.low c.args.len c.loop-i.w c.loop-i.i c.loop-i.invariant c.requires.2 (omega arith) in omega arith

pub loop-i-preserved : goal.loop-i-preserved
loop-i-preserved c = gathered_next c.args.row.now c.args.low c.args.len c.loop-i.w c.loop-i.i c.from.result (record { count = c.told-row; word = c.fits-row }) c.loop-i.invariant (omega arith) c.from.ensures

pub returns : goal.returns
returns c = gathered_last c.args.row.now c.args.low c.args.len c.loop-i.w c.loop-i.i c.loop-i.invariant c.requires.2 (omega arith)
