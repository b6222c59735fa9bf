-- `boost::row::divide` meets its contract. Assumes nothing.
use Rattle.std.proofs.Common.{ℕ, ◌+◌, ◌*◌, refl, ap, arith}
use Rattle.boost.proofs.Rows.{dividing_next, dividing_last}
use Rattle.boost.proofs.row.divide.Goals as goal

pub loop-i-preserved : goal.loop-i-preserved
loop-i-preserved c = dividing_next c.args.row.now c.args.len c.args.f c.loop-i.row c.loop-i.rest c.loop-i.i (c.loop-i.rest * 0x1_0000 + c.from.result) _ c.loop-i.invariant c.requires.len_bound (omega arith) c.requires.divisor.0 c.requires.divisor.1
    (ap (λ (x : ℕ). c.loop-i.rest * 0x1_0000 + x) c.from.ensures) refl

pub returns : goal.returns
returns c = dividing_last c.args.row.now c.args.len c.args.f c.loop-i.row c.loop-i.rest c.loop-i.i c.loop-i.invariant (omega arith)
