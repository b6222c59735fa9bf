-- `boost::row::scale` meets its contract. Assumes nothing.
use Rattle.std.proofs.Common.{ℕ, ◌+◌, ◌*◌, refl, ap, arith}
use Rattle.boost.proofs.Rows.{going_next, going_last}
use Rattle.boost.proofs.row.scale.Goals as goal

pub loop-i-preserved : goal.loop-i-preserved
loop-i-preserved c = going_next c.args.row.now c.args.from c.args.m c.args.add c.loop-i.row c.loop-i.carry c.loop-i.i (c.from.result * c.args.m + c.loop-i.carry) c.loop-i.invariant (omega arith)
    (ap (λ (x : ℕ). x * c.args.m + c.loop-i.carry) c.from.ensures) _ refl

pub returns : goal.returns
returns c = going_last c.args.row.now c.args.from c.args.m c.args.add c.loop-i.row c.loop-i.carry c.loop-i.i c.loop-i.invariant (omega arith) c.requires.fits
