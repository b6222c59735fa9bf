-- `boost::row::tens` meets its contract. Assumes nothing.
use Rattle.std.proofs.Common.{refl, arith}
use Rattle.boost.proofs.Rows.{up_to_none}
use Rattle.boost.proofs.Tens.{tens_room, tens_next, tens_last, ten_factor}
use Rattle.boost.proofs.row.tens.Goals as goal

pub loop-j-init : goal.loop-j-init
loop-j-init c = record { is = refl }

pub scale-requires-clause-nothing_below : goal.scale-requires-clause-nothing_below
scale-requires-clause-nothing_below c = up_to_none c.loop-j.row

pub scale-requires-clause-factor : goal.scale-requires-clause-factor
scale-requires-clause-factor c = ten_factor c.min-c.result c.ten.result (omega arith) c.ten.ensures

pub scale-requires-clause-fits : goal.scale-requires-clause-fits
scale-requires-clause-fits c = tens_room c.args.row.now c.loop-j.row c.args.n c.loop-j.j c.min-c.result c.ten.result c.loop-j.invariant c.requires (omega arith) c.ten.ensures

pub loop-j-preserved : goal.loop-j-preserved
loop-j-preserved c = tens_next c.args.row.now c.loop-j.row c.scale.new.row c.args.n c.loop-j.j c.min-c.result c.ten.result c.loop-j.invariant (omega arith) c.ten.ensures c.scale.ensures

pub returns : goal.returns
returns c = tens_last c.args.row.now c.loop-j.row c.args.n c.loop-j.j c.loop-j.invariant (omega arith)
