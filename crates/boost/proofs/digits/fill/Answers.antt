-- `boost::digits::fill` meets its contract. Assumes nothing.
use Rattle.std.proofs.Common.{arith, length}
use Rattle.boost.proofs.Runs.{fill_first, fill_small, fill_room, fill_next, filled}
use Rattle.boost.proofs.Tests.{eq_of}
use Rattle.boost.proofs.digits.fill.Goals as goal

pub loop-rest-init : goal.loop-rest-init
loop-rest-init c = fill_first c.args.digits.now c.args.from c.args.row.now c.requires.digits c.requires.few c.requires.holds

pub scale-requires-clause-factor : goal.scale-requires-clause-factor
scale-requires-clause-factor c = fill_small (length c.split_at.result.0.now) c.ten-power.result c.number_of.result (omega (arith, c.split_at.ensures.front_len)) c.ten-power.ensures c.number_of.ensures.small

pub scale-requires-clause-fits : goal.scale-requires-clause-fits
scale-requires-clause-fits c = fill_room c.args.digits.now c.args.from c.args.row.now c.loop-rest.row c.loop-rest.rest.now c.loop-rest.invariant _ c.split_at.result.0.now c.split_at.result.1.now
    (record { front = c.split_at.ensures.front; back = c.split_at.ensures.back; front_len = c.split_at.ensures.front_len; back_len = c.split_at.ensures.back_len })
    c.ten-power.result c.number_of.result c.ten-power.ensures c.number_of.ensures.number c.number_of.ensures.small c.requires.from_bound

pub loop-rest-preserved : goal.loop-rest-preserved
loop-rest-preserved c = fill_next c.args.digits.now c.args.from c.args.row.now c.loop-rest.row c.loop-rest.rest.now c.loop-rest.invariant _ c.split_at.result.0.now c.split_at.result.1.now
    (record { front = c.split_at.ensures.front; back = c.split_at.ensures.back; front_len = c.split_at.ensures.front_len; back_len = c.split_at.ensures.back_len })
    c.ten-power.result c.number_of.result c.ten-power.ensures c.number_of.ensures.number c.number_of.ensures.small c.scale.new.row c.scale.ensures

pub returns : goal.returns
returns c = filled c.args.digits.now c.args.from c.args.row.now c.loop-rest.row c.loop-rest.rest.now c.loop-rest.invariant (eq_of c.is_empty.result (length c.loop-rest.rest.now) 0 c.is_empty.ensures c.loop-rest-test.false)
