-- `boost::digits::number` meets its contract. Assumes nothing.
use Rattle.std.proofs.Common.{length, ◌-◌}
use Rattle.boost.proofs.Fills.{zeros_hold, whole_holds, number_full}
use Rattle.boost.proofs.digits.number.Goals as goal

pub fill-requires-clause-holds : goal.fill-requires-clause-holds
fill-requires-clause-holds c = zeros_hold c.args.from (40 - length c.args.d.now.whole.now)

pub fill-requires-2-clause-holds : goal.fill-requires-2-clause-holds
fill-requires-2-clause-holds c = whole_holds c.args.d.now.whole.now c.args.d.now.fraction.now c.args.d.now.value c.args.from c.fill.new.row c.args.d.now.held c.fill.ensures

pub returns : goal.returns
returns c = number_full c.args.d.now.whole.now c.args.d.now.fraction.now c.args.d.now.value c.args.from c.fill.new.row c.args.d.now.held c.fill.ensures c.fill-2.new.row c.fill-2.ensures
