-- `matching::order::whole_ordered` meets its contract.
use Rattle.matching.proofs.Orders as orders
use Rattle.matching.proofs.order.whole_ordered.Goals as goal

pub returns-then-strict : goal.returns-then-strict
returns-then-strict c = rw c.if-strict.true (orders.turned_lt c.args.a c.args.b c.turned-x.result c.turned-y.result c.turned-x.ensures c.turned-y.ensures c.ranges.a.fits c.ranges.b.fits)

pub returns-else-strict : goal.returns-else-strict
returns-else-strict c = rw c.if-strict.false (orders.turned_le c.args.a c.args.b c.turned-x.result c.turned-y.result c.turned-x.ensures c.turned-y.ensures c.ranges.a.fits c.ranges.b.fits)
