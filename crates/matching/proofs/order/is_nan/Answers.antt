-- `matching::order::is_nan` meets its contract.
use Rattle.matching.proofs.Orders as orders
use Rattle.matching.proofs.order.is_nan.Goals as goal

pub returns : goal.returns
returns c = orders.nan_bits_lem c.args.x
