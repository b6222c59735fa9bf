-- `floats::sums::as_sum` meets its contract (`proofs/Nans.antt`). Assumes nothing.
use Rattle.floats.proofs.Nans.{no_nan, widened_back, widened_nan_back}
use lib.Ieee.{binary64}
use Rattle.floats.proofs.sums.as_sum.Goals as goal

pub returns-then-w-gt-WIDE_INFINITY : goal.returns-then-w-gt-WIDE_INFINITY
returns-then-w-gt-WIDE_INFINITY c = widened_nan_back c.args.b c.widen-w.result c.widen-w.ensures c.if-w-gt-WIDE_INFINITY.true

pub float_from_bits-result : goal.float_from_bits-result
float_from_bits-result c = no_nan binary64 c.widen-w.result c.if-w-gt-WIDE_INFINITY.false

pub returns : goal.returns
returns c = widened_back c.args.b c.widen-w.result c.widen-w.ensures
