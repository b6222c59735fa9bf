-- `floats::bits::widen_magnitude` meets its contract (`proofs/Widen.antt`). Assumes nothing.
use Rattle.floats.proofs.Widen.{widened_low, widened_high, widened_inf}
use native.Mathlib.Omega.{arith}
use Rattle.floats.proofs.bits.widen_magnitude.Goals as goal

pub returns-then-m-eq-INFINITY : goal.returns-then-m-eq-INFINITY
returns-then-m-eq-INFINITY c = widened_inf c.args.m c.if-m-eq-INFINITY.true

pub returns-then-m-lt-EXPONENT_STEP : goal.returns-then-m-lt-EXPONENT_STEP
returns-then-m-lt-EXPONENT_STEP c = widened_low c.args.m c.widen_finite.result c.if-m-lt-EXPONENT_STEP.true c.widen_finite.ensures

pub returns : goal.returns
returns c = widened_high c.args.m c.widen_finite-2.result (omega arith) (omega arith) c.widen_finite-2.ensures
