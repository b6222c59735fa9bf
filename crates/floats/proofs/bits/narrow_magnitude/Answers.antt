-- `floats::bits::narrow_magnitude` meets its contract (`proofs/Narrow.antt`). Assumes nothing.
use Rattle.floats.proofs.Narrow.{narrowed_sub, narrowed_normal, narrowed_inf}
use native.Mathlib.Omega.{arith}
use Rattle.floats.proofs.bits.narrow_magnitude.Goals as goal

pub returns-then-m-eq-WIDE_INFINITY : goal.returns-then-m-eq-WIDE_INFINITY
returns-then-m-eq-WIDE_INFINITY c = narrowed_inf c.args.m c.if-m-eq-WIDE_INFINITY.true

pub returns-then-m-lt-WIDE_EXPONENT_STEP : goal.returns-then-m-lt-WIDE_EXPONENT_STEP
returns-then-m-lt-WIDE_EXPONENT_STEP c = narrowed_sub c.args.m c.narrow_finite.result c.if-m-lt-WIDE_EXPONENT_STEP.true c.narrow_finite.ensures

pub returns : goal.returns
returns c = narrowed_normal c.args.m c.narrow_finite-2.result (omega arith) (omega arith) c.narrow_finite-2.ensures
