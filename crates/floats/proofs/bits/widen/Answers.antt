-- `floats::bits::widen` meets its contract (`proofs/Widen.antt`). Assumes nothing.
use Prim.Native.Nat.{◌^◌}
use Rattle.floats.proofs.Model.{signed_neg, signed_pos}
use Rattle.floats.proofs.Widen.{widened_nan}
use Rattle.rules.specs.Floats.{widened}
use lib.Ieee.{binary32, binary64, to_bits}
use native.Mathlib.Omega.{arith}
use Rattle.floats.proofs.bits.widen.Goals as goal

pub returns-then-m-gt-INFINITY : goal.returns-then-m-gt-INFINITY
returns-then-m-gt-INFINITY c = widened_nan c.args.b c.if-m-gt-INFINITY.true

pub returns-then-b-ge-SIGN : goal.returns-then-b-ge-SIGN
unfolding widened
returns-then-b-ge-SIGN c = signed_neg binary32 (to_bits binary64) (2 ^ 63) c.widen_magnitude-r.result c.args.b c.if-b-ge-SIGN.true c.widen_magnitude-r.ensures.is

pub returns : goal.returns
unfolding widened
returns c = signed_pos binary32 (to_bits binary64) (2 ^ 63) c.widen_magnitude-r.result c.args.b (omega arith) c.widen_magnitude-r.ensures.is
