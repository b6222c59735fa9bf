-- `floats::bits::narrow` meets its contract (`proofs/Narrow.antt`). Assumes nothing.
use Prim.Native.Nat.{◌^◌}
use Rattle.floats.proofs.Model.{signed_neg, signed_pos}
use Rattle.floats.proofs.Narrow.{narrowed_nan}
use Rattle.rules.specs.Floats.{narrowed}
use lib.Ieee.{binary64}
use native.Mathlib.Omega.{arith}
use Rattle.floats.proofs.bits.narrow.Goals as goal

pub returns-then-m-gt-WIDE_INFINITY : goal.returns-then-m-gt-WIDE_INFINITY
returns-then-m-gt-WIDE_INFINITY c = narrowed_nan c.args.b c.if-m-gt-WIDE_INFINITY.true

pub returns-then-b-ge-WIDE_SIGN : goal.returns-then-b-ge-WIDE_SIGN
returns-then-b-ge-WIDE_SIGN c = signed_neg binary64 narrowed (2 ^ 31) c.narrow_magnitude-r.result c.args.b c.if-b-ge-WIDE_SIGN.true c.narrow_magnitude-r.ensures.is

pub returns : goal.returns
returns c = signed_pos binary64 narrowed (2 ^ 31) c.narrow_magnitude-r.result c.args.b (omega arith) c.narrow_magnitude-r.ensures.is
