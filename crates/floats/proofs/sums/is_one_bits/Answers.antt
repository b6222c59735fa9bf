-- `floats::sums::is_one_bits` meets its contract (`proofs/Nans.antt`). Assumes nothing.
use Rattle.floats.proofs.Nans.{no_nan, one_nan, one_bits_lem}
use lib.Ieee.{binary32}
use Rattle.floats.proofs.sums.is_one_bits.Goals as goal

pub returns-then-b-gt-INFINITY : goal.returns-then-b-gt-INFINITY
returns-then-b-gt-INFINITY c = one_nan c.args.b c.if-b-gt-INFINITY.true

pub float_from_bits-result : goal.float_from_bits-result
float_from_bits-result c = no_nan binary32 c.args.b c.if-b-gt-INFINITY.false

pub returns : goal.returns
returns c = one_bits_lem c.args.b
