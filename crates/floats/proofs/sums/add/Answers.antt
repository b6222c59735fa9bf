-- `floats::sums::add` meets its contract. Assumes nothing.
use Rattle.rules.specs.Floats.{plus}
use lib.Ieee.{Float, binary64, add}
use mathlib.Core.Path.{ap}
use Rattle.floats.proofs.sums.add.Goals as goal

pub returns : goal.returns
unfolding plus
returns c = ap (λ (x : Float). add binary64 c.args.sum x) c.as_sum.ensures
