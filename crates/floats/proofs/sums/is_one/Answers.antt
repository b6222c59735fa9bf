-- `floats::sums::is_one` meets its contract: the constant is the definition's own. Assumes nothing.
use Rattle.rules.specs.Floats.{is_one, one}
use mathlib.Core.Path.{refl}
use Rattle.floats.proofs.sums.is_one.Goals as goal

pub returns : goal.returns
unfolding is_one one
returns c = refl
