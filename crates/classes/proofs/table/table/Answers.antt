-- `table::table` is the table of the rules, entry by entry. Assumes nothing.
use Rattle.rules.specs.Analysis.{classes}
use mathlib.Core.Path.{refl}
use Rattle.classes.proofs.table.table.Goals as goal

pub returns : goal.returns
unfolding classes
returns c = refl
