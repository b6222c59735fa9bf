-- `classes::ascii_class` meets its contract: the static is the table of the rules. Assumes nothing.
use Rattle.std.proofs.Common.{rules}
use Rattle.rules.specs.Analysis.{classes}
use Rattle.classes.proofs.ascii_class.Goals as goal

pub returns : goal.returns
unfolding classes
returns c = search rules
