-- `words::start_of` meets its contract. Assumes nothing.
use Rattle.analysis.proofs.Seeking.{starts_within}
use mathlib.Core.Path.{sym, ◌∙◌}
use Rattle.analysis.proofs.words.start_of.Goals as goal

pub returns-then-is_within : goal.returns-then-is_within
returns-then-is_within c = starts_within _ _ (sym c.is_within.ensures ∙ c.if-is_within.true) c.requires

pub returns : goal.returns
returns c = c.seek.ensures
