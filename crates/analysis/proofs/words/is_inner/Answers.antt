-- `words::is_inner` meets its contract, by the flags of the byte. Assumes nothing.
use Rattle.rules.proofs.Text.Classes.{plain_flag}
use Rattle.rules.proofs.Text.Words.{inner_at}
use lib.Dec.{leb}
use mathlib.Core.Path.{sym, ap, ◌∙◌}
use Rattle.analysis.proofs.words.is_inner.Goals as goal

pub returns : goal.returns
returns c = ap (leb 16) c.class_of.ensures ∙ plain_flag _ ∙ sym (inner_at _ _ c.requires)
