-- `clauses::leaf::is_one_word` meets its contract.
use Rattle.analysis.proofs.OneToken.{one_word, one_kept}
use Rattle.rules.proofs.Bools.{told_no}
use Rattle.clauses.proofs.leaf.is_one_word.Goals as goal

pub returns-then-known : goal.returns-then-known
returns-then-known c = λ e. one_kept _ _ (one_word _ _ (c.requires c.if-known.true)) (told_no c.is_left_out.ensures e)
