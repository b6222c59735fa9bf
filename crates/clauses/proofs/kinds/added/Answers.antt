-- `clauses::kinds::added` meets its contract.
use Rattle.clauses.specs.Joining.{conjunction_of, modifier_of}
use Rattle.counted.proofs.Deciding.{added_nothing, added_made}
use mathlib.Core.Path.{sym, ◌∙◌}
use Rattle.clauses.proofs.kinds.added.Goals as goal

pub returns-then-len-eq0-clause-sums : goal.returns-then-len-eq0-clause-sums
returns-then-len-eq0-clause-sums c = λ cs q s e. added_nothing c.args.operator (conjunction_of c.args.lead.conjunction) (modifier_of c.args.lead.modifier) cs s _ (c.tag_before.ensures cs s.last) q (sym c.if-len-eq0.true ∙ e)

pub returns-clause-sums : goal.returns-clause-sums
returns-clause-sums c = λ cs q s e. added_made c.args.operator (conjunction_of c.args.lead.conjunction) (modifier_of c.args.lead.modifier) cs s _ _ c.if-len-eq0.false c.tag_after.ensures q e
