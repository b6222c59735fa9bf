-- `stored::read::is_simple` meets its contract.
use Rattle.rules.proofs.Bools as bools
use Rattle.rules.proofs.Chains as chains
use Rattle.rules.proofs.Stored.Parts as parts
use Rattle.rules.specs.Numbers.{term_tag}
use Rattle.stored.specs.Read.{is_term}
use borrow.Author.Tests.{ne_eqb}
use mathlib.Core.Bool.{not}
use mathlib.Core.Path.{sym, ap, ◌∙◌}
use Rattle.stored.proofs.read.is_simple.Goals as goal

pub body-requires : goal.body-requires
body-requires c = (parts.part_is term_tag _ (bools.told_yes c.is_part.ensures c.if-not-is_part.false-raw)).0

pub rest-requires : goal.rest-requires
rest-requires c = (parts.part_is term_tag _ (bools.told_yes c.is_part.ensures c.if-not-is_part.false-raw)).0

pub returns-then-is_any_term : goal.returns-then-is_any_term
returns-then-is_any_term c = c.is_empty.ensures ∙ chains.on (ap not (ne_eqb _ _ c.if-left-eq0.false)) (chains.goes_on c.is_part.ensures c.if-not-is_part.false-raw (chains.on (sym (c.is_any_term.ensures ∙ ap is_term c.body.ensures) ∙ c.if-is_any_term.true) (chains.nothing c.rest.result.now c.rest.ensures)))

pub returns-else-is_any_term : goal.returns-else-is_any_term
returns-else-is_any_term c = c.if-is_any_term.false ∙ chains.on (ap not (ne_eqb _ _ c.if-left-eq0.false)) (chains.goes_on c.is_part.ensures c.if-not-is_part.false-raw (chains.off _ (sym (c.is_any_term.ensures ∙ ap is_term c.body.ensures) ∙ c.if-is_any_term.false)))
