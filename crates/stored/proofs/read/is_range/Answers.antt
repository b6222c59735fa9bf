-- `stored::read::is_range` meets its contract.
use Rattle.rules.proofs.Bools as bools
use Rattle.rules.proofs.Chains as chains
use Rattle.rules.specs.Bytes.{rest_of}
use Rattle.rules.specs.Reading.{is_bound}
use Rattle.stored.proofs.Reader as reader
use mathlib.Core.Path.{sym, ap, ◌∙◌}
use Rattle.stored.proofs.read.is_range.Goals as goal

pub returns-then-not-is_field_part : goal.returns-then-not-is_field_part
returns-then-not-is_field_part c = chains.ends _ c.is_field_part.ensures c.if-not-is_field_part.true-raw

pub rest-lower-requires : goal.rest-lower-requires
rest-lower-requires c = reader.field_whole _ (bools.told_yes c.is_field_part.ensures c.if-not-is_field_part.false-raw)

pub returns-then-not-is_bound : goal.returns-then-not-is_bound
returns-then-not-is_bound c = chains.goes_on c.is_field_part.ensures c.if-not-is_field_part.false-raw (chains.ends _ (c.is_bound.ensures ∙ ap is_bound c.rest-lower.ensures) c.if-not-is_bound.true-raw)

pub rest-upper-requires : goal.rest-upper-requires
rest-upper-requires c = reader.bound_whole _ (bools.told_yes c.is_bound.ensures c.if-not-is_bound.false-raw)

pub rest-requires : goal.rest-requires
rest-requires c = reader.bound_whole _ (sym c.is_bound-2.ensures ∙ c.if-is_bound.true)

pub returns-then-is_bound : goal.returns-then-is_bound
returns-then-is_bound c = c.is_empty.ensures ∙ chains.goes_on c.is_field_part.ensures c.if-not-is_field_part.false-raw (chains.goes_on (c.is_bound.ensures ∙ ap is_bound c.rest-lower.ensures) c.if-not-is_bound.false-raw (chains.on (sym (c.is_bound-2.ensures ∙ ap is_bound (c.rest-upper.ensures ∙ ap rest_of c.rest-lower.ensures)) ∙ c.if-is_bound.true) (chains.nothing c.rest.result.now (c.rest.ensures ∙ ap rest_of (c.rest-upper.ensures ∙ ap rest_of c.rest-lower.ensures)))))

pub returns-else-is_bound : goal.returns-else-is_bound
returns-else-is_bound c = c.if-is_bound.false ∙ chains.goes_on c.is_field_part.ensures c.if-not-is_field_part.false-raw (chains.goes_on (c.is_bound.ensures ∙ ap is_bound c.rest-lower.ensures) c.if-not-is_bound.false-raw (chains.off _ (sym (c.is_bound-2.ensures ∙ ap is_bound (c.rest-upper.ensures ∙ ap rest_of c.rest-lower.ensures)) ∙ c.if-is_bound.false)))
