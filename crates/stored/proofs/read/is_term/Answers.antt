-- `stored::read::is_term` meets its contract.
use Rattle.rules.proofs.Bools as bools
use Rattle.rules.proofs.Chains as chains
use Rattle.rules.proofs.Stored.Parts as parts
use Rattle.rules.specs.Bytes.{is_text, body_of, rest_of, is_part}
use Rattle.rules.specs.Numbers.{text_tag}
use Rattle.stored.proofs.Reader as reader
use mathlib.Core.Path.{sym, ap, ◌∙◌}
use Rattle.stored.proofs.read.is_term.Goals as goal

pub returns-then-not-is_field_part : goal.returns-then-not-is_field_part
returns-then-not-is_field_part c = chains.ends _ c.is_field_part.ensures c.if-not-is_field_part.true-raw

pub rest-t-requires : goal.rest-t-requires
rest-t-requires c = reader.field_whole _ (bools.told_yes c.is_field_part.ensures c.if-not-is_field_part.false-raw)

pub returns-then-not-is_part : goal.returns-then-not-is_part
returns-then-not-is_part c = chains.goes_on c.is_field_part.ensures c.if-not-is_field_part.false-raw (chains.ends _ (c.is_part.ensures ∙ ap (is_part text_tag) c.rest-t.ensures) c.if-not-is_part.true-raw)

pub body-requires : goal.body-requires
body-requires c = (parts.part_is text_tag _ (bools.told_yes c.is_part.ensures c.if-not-is_part.false-raw)).0

pub rest-requires : goal.rest-requires
rest-requires c = (parts.part_is text_tag _ (bools.told_yes c.is_part.ensures c.if-not-is_part.false-raw)).0

pub returns-then-is_text : goal.returns-then-is_text
returns-then-is_text c = c.is_empty.ensures ∙ chains.goes_on c.is_field_part.ensures c.if-not-is_field_part.false-raw (chains.goes_on (c.is_part.ensures ∙ ap (is_part text_tag) c.rest-t.ensures) c.if-not-is_part.false-raw (chains.on (sym (c.is_text.ensures ∙ ap is_text (c.body.ensures ∙ ap body_of c.rest-t.ensures)) ∙ c.if-is_text.true) (chains.nothing c.rest.result.now (c.rest.ensures ∙ ap rest_of c.rest-t.ensures))))

pub returns-else-is_text : goal.returns-else-is_text
returns-else-is_text c = c.if-is_text.false ∙ chains.goes_on c.is_field_part.ensures c.if-not-is_field_part.false-raw (chains.goes_on (c.is_part.ensures ∙ ap (is_part text_tag) c.rest-t.ensures) c.if-not-is_part.false-raw (chains.off _ (sym (c.is_text.ensures ∙ ap is_text (c.body.ensures ∙ ap body_of c.rest-t.ensures)) ∙ c.if-is_text.false)))
