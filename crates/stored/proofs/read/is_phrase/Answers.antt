-- `stored::read::is_phrase` meets its contract.
use Rattle.rules.proofs.Chains as chains
use Rattle.rules.specs.Bytes.{every}
use Rattle.rules.specs.Reading.{is_word}
use Rattle.stored.proofs.Reader as reader
use mathlib.Core.Path.{sym, ap, ◌∙◌}
use Rattle.stored.proofs.read.is_phrase.Goals as goal

pub rest-requires : goal.rest-requires
rest-requires c = reader.field_whole _ (sym c.is_field_part.ensures ∙ c.if-is_field_part.true)

pub returns-then-is_field_part : goal.returns-then-is_field_part
returns-then-is_field_part c = chains.on (sym c.is_field_part.ensures ∙ c.if-is_field_part.true) (c.is_words.ensures ∙ ap (every is_word) c.rest.ensures)

pub returns-else-is_field_part : goal.returns-else-is_field_part
returns-else-is_field_part c = c.if-is_field_part.false ∙ chains.off _ (sym c.is_field_part.ensures ∙ c.if-is_field_part.false)
