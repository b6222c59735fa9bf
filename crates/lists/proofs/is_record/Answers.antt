-- `lists::is_record` meets its contract.
use Rattle.rules.proofs.Chains as chains
use Rattle.rules.proofs.Stored.Parts as parts
use Rattle.rules.specs.Bytes.{every}
use Rattle.rules.specs.Lists.{is_entry, is_record}
use Rattle.rules.specs.Numbers.{record_tag}
use mathlib.Core.Path.{sym, ap, ◌∙◌}
use Rattle.lists.proofs.is_record.Goals as goal

pub body-requires : goal.body-requires
body-requires c = (parts.part_is record_tag _ (sym c.is_part.ensures ∙ c.if-is_part.true)).0

pub returns-then-is_part : goal.returns-then-is_part
unfolding is_record
returns-then-is_part c = chains.on (sym c.is_part.ensures ∙ c.if-is_part.true) (c.is_entries.ensures ∙ ap (every is_entry) c.body.ensures)

pub returns-else-is_part : goal.returns-else-is_part
unfolding is_record
returns-else-is_part c = c.if-is_part.false ∙ chains.off _ (sym c.is_part.ensures ∙ c.if-is_part.false)
