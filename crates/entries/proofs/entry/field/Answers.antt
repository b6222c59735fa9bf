-- `entries::entry::field` meets its contract.
use Rattle.entries.proofs.Entries as entries
use Rattle.rules.specs.Bytes.{body_of}
use mathlib.Core.Path.{ap, ◌∙◌}
use Rattle.entries.proofs.entry.field.Goals as goal

pub body-requires : goal.body-requires
body-requires c = entries.entry_whole _ c.requires

pub body-requires-2 : goal.body-requires-2
body-requires-2 c = rw c.body.ensures (entries.entry_front _ c.requires)

pub returns : goal.returns
returns c = c.body-2.ensures ∙ ap body_of c.body.ensures ∙ entries.field_at _ c.requires
