-- `entries::entry::number` meets its contract.
use Rattle.entries.proofs.Entries as entries
use mathlib.Core.Path.{◌∙◌}
use native.Mathlib.Omega.{arith}
use Rattle.entries.proofs.entry.number.Goals as goal

pub body-requires : goal.body-requires
body-requires c = entries.entry_whole _ c.requires.0

pub rest-requires : goal.rest-requires
rest-requires c = rw c.body.ensures (entries.entry_front _ c.requires.0)

pub body-requires-2 : goal.body-requires-2
body-requires-2 c = rw (c.rest.ensures, c.body.ensures) (entries.entry_back _ c.requires.0)

pub big8-requires : goal.big8-requires
big8-requires c = rw (c.body-2.ensures, c.rest.ensures, c.body.ensures) (omega (arith, entries.value_long _ c.requires.0 c.requires.1))

pub returns : goal.returns
returns c = c.big8.ensures ∙ rw (c.body-2.ensures, c.rest.ensures, c.body.ensures) (entries.bits_at _ c.requires.0 c.requires.1)
