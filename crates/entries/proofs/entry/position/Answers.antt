-- `entries::entry::position` meets its contract.
use Rattle.entries.proofs.Entries as entries
use borrow.Author.Rules.{rules}
use mathlib.Core.Path.{◌∙◌}
use Rattle.entries.proofs.entry.position.Goals as goal

pub body-requires : goal.body-requires
body-requires c = entries.entry_whole _ c.requires.0

pub rest-requires : goal.rest-requires
rest-requires c = rw c.body.ensures (entries.entry_front _ c.requires.0)

pub body-requires-2 : goal.body-requires-2
body-requires-2 c = rw (c.rest.ensures, c.body.ensures) (entries.entry_back _ c.requires.0)

pub big4-requires : goal.big4-requires
big4-requires c = rw (c.body-2.ensures, c.rest.ensures, c.body.ensures) (entries.place_long _ c.requires.0 c.requires.1)

pub returns : goal.returns
returns c = (c.big4.ensures ∙ rw (c.body-2.ensures, c.rest.ensures, c.body.ensures) (entries.position_at _ c.requires.0 c.requires.1), search rules)
