-- `entries::entry::text` meets its contract.
use Rattle.entries.proofs.Entries as entries
use Rattle.rules.proofs.Stored.Parts as parts
use Rattle.rules.specs.Bytes.{body_of, rest_of}
use lib.ListN.{drop}
use mathlib.Core.Path.{ap, ◌∙◌}
use Rattle.entries.proofs.entry.text.Goals as goal

pub body-requires : goal.body-requires
body-requires c = entries.entry_whole _ c.requires.0

pub rest-requires : goal.rest-requires
rest-requires c = rw c.body.ensures (entries.entry_front _ c.requires.0)

pub body-w-requires : goal.body-w-requires
body-w-requires c = rw (c.rest.ensures, c.body.ensures) (entries.entry_back _ c.requires.0)

pub slice_bounds-result-count : goal.slice_bounds-result-count
slice_bounds-result-count c = rw (c.body-w.ensures, c.rest.ensures, c.body.ensures) (entries.place_long _ c.requires.0 c.requires.1)

pub slice_bounds-result-start : goal.slice_bounds-result-start
slice_bounds-result-start c = rw (c.body-w.ensures, c.rest.ensures, c.body.ensures) (entries.place_long _ c.requires.0 c.requires.1)

pub returns : goal.returns
returns c = parts.cut_from 4 c.body-w.result.now ∙ ap (drop 4) (c.body-w.ensures ∙ ap body_of (c.rest.ensures ∙ ap rest_of c.body.ensures)) ∙ entries.text_at_lem _ c.requires.0 c.requires.1
