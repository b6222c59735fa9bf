-- `entries::entry::is_place` meets its contract.
use Rattle.entries.proofs.Entries as entries
use Rattle.rules.proofs.Stored.Parts as parts
use native.Mathlib.Omega.{arith}
use Rattle.entries.proofs.entry.is_place.Goals as goal

pub tag_of-requires : goal.tag_of-requires
tag_of-requires c = omega (arith, parts.whole_le _ (entries.entry_whole _ c.requires))

pub returns : goal.returns
returns c = rw c.tag_of.ensures (entries.place_tag_lem _ c.requires)
