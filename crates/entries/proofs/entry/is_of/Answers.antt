-- `entries::entry::is_of` meets its contract.
use Rattle.entries.proofs.Entries as entries
use Rattle.rules.proofs.Stored.Parts as parts
use native.Mathlib.Omega.{arith}
use Rattle.entries.proofs.entry.is_of.Goals as goal

pub tag_of-requires : goal.tag_of-requires
tag_of-requires c = omega (arith, parts.whole_le _ (entries.entry_whole _ c.requires))

pub returns-then-float : goal.returns-then-float
returns-then-float c = rw (c.if-float.true, c.tag_of.ensures) (entries.float_tag_lem _ c.requires)

pub tag_of-requires-2 : goal.tag_of-requires-2
tag_of-requires-2 c = omega (arith, parts.whole_le _ (entries.entry_whole _ c.requires))

pub returns : goal.returns
returns c = rw (c.if-float.false, c.tag_of-2.ensures) (entries.whole_tag_lem _ c.requires)
