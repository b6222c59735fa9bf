-- `entries::slots::note` meets its contract.
use Rattle.entries.proofs.Entries as entries
use Rattle.entries.proofs.Noting as noting
use Rattle.rules.proofs.Stored.Parts as parts
use mathlib.Core.Path.{sym, ◌∙◌}
use native.Mathlib.Omega.{arith}
use Rattle.std.proofs.Common.{rules, ◌<◌, length}
use Rattle.entries.proofs.slots.note.Goals as goal

pub loop-e-init : goal.loop-e-init
loop-e-init c = noting.noting_start c.requires.0 c.requires.1

pub overflow_sub-rec : goal.overflow_sub-rec
overflow_sub-rec c = omega (arith, c.loop-e.invariant.fits)

pub overflow_add-from : goal.overflow_add-from
overflow_add-from c = omega (arith, c.requires.2, c.loop-e.invariant.fits)

pub note_entry-requires : goal.note_entry-requires
note_entry-requires c = let m : 0 < length c.loop-e.e.now = search rules in (noting.noting_first c.loop-e.invariant (search rules), (omega (arith, c.requires.2, c.loop-e.invariant.fits)), (omega (arith, c.loop-e.invariant.fits)), c.requires.2, c.loop-e.invariant.standing)

pub rest-e-requires : goal.rest-e-requires
rest-e-requires c = entries.entry_whole _ (noting.noting_first c.loop-e.invariant (search rules))

pub loop-e-smaller : goal.loop-e-smaller
loop-e-smaller c = rw c.rest-e.ensures (parts.rest_shorter _ (search rules))

pub loop-e-preserved : goal.loop-e-preserved
loop-e-preserved c = noting.noting_next c.loop-e.invariant (search rules) c.rest-e.ensures
    c.note_entry.ensures

pub shape_of-slots : goal.shape_of-slots
shape_of-slots c = c.loop-e.invariant.standing.many ∙ sym c.requires.0.many

pub returns : goal.returns
returns c = noting.noting_end c.loop-e.invariant (search rules)
