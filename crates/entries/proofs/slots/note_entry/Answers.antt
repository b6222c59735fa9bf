use Rattle.entries.proofs.Noting as noting
use Rattle.rules.proofs.Bools as bools
use Rattle.rules.specs.Lists.{entry_of}
use Rattle.entries.proofs.slots.note_entry.Goals as goal

pub is_place-requires : goal.is_place-requires
is_place-requires c = c.requires.0

pub returns-then-not-is_place : goal.returns-then-not-is_place
returns-then-not-is_place c = noting.noted_not c.args.slots.now c.args.rec.now c.args.from c.args.at (entry_of c.args.e.now) (bools.told_no c.is_place.ensures c.if-not-is_place.true-raw)

pub field-requires : goal.field-requires
field-requires c = c.requires.0

pub text-requires : goal.text-requires
text-requires c = (c.requires.0, bools.told_yes c.is_place.ensures c.if-not-is_place.false-raw)

pub note_text-requires : goal.note_text-requires
note_text-requires c = (c.requires.1, c.requires.2, c.requires.3, c.requires.4)

pub returns : goal.returns
returns c = noting.noted_place c.args.slots.now c.args.rec.now c.args.from c.args.at (entry_of c.args.e.now) (bools.told_yes c.is_place.ensures c.if-not-is_place.false-raw) c.field.ensures c.text.ensures c.note_text.ensures
