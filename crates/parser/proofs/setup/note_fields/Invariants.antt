-- `parser::setup::note_fields` meets its contract.
use Rattle.fields.specs.Fields.{array_entries}
use Rattle.parser.proofs.Notes.{Noting}
use Rattle.parser.proofs.setup.note_fields.Given as goal

abbrev pub invariant-loop-i : goal.invariant-loop-i
invariant-loop-i l = Noting l.n (array_entries l.names l.lengths l.analyzers l.count) l.default l.initial.room l.i l.room
