use Rattle.selection.proofs.Records as records
use Rattle.batch.specs.Ask.{Table}
use Rattle.batch.specs.Cut.{queries_of}
use Rattle.entries.specs.Slots.{Before}
use Rattle.rules.specs.Numbers.{selection_depth}
use Rattle.selection.proofs.Selections as selections
use lib.ListN.{length}
use mathlib.Core.Path.{◌≡◌}
use Rattle.batch.proofs.ask.keep.Given as goal

abbrev pub invariant-loop-i : goal.invariant-loop-i
invariant-loop-i l = (length l.table ≡ length l.initial.table) × (length l.row ≡ selection_depth) × records.From l.list l.t l.i × Before l.slots (selections.front l.list l.t) × Table (queries_of l.queries) l.many l.list l.i l.table
