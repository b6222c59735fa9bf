use Rattle.selection.proofs.Records as records
use Rattle.selection.proofs.Selections as selections
use Rattle.selection.specs.Select.{coded, filled}
use lib.ListN.{length}
use mathlib.Core.Path.{◌≡◌}
use Rattle.selection.proofs.select.Checked.fill.Given as goal

abbrev pub invariant-loop-i : goal.invariant-loop-i
invariant-loop-i l =
    (length l.rows ≡ length l.initial.rows)
    × (length l.bytes ≡ length l.initial.bytes)
    × selections.Going l.self.query.now (selections.front l.self.list.now l.t) l.question
    × records.From l.self.list.now l.t l.i
    × selections.Filled (coded l.in_bytes) l.self.query.now l.self.list.now l.t (filled l.in_bytes l.initial.rows l.initial.bytes) (filled l.in_bytes l.rows l.bytes) l.w l.i
