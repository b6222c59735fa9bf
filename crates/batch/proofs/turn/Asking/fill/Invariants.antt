use Rattle.selection.proofs.Records as records
use Rattle.rules.specs.Bytes.{big}
use Rattle.selection.proofs.Selections as selections
use lib.ListN.{length}
use mathlib.Core.Path.{◌≡◌}
use Rattle.batch.proofs.turn.Asking.fill.Given as goal

abbrev pub invariant-loop-i : goal.invariant-loop-i
invariant-loop-i l = (length l.rows ≡ length l.initial.rows) × (length l.row ≡ length l.initial.row) × records.From l.self.list.now l.t l.i × selections.Filled (big 4) l.self.query.now l.self.list.now l.t l.initial.rows l.rows l.w l.i
