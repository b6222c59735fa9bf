use Prim.Native.Nat.{◌+◌, ◌≤◌}
use Rattle.selection.proofs.Records as records
use Rattle.rules.specs.Bytes.{each}
use Rattle.rules.specs.Checked.{Is}
use Rattle.rules.specs.Lists.{record_of}
use Rattle.rules.specs.Matching.{chosen_from, chosen}
use Rattle.rules.specs.Query.{Query}
use lib.ListN.{length}
use mathlib.Core.Path.{◌≡◌}
use Rattle.batch.proofs.turn.Asking.count.Given as goal

abbrev pub invariant-loop-i : goal.invariant-loop-i
invariant-loop-i l = (length l.row ≡ length l.initial.row) × (l.n ≤ l.i) × records.From l.self.list.now l.t l.i × ((x : Query) → Is l.self.query.now x → l.n + length (chosen_from l.i x (each record_of l.t)) ≡ length (chosen x (each record_of l.self.list.now)))
