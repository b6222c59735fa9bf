use Prim.Native.Nat.{◌+◌, ◌≤◌}
use Rattle.rules.specs.Bytes.{each}
use Rattle.rules.specs.Checked.{Is}
use Rattle.rules.specs.Lists.{record_of}
use Rattle.rules.specs.Matching.{chosen_from, chosen}
use Rattle.rules.specs.Query.{Query}
use Rattle.selection.proofs.Records as records
use Rattle.selection.proofs.Selections as selections
use lib.ListN.{length}
use mathlib.Core.Path.{◌≡◌}
use Rattle.selection.proofs.select.Checked.count.Given as goal

abbrev pub invariant-loop-i : goal.invariant-loop-i
invariant-loop-i l =
    (l.n ≤ l._i)
    × records.From l.self.list.now l.t l._i
    × ((x : Query) → Is l.self.query.now x → l.n + length (chosen_from l._i x (each record_of l.t)) ≡ length (chosen x (each record_of l.self.list.now)))
    × selections.Going l.self.query.now (selections.front l.self.list.now l.t) l.question
