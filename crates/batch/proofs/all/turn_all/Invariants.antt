use Rattle.batch.proofs.Cutting as cutting
use Rattle.batch.proofs.Turning as turning
use Rattle.batch.specs.Cut.{queries_of}
use Rattle.rules.specs.Numbers.{selection_depth}
use lib.ListN.{length}
use mathlib.Core.Path.{◌≡◌}
use Rattle.batch.proofs.all.turn_all.Given as goal

abbrev pub invariant-loop-i : goal.invariant-loop-i
invariant-loop-i l = (length l.answers ≡ length l.initial.answers) × (length l.row ≡ selection_depth) × cutting.Queue l.queries l.t l.i × turning.Turning (queries_of l.queries) l.list l.initial.answers l.initial.rows l.i l.w l.a l.answers l.rows
