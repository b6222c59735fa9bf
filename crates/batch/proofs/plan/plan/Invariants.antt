use Rattle.batch.proofs.Cutting as cutting
use Rattle.batch.specs.Cut.{queries_of}
use Rattle.batch.specs.Plan.{Planned}
use Rattle.rules.specs.Numbers.{queries_most}
use lib.ListN.{length}
use mathlib.Core.Path.{◌≡◌}
use Rattle.batch.proofs.plan.plan.Given as goal

abbrev pub invariant-loop-i : goal.invariant-loop-i
invariant-loop-i l = (length l.faults ≡ queries_most) × cutting.Queue l.queries l.t l.i × Planned (queries_of l.queries) l.i l.faults l.masks
