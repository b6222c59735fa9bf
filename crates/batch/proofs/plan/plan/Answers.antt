use Rattle.batch.proofs.Cutting as cutting
use Rattle.batch.proofs.Planning as planning
use lib.ListN.{length-set}
use native.Mathlib.Omega.{arith}
use Rattle.std.proofs.Common.{rules}
use Rattle.batch.proofs.plan.plan.Goals as goal

pub loop-i-init : goal.loop-i-init
loop-i-init c = (search rules, cutting.queue_start c.requires.0, planning.planned_none (search rules) c.requires.1)

pub first-q-requires : goal.first-q-requires
first-q-requires c = cutting.queue_first c.requires.0 c.loop-i.invariant.1 (omega arith)

pub plan_query-requires : goal.plan_query-requires
plan_query-requires c = (c.for_selection-fault.ensures, planning.planned_room c.loop-i.invariant.2 (omega arith))

pub others-t-requires : goal.others-t-requires
others-t-requires c = cutting.queue_first c.requires.0 c.loop-i.invariant.1 (omega arith)

pub loop-i-preserved : goal.loop-i-preserved
loop-i-preserved c = (
  simp length-set c.loop-i.invariant.0,
  cutting.queue_next c.requires.0 c.loop-i.invariant.1 (omega arith) c.others-t.ensures,
  planning.planned_next c.loop-i.invariant.2 (omega arith) (cutting.queue_query c.requires.0 c.loop-i.invariant.1 (omega arith) c.first-q.ensures) c.for_selection-fault.ensures c.plan_query.ensures,
)

pub returns : goal.returns
returns c = planning.planned_all c.loop-i.invariant.2 (omega arith) (omega arith)
