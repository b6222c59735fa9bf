use Rattle.batch.proofs.Cutting as cutting
use Rattle.batch.proofs.Turning as turning
use Rattle.batch.specs.Cut.{queries_of}
use Rattle.rules.proofs.Stored.Parts as parts
use Rattle.selection.proofs.Selections as selections
use mathlib.Core.Path.{refl, sym, ◌∙◌}
use native.Mathlib.Omega.{arith}
use Rattle.batch.proofs.all.turn_all.Goals as goal

pub loop-i-init : goal.loop-i-init
loop-i-init c = (refl, refl, cutting.queue_start c.requires.0, turning.turning_start (queries_of c.args.queries.now) c.args.list.now c.args.answers.now c.args.rows.now)

pub first-requires : goal.first-requires
first-requires c = cutting.queue_first c.requires.0 c.loop-i.invariant.2 (omega arith)

pub turn-s-requires : goal.turn-s-requires
turn-s-requires c =
    let q = cutting.queue_query c.requires.0 c.loop-i.invariant.2 (omega arith) c.first.ensures in
    let K = c.requires.1.known c.loop-i.i (omega arith) in (
      rw q K,
      c.requires.2,
      record { long = c.requires.4; bits = (omega arith); deep = omega (arith, c.loop-i.invariant.1) },
      λ z n v. rw q (turning.column c.args.queries.now (c.requires.1.holds n v) c.loop-i.i (omega arith) (selections.sound _ (sym z ∙ K))),
    )

pub tell-a-requires : goal.tell-a-requires
tell-a-requires c = ((omega arith), c.turn-s.ensures.few)

pub overflow_mul-w : goal.overflow_mul-w
overflow_mul-w c = omega (arith, turning.unwrapped c.turn-s.result c.unwrap_or.ensures, c.turn-s.ensures.few)

pub overflow_add-w : goal.overflow_add-w
overflow_add-w c = omega (arith, turning.unwrapped c.turn-s.result c.unwrap_or.ensures, c.turn-s.ensures.few)

pub others-t-requires : goal.others-t-requires
others-t-requires c = cutting.queue_first c.requires.0 c.loop-i.invariant.2 (omega arith)

pub loop-i-preserved : goal.loop-i-preserved
loop-i-preserved c =
    let q = cutting.queue_query c.requires.0 c.loop-i.invariant.2 (omega arith) c.first.ensures in (
      c.tell-a.auto.answers ∙ c.loop-i.invariant.0,
      c.turn-s.auto.row ∙ c.loop-i.invariant.1,
      cutting.queue_next c.requires.0 c.loop-i.invariant.2 (omega arith) c.others-t.ensures,
      turning.turning_next c.loop-i.invariant.3 (let k = c.requires.0.count in omega arith) q (rw parts.cut_from at c.turn-s.ensures) (rw parts.cut_from at c.turn-s.auto.rows)
          (turning.lent_rest _ _ c.loop-i.w c.loop-i.invariant.3.within) c.tell-a.ensures
          (omega (arith, turning.unwrapped c.turn-s.result c.unwrap_or.ensures, turning.told_written c.turn-s.result)) c.turn-s.ensures.few (omega arith),
    )

pub returns : goal.returns
returns c = turning.turning_end c.requires.0 c.loop-i.invariant.3 (omega arith) (omega arith)
