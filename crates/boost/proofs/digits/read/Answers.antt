-- `boost::digits::read` meets its contract. Assumes nothing.
use Rattle.std.proofs.Common.{arith}
use Rattle.boost.proofs.Runs.{stop, count_first, count_next, counted, counted_within}
use Rattle.boost.proofs.digits.read.Goals as goal
use Rattle.boost.proofs.digits.read.Goals.{in_default, in_default-2, in_default-3}

pub loop-rest-init : goal.loop-rest-init
loop-rest-init c = count_first c.args.s.now c.args.start

pub loop-rest-preserved : goal.loop-rest-preserved
loop-rest-preserved c = count_next c.args.s.now c.loop-rest.rest.now c.args.start c.loop-rest.v c.one_more-v.result _ c.loop-rest.invariant (omega arith) (omega arith) (omega arith) c.one_more-v.ensures.0 c.one_more-v.ensures.1 (omega arith)

pub slice_bounds-result-count : goal.slice_bounds-result-count
slice_bounds-result-count c = counted_within c.args.s.now c.loop-rest.rest.now c.args.start c.loop-rest.v c.loop-rest.invariant
    (stop c.loop-rest.rest.now (λ l h k. elim c.if-rest-lt1.branch [ in_default w ↦ omega arith | in_default-2 w ↦ omega arith | in_default-3 w ↦ omega arith ]))

pub returns : goal.returns
returns c = counted c.args.s.now c.loop-rest.rest.now c.args.start c.loop-rest.v c.loop-rest.invariant
    (stop c.loop-rest.rest.now (λ l h k. elim c.if-rest-lt1.branch [ in_default w ↦ omega arith | in_default-2 w ↦ omega arith | in_default-3 w ↦ omega arith ])) c.min.result c.min.ensures
