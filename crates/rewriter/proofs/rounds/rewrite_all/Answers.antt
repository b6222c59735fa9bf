-- `rewriter::rounds::rewrite_all` meets its contract.
use Rattle.rewriter.proofs.Settling as settling
use native.Mathlib.Omega.{arith}
use Rattle.rewriter.proofs.rounds.rewrite_all.Goals as goal

pub slice_bounds-weight-count : goal.slice_bounds-weight-count
slice_bounds-weight-count c = omega (arith, settling.at_low c.requires)

pub slice_bounds-weight-start : goal.slice_bounds-weight-start
slice_bounds-weight-start c = omega (arith, settling.at_low c.requires)

pub loop-left-init : goal.loop-left-init
loop-left-init c = settling.settling_start c.requires _ _ c.weight-left.ensures

pub rewrite_once-m-requires : goal.rewrite_once-m-requires
rewrite_once-m-requires c = settling.round_room c.loop-left.invariant

pub weight-w-requires : goal.weight-w-requires
weight-w-requires c = settling.round_stored c.loop-left.invariant _ _ c.rewrite_once-m.ensures

pub returns-then-w-left : goal.returns-then-w-left
returns-then-w-left c = settling.round_last c.loop-left.invariant _ _ c.rewrite_once-m.ensures _ c.weight-w.ensures c.if-w-left.true

pub loop-left-smaller : goal.loop-left-smaller
loop-left-smaller c = settling.lighter c.loop-left.invariant _ _ c.rewrite_once-m.ensures _ c.weight-w.ensures c.if-w-left.false

pub loop-left-preserved : goal.loop-left-preserved
loop-left-preserved c = settling.round_next c.loop-left.invariant _ _ c.rewrite_once-m.ensures _ c.weight-w.ensures c.if-w-left.false c.shift.ensures
