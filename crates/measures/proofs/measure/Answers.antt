-- `measures::measure` meets its contract.
use Rattle.measures.proofs.Walking as walking
use native.Mathlib.Omega.{arith}
use Rattle.measures.proofs.measure.Goals as goal

pub loop-t-init : goal.loop-t-init
loop-t-init c = walking.start c.args.s.now c.requires

pub least-requires : goal.least-requires
least-requires c = (walking.some_left _ c.is_empty.ensures c.loop-t-test.true, (walking.header _ _ _ _ c.loop-t.invariant (walking.some_left _ c.is_empty.ensures c.loop-t-test.true)).room)

pub onward-t-requires : goal.onward-t-requires
onward-t-requires c = let T = walking.header _ _ _ _ c.loop-t.invariant (walking.some_left _ c.is_empty.ensures c.loop-t-test.true) in (T.three, T.long)

pub loop-t-preserved : goal.loop-t-preserved
loop-t-preserved c = walking.turned _ _ _ _ c.loop-t.invariant (walking.some_left _ c.is_empty.ensures c.loop-t-test.true) c.onward-t.ensures (omega (arith, c.worth.ensures.0)) (omega (arith, c.least.ensures.0))

pub returns-clause-weighs : goal.returns-clause-weighs
returns-clause-weighs c = walking.weighed _ _ _ _ c.loop-t.invariant (walking.none_left _ c.is_empty.ensures c.loop-t-test.false)

pub returns-clause-largest : goal.returns-clause-largest
returns-clause-largest c = walking.measured _ _ _ _ c.loop-t.invariant (walking.none_left _ c.is_empty.ensures c.loop-t-test.false)
