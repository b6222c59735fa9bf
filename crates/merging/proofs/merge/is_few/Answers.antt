-- `merging::merge::is_few` meets its contract.
use Rattle.merging.proofs.Alike as alike
use Rattle.merging.proofs.Forms.{some_left, none_left}
use native.Mathlib.Omega.{arith}
use Rattle.merging.proofs.merge.is_few.Goals as goal

pub loop-init : goal.loop-init
loop-init c = alike.counting_start c.requires

pub returns-then-is_empty : goal.returns-then-is_empty
returns-then-is_empty c = alike.not_many c.loop.invariant (none_left _ _ c.is_empty.ensures c.if-is_empty.true)

pub rest-t-requires : goal.rest-t-requires
rest-t-requires c = (alike.counting_front c.loop.invariant (some_left _ _ c.is_empty.ensures c.if-is_empty.false)).whole

pub loop-preserved : goal.loop-preserved
loop-preserved c = alike.counting_next c.loop.invariant (some_left _ _ c.is_empty.ensures c.if-is_empty.false) (omega arith) _ c.rest-t.ensures

pub returns : goal.returns
returns c = alike.as_many c.loop.invariant (omega arith) _ c.is_empty-2.ensures
