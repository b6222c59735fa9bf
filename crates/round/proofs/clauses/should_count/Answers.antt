-- `round::clauses::should_count` meets its contract.
use Rattle.merging.proofs.Forms.{some_left, none_left}
use Rattle.round.proofs.Tallies as tallies
use Rattle.rules.proofs.Stored.Parts as parts
use lib.ListN.{length}
use mathlib.Core.Path.{ap}
use native.Mathlib.Omega.{arith}
use Rattle.round.proofs.clauses.should_count.Goals as goal

pub loop-t-init : goal.loop-t-init
loop-t-init c = record { all = c.requires; left = c.requires; count = omega arith; few = omega arith }

pub rest-t-requires : goal.rest-t-requires
rest-t-requires c = (tallies.counting_front c.loop-t.invariant (some_left _ _ c.is_empty.ensures c.loop-t-test.true)).whole

pub loop-t-smaller : goal.loop-t-smaller
loop-t-smaller c = let l = ap length c.rest-t.ensures in omega (arith, parts.rest_shorter c.loop-t.t.now (some_left _ _ c.is_empty.ensures c.loop-t-test.true))

pub loop-t-preserved : goal.loop-t-preserved
loop-t-preserved c = tallies.counting_next c.loop-t.invariant (some_left _ _ c.is_empty.ensures c.loop-t-test.true) _ c.from-n.ensures _ c.rest-t.ensures (let l = ap length c.rest-t.ensures in omega (arith, parts.rest_shorter c.loop-t.t.now (some_left _ _ c.is_empty.ensures c.loop-t-test.true)))

pub returns : goal.returns
returns c = (tallies.counting_end c.loop-t.invariant (none_left _ _ c.is_empty.ensures c.loop-t-test.false), omega (arith, c.loop-t.invariant.few))
