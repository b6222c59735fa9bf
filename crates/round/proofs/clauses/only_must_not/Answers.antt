-- `round::clauses::only_must_not` meets its contract.
use Rattle.merging.proofs.Forms.{some_left, none_left}
use Rattle.round.proofs.Tallies as tallies
use Rattle.rules.proofs.Stored.Parts as parts
use lib.ListN.{length}
use mathlib.Core.Path.{refl, ap}
use native.Mathlib.Omega.{arith}
use Rattle.round.proofs.clauses.only_must_not.Goals as goal

pub loop-t-init : goal.loop-t-init
loop-t-init c = record { all = c.requires; left = c.requires; same = refl }

pub returns-then-t-ne-MUST_NOT_TAG : goal.returns-then-t-ne-MUST_NOT_TAG
returns-then-t-ne-MUST_NOT_TAG c = tallies.negative_no c.loop-t.invariant (some_left _ _ c.is_empty.ensures c.loop-t-test.true) c.if-t-ne-MUST_NOT_TAG.true

pub rest-t-requires : goal.rest-t-requires
rest-t-requires c = (tallies.negative_front c.loop-t.invariant (some_left _ _ c.is_empty.ensures c.loop-t-test.true)).whole

pub loop-t-smaller : goal.loop-t-smaller
loop-t-smaller c = let l = ap length c.rest-t.ensures in omega (arith, parts.rest_shorter c.loop-t.t.now (some_left _ _ c.is_empty.ensures c.loop-t-test.true))

pub loop-t-preserved : goal.loop-t-preserved
loop-t-preserved c = tallies.negative_next c.loop-t.invariant (some_left _ _ c.is_empty.ensures c.loop-t-test.true) c.if-t-ne-MUST_NOT_TAG.false _ c.rest-t.ensures

pub returns : goal.returns
returns c = tallies.negative_end c.loop-t.invariant (none_left _ _ c.is_empty.ensures c.loop-t-test.false)
