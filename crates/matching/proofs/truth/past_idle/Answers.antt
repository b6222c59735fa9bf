use Rattle.matching.proofs.Walks as walks
use Rattle.rules.proofs.Stored.Parts as parts
use Rattle.matching.proofs.truth.past_idle.Goals as goal

pub loop-t-init : goal.loop-t-init
loop-t-init c = walks.passed_none _ _ _ _ _ c.requires.1 c.requires.2

pub is_idle-requires : goal.is_idle-requires
is_idle-requires c = (walks.passed_stored c.loop-t.invariant c.loop-t-test.true c.requires.2 c.requires.0, c.loop-t-test.true, c.requires.3)

pub rest-t-requires : goal.rest-t-requires
rest-t-requires c = walks.passed_whole c.loop-t.invariant c.loop-t-test.true c.requires.2 c.requires.0

pub loop-t-smaller : goal.loop-t-smaller
loop-t-smaller c = rw c.rest-t.ensures (parts.rest_shorter _ c.loop-t-test.true)

pub loop-t-preserved : goal.loop-t-preserved
loop-t-preserved c = walks.passed_next c.loop-t.invariant c.loop-t-test.true c.requires.2 c.requires.0 (c.is_idle.ensures (let e = c.if-not-is_idle.false in e)) c.rest-t.ensures

pub returns : goal.returns
returns c = c.loop-t.invariant.past
