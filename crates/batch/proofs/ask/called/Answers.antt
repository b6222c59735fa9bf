use Rattle.batch.proofs.Asking as asking
use Rattle.entries.proofs.Entries as entries
use Rattle.rules.proofs.Stored.Parts as parts
use Rattle.batch.proofs.ask.called.Goals as goal

pub loop-e-init : goal.loop-e-init
loop-e-init c = asking.calling_start c.requires.1

pub wanting-any-requires : goal.wanting-any-requires
wanting-any-requires c = (c.requires.0, asking.calling_first c.loop-e.invariant c.loop-e-test.true)

pub rest-e-requires : goal.rest-e-requires
rest-e-requires c = entries.entry_whole _ (asking.calling_first c.loop-e.invariant c.loop-e-test.true)

pub loop-e-smaller : goal.loop-e-smaller
loop-e-smaller c = rw c.rest-e.ensures (parts.rest_shorter _ c.loop-e-test.true)

pub loop-e-preserved : goal.loop-e-preserved
loop-e-preserved c = asking.calling_next c.loop-e.invariant c.loop-e-test.true c.wanting-any.result c.wanting-any.ensures c.rest-e.ensures

pub returns : goal.returns
returns c = asking.calling_end c.loop-e.invariant c.loop-e-test.false
