-- `words::end_of` meets its contract. The loop's invariant: the word goes on so far, and what holds together ends here. Assumes nothing.
use Rattle.analysis.proofs.Seeking.{ending_starts, ending_run, ending_bridge, ending_breaks, ending_ends}
use borrow.Author.Tests.{not-true, not-false}
use Rattle.analysis.proofs.words.end_of.Goals as goal

pub loop-i-init : goal.loop-i-init
loop-i-init c = (ending_run _ (ending_starts _ _ _ c.requires.2 c.requires.0) c.run_end-i.ensures, c.run_end-i.ensures.stop)

pub returns-then-not-is_bridge : goal.returns-then-not-is_bridge
returns-then-not-is_bridge c = ending_breaks _ c.loop-i.invariant.0 c.loop-i.invariant.1 c.loop-i-test.true c.is_bridge.ensures (not-true _ c.if-not-is_bridge.true-raw)

pub loop-i-preserved : goal.loop-i-preserved
loop-i-preserved c = (ending_bridge _ c.loop-i.invariant.0 c.loop-i.invariant.1 c.loop-i-test.true c.is_bridge.ensures (not-false _ c.if-not-is_bridge.false-raw) c.run_end-i-in-loop-i.ensures, c.run_end-i-in-loop-i.ensures.stop)

pub returns : goal.returns
returns c = ending_ends _ c.loop-i.invariant.0 c.loop-i-test.false
