use Rattle.batch.proofs.Cutting as cutting
use Rattle.rules.proofs.Bools as bools
use Rattle.rules.proofs.Stored.Cutting as cuts
use native.Mathlib.Omega.{arith}
use Rattle.batch.proofs.cut.cut_all.Goals as goal

pub loop-t-init : goal.loop-t-init
loop-t-init c = cutting.counted_start c.args.s.now

pub returns-then-not-is_first : goal.returns-then-not-is_first
returns-then-not-is_first c = cutting.counted_bad c.loop-t.invariant c.loop-t-test.true (bools.told_no c.is_first.ensures c.if-not-is_first.true-raw)

pub overflow_add-n : goal.overflow_add-n
overflow_add-n c = omega arith

pub others-t-requires : goal.others-t-requires
others-t-requires c = bools.told_yes c.is_first.ensures c.if-not-is_first.false-raw

pub loop-t-smaller : goal.loop-t-smaller
loop-t-smaller c = rw c.others-t.ensures (cuts.others_shorter _ c.loop-t-test.true)

pub loop-t-preserved : goal.loop-t-preserved
loop-t-preserved c = cutting.counted_next c.loop-t.invariant c.loop-t-test.true (bools.told_yes c.is_first.ensures c.if-not-is_first.false-raw) c.others-t.ensures

pub returns-then-n-gt-QUERIES_MOST : goal.returns-then-n-gt-QUERIES_MOST
returns-then-n-gt-QUERIES_MOST c = cutting.counted_many c.loop-t.invariant c.loop-t-test.false c.if-n-gt-QUERIES_MOST.true

pub returns : goal.returns
returns c = cutting.counted_few c.loop-t.invariant c.loop-t-test.false c.if-n-gt-QUERIES_MOST.false
