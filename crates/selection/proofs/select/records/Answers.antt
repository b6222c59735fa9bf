-- `selection::select::records` meets its contract.
use Rattle.rules.proofs.Stored.Parts as parts
use Rattle.selection.proofs.Selections as selections
use lib.ListN.{length}
use mathlib.Core.Path.{ap}
use native.Mathlib.Omega.{arith}
use Rattle.selection.proofs.select.records.Goals as goal

pub loop-t-init : goal.loop-t-init
loop-t-init c = (c.requires, omega arith, omega arith)

pub overflow_add-n : goal.overflow_add-n
overflow_add-n c = omega arith

pub rest-t-requires : goal.rest-t-requires
rest-t-requires c = selections.record_whole _ (selections.first_record _ c.loop-t-test.true c.loop-t.invariant.0)

pub loop-t-smaller : goal.loop-t-smaller
loop-t-smaller c = rw c.rest-t.ensures (parts.rest_shorter _ c.loop-t-test.true)

pub loop-t-preserved : goal.loop-t-preserved
loop-t-preserved c = (rw c.rest-t.ensures (selections.other_records _ c.loop-t-test.true c.loop-t.invariant.0), (let l = ap length c.rest-t.ensures in omega (arith, parts.rest_shorter c.loop-t.t.now c.loop-t-test.true)), (omega (arith, ap length (selections.one_record c.loop-t.t.now c.loop-t-test.true c.rest-t.ensures))))

pub returns : goal.returns
returns c = omega (arith, ap length (selections.no_records c.loop-t.t.now c.loop-t-test.false))
