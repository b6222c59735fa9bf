use Rattle.batch.proofs.Asking as asking
use Rattle.selection.proofs.Records as records
use Rattle.rules.proofs.Stored.Parts as parts
use Rattle.selection.proofs.Selections as selections
use mathlib.Core.Path.{refl, ◌∙◌}
use native.Mathlib.Omega.{arith}
use Rattle.batch.proofs.ask.keep.Goals as goal

pub loop-i-init : goal.loop-i-init
loop-i-init c = (refl, refl, records.from_start c.requires.1.records, selections.before_all c.args.list.now, asking.table_none c.args.table.now)

pub overflow_sub-from : goal.overflow_sub-from
overflow_sub-from c = let k = c.loop-i.invariant.2.left in omega arith

pub overflow_add-from : goal.overflow_add-from
overflow_add-from c = omega (arith, c.requires.1.long)

pub body-requires : goal.body-requires
body-requires c = selections.record_whole _ (selections.first_record _ (records.from_more c.loop-i.invariant.2 (omega (arith, c.requires.1.count))) c.loop-i.invariant.2.records)

pub ask-bits-requires : goal.ask-bits-requires
ask-bits-requires c =
    let w = selections.first_record _ (records.from_more c.loop-i.invariant.2 (omega (arith, c.requires.1.count))) c.loop-i.invariant.2.records in
    let k = c.loop-i.invariant.2.left in (
      c.requires.0,
      record { entries = rw c.body.ensures (selections.record_entries _ w); fits = selections.record_fits c.args.list.now c.loop-i.t.now c.body.ensures (selections.record_whole _ w) (omega arith) c.requires.1.long; before = c.loop-i.invariant.3; deep = omega (arith, c.loop-i.invariant.1) },
    )

pub put_big8-requires : goal.put_big8-requires
put_big8-requires c = omega arith

pub rest-t-requires : goal.rest-t-requires
rest-t-requires c = selections.record_whole _ (selections.first_record _ (records.from_more c.loop-i.invariant.2 (omega (arith, c.requires.1.count))) c.loop-i.invariant.2.records)

pub loop-i-preserved : goal.loop-i-preserved
loop-i-preserved c =
    let m = (records.from_more c.loop-i.invariant.2 (omega (arith, c.requires.1.count))) in
    let w = selections.first_record _ m c.loop-i.invariant.2.records in
    let k = c.loop-i.invariant.2.left in (
      c.table-1.given ∙ c.loop-i.invariant.0,
      c.ask-bits.auto.row ∙ c.loop-i.invariant.1,
      records.from_next c.loop-i.invariant.2 m c.rest-t.ensures (rw c.rest-t.ensures (parts.rest_shorter _ m)),
      selections.before_next c.args.list.now c.loop-i.t.now c.body.ensures (selections.record_whole _ w) (omega arith) c.rest-t.ensures c.ask-bits.ensures.before,
      asking.table_next c.loop-i.invariant.4 (omega arith) (omega arith) c.put_big8.ensures (rw (records.from_record c.loop-i.invariant.2 m c.body.ensures) c.ask-bits.ensures.told),
    )

pub returns : goal.returns
returns c = asking.table_most c.loop-i.invariant.4 (λ r k e. omega (arith, c.requires.1.count))
