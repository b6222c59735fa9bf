use Rattle.rules.proofs.Stored.Parts as parts
use Rattle.selection.proofs.Records as records
use Rattle.selection.proofs.Selections as selections
use lib.ListN.{length}
use mathlib.Core.Path.{ap}
use native.Mathlib.Omega.{arith}
use Rattle.selection.proofs.select.Checked.count.Goals as goal

pub prepare-requires : goal.prepare-requires
prepare-requires c = (rw c.new-question.ensures.query (selections.stored_for (selections.ready c.args.self.now.query.now c.args.self.now.list.now c.requires c.args.self.now.sound)), c.new-question.ensures.clean)

pub loop-i-init : goal.loop-i-init
loop-i-init c = let R = selections.ready c.args.self.now.query.now c.args.self.now.list.now c.requires c.args.self.now.sound in (
  omega arith,
  records.from_start R.list.records,
  λ x p. omega arith,
  selections.going_start c.args.self.now.list.now (rw c.new-question.ensures.query at c.prepare.ensures),
)

pub overflow_sub-from : goal.overflow_sub-from
overflow_sub-from c = let k = c.loop-i.invariant.1.left in omega arith

pub overflow_add-from : goal.overflow_add-from
overflow_add-from c = let R = selections.ready c.args.self.now.query.now c.args.self.now.list.now c.requires c.args.self.now.sound in omega (arith, R.list.long)

pub body-requires : goal.body-requires
body-requires c = selections.record_whole _ (selections.first_record _ (records.from_more c.loop-i.invariant.1 (omega (arith, c.args.self.now.all))) c.loop-i.invariant.1.records)

pub is_chosen-requires : goal.is_chosen-requires
is_chosen-requires c = let R = selections.ready c.args.self.now.query.now c.args.self.now.list.now c.requires c.args.self.now.sound in let k = c.loop-i.invariant.1.left in (
  c.loop-i.invariant.3.prepared,
  selections.ready_record _ R (records.from_more c.loop-i.invariant.1 (omega (arith, c.args.self.now.all))) c.loop-i.invariant.1.records c.body.ensures (omega arith) c.loop-i.invariant.3.before,
)

pub overflow_add-n : goal.overflow_add-n
overflow_add-n c = omega (arith, selections.byte_few c.is_chosen.result c.from-n.ensures)

pub rest-t-requires : goal.rest-t-requires
rest-t-requires c = selections.record_whole _ (selections.first_record _ (records.from_more c.loop-i.invariant.1 (omega (arith, c.args.self.now.all))) c.loop-i.invariant.1.records)

pub loop-i-preserved : goal.loop-i-preserved
loop-i-preserved c =
    let m = (records.from_more c.loop-i.invariant.1 (omega (arith, c.args.self.now.all))) in
    let k = c.loop-i.invariant.1.left in (
      omega (arith, selections.byte_few c.is_chosen.result c.from-n.ensures),
      records.from_next c.loop-i.invariant.1 m c.rest-t.ensures (rw c.rest-t.ensures (parts.rest_shorter _ m)),
      λ x p. selections.count_next c.loop-i.n _ c.loop-i._i c.is_chosen.result _ _
          (selections.chosen_next c.args.self.now.query.now c.loop-i.t.now c.is_chosen.result m c.body.ensures c.rest-t.ensures (selections.going_truth c.loop-i.invariant.3 c.is_chosen.ensures) x p c.loop-i._i)
          (selections.byte_bit c.is_chosen.result c.from-n.ensures) (c.loop-i.invariant.2 x p),
      selections.going_next c.loop-i.invariant.3 c.is_chosen.ensures (selections.before_next c.args.self.now.list.now c.loop-i.t.now c.body.ensures
          (selections.record_whole _ (selections.first_record _ m c.loop-i.invariant.1.records)) (omega arith) c.rest-t.ensures),
    )

pub returns : goal.returns
returns c =
    let R = selections.ready c.args.self.now.query.now c.args.self.now.list.now c.requires c.args.self.now.sound in
    let I = c.loop-i.invariant.2 R.query.query R.query.is in
    rw (selections.numbers R) (omega (arith, ap length (selections.chosen_none c.loop-i.t.now (records.from_over c.loop-i.invariant.1 (omega (arith, c.args.self.now.all))) R.query.query c.loop-i._i)))
