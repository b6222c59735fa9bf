use Rattle.selection.proofs.Records as records
use Rattle.rules.proofs.Stored.Parts as parts
use Rattle.selection.proofs.Selections as selections
use lib.ListN.{length}
use mathlib.Core.Path.{refl, ap, ◌∙◌}
use native.Mathlib.Omega.{arith}
use Rattle.batch.proofs.turn.Asking.count.Goals as goal

pub loop-i-init : goal.loop-i-init
loop-i-init c = let R = selections.ready c.args.self.now.query.now c.args.self.now.list.now c.requires.0.bytes c.args.self.now.sound in (refl, omega arith, records.from_start R.list.records, λ x p. omega arith)

pub body-requires : goal.body-requires
body-requires c = selections.record_whole _ (selections.first_record _ (records.from_more c.loop-i.invariant.2 (omega (arith, c.args.self.now.all))) c.loop-i.invariant.2.records)

pub is_chosen-requires : goal.is_chosen-requires
is_chosen-requires c =
    let R = selections.ready c.args.self.now.query.now c.args.self.now.list.now c.requires.0.bytes c.args.self.now.sound in
    let F = c.loop-i.invariant.2 in
    let m = (records.from_more c.loop-i.invariant.2 (omega (arith, c.args.self.now.all))) in (
      selections.stored_for R,
      rw c.body.ensures (selections.record_entries _ (selections.first_record _ m F.records)),
      omega arith,
      λ z. rw (← records.from_record F m c.body.ensures) (c.requires.0.column.at c.loop-i.i z (records.from_there F m)),
    )

pub overflow_add-n : goal.overflow_add-n
overflow_add-n c = omega (arith, selections.byte_few c.is_chosen.result c.from-n.ensures)

pub rest-t-requires : goal.rest-t-requires
rest-t-requires c = selections.record_whole _ (selections.first_record _ (records.from_more c.loop-i.invariant.2 (omega (arith, c.args.self.now.all))) c.loop-i.invariant.2.records)

pub loop-i-preserved : goal.loop-i-preserved
loop-i-preserved c =
    let m = (records.from_more c.loop-i.invariant.2 (omega (arith, c.args.self.now.all))) in (
      c.row-1.given ∙ c.loop-i.invariant.0,
      omega (arith, selections.byte_few c.is_chosen.result c.from-n.ensures),
      records.from_next c.loop-i.invariant.2 m c.rest-t.ensures (rw c.rest-t.ensures (parts.rest_shorter _ m)),
      λ x p. selections.count_next c.loop-i.n _ c.loop-i.i c.is_chosen.result _ _ (selections.chosen_next c.args.self.now.query.now c.loop-i.t.now c.is_chosen.result m c.body.ensures c.rest-t.ensures c.is_chosen.ensures x p c.loop-i.i) (selections.byte_bit c.is_chosen.result c.from-n.ensures) (c.loop-i.invariant.3 x p),
    )

pub returns : goal.returns
returns c =
    let R = selections.ready c.args.self.now.query.now c.args.self.now.list.now c.requires.0.bytes c.args.self.now.sound in
    let I = c.loop-i.invariant.3 R.query.query R.query.is in
    rw (selections.numbers R) (omega (arith, ap length (selections.chosen_none c.loop-i.t.now (records.from_over c.loop-i.invariant.2 (omega (arith, c.args.self.now.all))) R.query.query c.loop-i.i)))
