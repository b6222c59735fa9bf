use Prim.Native.Nat.{ℕ}
use Rattle.numbers.specs.Laid.{Put}
use Rattle.rules.proofs.Stored.Parts as parts
use Rattle.rules.specs.Answers.{selected}
use Rattle.selection.proofs.Records as records
use Rattle.selection.proofs.Selections as selections
use Rattle.selection.specs.Select.{listed, coded, filled}
use lib.ListN.{length, drop}
use mathlib.Core.Bool.{cond}
use mathlib.Core.List.{List, [], ◌++◌}
use mathlib.Core.Path.{refl, ap, ◌∙◌}
use native.Mathlib.Nat.{zero-add}
use native.Mathlib.Omega.{arith}
use Rattle.selection.proofs.select.Checked.fill.Goals.{then-is_chosen, else-is_chosen}
use Rattle.selection.proofs.select.Checked.fill.Goals as goal

pub prepare-requires : goal.prepare-requires
prepare-requires c = (rw c.new-question.ensures.query (selections.stored_for (selections.ready c.args.self.now.query.now c.args.self.now.list.now c.requires.0 c.args.self.now.sound)), c.new-question.ensures.clean)

pub loop-i-init : goal.loop-i-init
loop-i-init c = let R = selections.ready c.args.self.now.query.now c.args.self.now.list.now c.requires.0 c.args.self.now.sound in (
  refl,
  refl,
  selections.going_start c.args.self.now.list.now (rw c.new-question.ensures.query at c.prepare.ensures),
  records.from_start R.list.records,
  selections.filled_start (coded c.args.in_bytes) R (filled c.args.in_bytes c.args.rows.now c.args.bytes.now),
)

pub overflow_sub-from : goal.overflow_sub-from
overflow_sub-from c = let k = c.loop-i.invariant.3.left in omega arith

pub overflow_add-from : goal.overflow_add-from
overflow_add-from c = let R = selections.ready c.args.self.now.query.now c.args.self.now.list.now c.requires.0 c.args.self.now.sound in omega (arith, R.list.long)

pub body-requires : goal.body-requires
body-requires c = selections.record_whole _ (selections.first_record _ (records.from_more c.loop-i.invariant.3 (omega (arith, c.args.self.now.all))) c.loop-i.invariant.3.records)

pub is_chosen-requires : goal.is_chosen-requires
is_chosen-requires c = let R = selections.ready c.args.self.now.query.now c.args.self.now.list.now c.requires.0 c.args.self.now.sound in let k = c.loop-i.invariant.3.left in (
  c.loop-i.invariant.2.prepared,
  selections.ready_record _ R (records.from_more c.loop-i.invariant.3 (omega (arith, c.args.self.now.all))) c.loop-i.invariant.3.records c.body.ensures (omega arith) c.loop-i.invariant.2.before,
)

pub overflow_cast-i : goal.overflow_cast-i
overflow_cast-i c = let R = selections.ready c.args.self.now.query.now c.args.self.now.list.now c.requires.0 c.args.self.now.sound in let k = c.loop-i.invariant.3.left in omega (arith, R.list.long)

pub overflow_add-i : goal.overflow_add-i
overflow_add-i c = let R = selections.ready c.args.self.now.query.now c.args.self.now.list.now c.requires.0 c.args.self.now.sound in let k = c.loop-i.invariant.3.left in omega (arith, R.list.long)

pub put-w-requires : goal.put-w-requires
put-w-requires c =
    let R = selections.ready c.args.self.now.query.now c.args.self.now.list.now c.requires.0 c.args.self.now.sound in
    let h = selections.filled_room (coded c.args.in_bytes) R c.loop-i.invariant.4 (records.from_more c.loop-i.invariant.3 (omega (arith, c.args.self.now.all))) c.is_chosen.result c.body.ensures refl
    (selections.going_truth c.loop-i.invariant.2 c.is_chosen.ensures)
    (omega (arith, c.requires.1, ap length (selections.flat_rows c.args.in_bytes (listed (selected c.args.self.now.query.now c.args.self.now.list.now))))) in
    let k = rw c.if-is_chosen.true at h in
    rw zero-add k

pub rest-t-requires : goal.rest-t-requires
rest-t-requires c = selections.record_whole _ (selections.first_record _ (records.from_more c.loop-i.invariant.3 (omega (arith, c.args.self.now.all))) c.loop-i.invariant.3.records)

pub loop-i-preserved : goal.loop-i-preserved
loop-i-preserved c =
    let R = selections.ready c.args.self.now.query.now c.args.self.now.list.now c.requires.0 c.args.self.now.sound in
    let m = (records.from_more c.loop-i.invariant.3 (omega (arith, c.args.self.now.all))) in
    let k = c.loop-i.invariant.3.left in
    let P : Put (filled c.args.in_bytes c.loop-i.rows c.loop-i.bytes) c.loop-i.w (cond c.is_chosen.result (coded c.args.in_bytes c.loop-i.i) []) c.if-is_chosen.w (filled c.args.in_bytes c.if-is_chosen.rows c.if-is_chosen.bytes) = elim c.if-is_chosen.branch [
      | then-is_chosen w ↦ rw (w.if-is_chosen.true, w.rows-is, w.bytes-is, w.w-is) (rw zero-add at w.put-w.ensures)
      | else-is_chosen w ↦ rw (w.if-is_chosen.false, w.rows-is, w.bytes-is, w.w-is) (selections.no_put (filled c.args.in_bytes c.loop-i.rows c.loop-i.bytes) c.loop-i.w)
    ] in (
      c.if-is_chosen.auto.rows ∙ c.loop-i.invariant.0,
      c.if-is_chosen.auto.bytes ∙ c.loop-i.invariant.1,
      selections.going_next c.loop-i.invariant.2 c.is_chosen.ensures (selections.before_next c.args.self.now.list.now c.loop-i.t.now c.body.ensures
          (selections.record_whole _ (selections.first_record _ m c.loop-i.invariant.3.records)) (omega arith) c.rest-t.ensures),
      records.from_next c.loop-i.invariant.3 m c.rest-t.ensures (rw c.rest-t.ensures (parts.rest_shorter _ m)),
      selections.filled_next (coded c.args.in_bytes) R c.loop-i.invariant.4 m c.is_chosen.result c.body.ensures c.rest-t.ensures (selections.going_truth c.loop-i.invariant.2 c.is_chosen.ensures) P,
    )

pub returns : goal.returns
returns c =
    let R = selections.ready c.args.self.now.query.now c.args.self.now.list.now c.requires.0 c.args.self.now.sound in
    let e = selections.flat_rows c.args.in_bytes (listed (selected c.args.self.now.query.now c.args.self.now.list.now)) in (
      selections.filled_count (coded c.args.in_bytes) R c.loop-i.invariant.4 (records.from_over c.loop-i.invariant.3 (omega (arith, c.args.self.now.all))) ∙ ap length e,
      selections.filled_end (coded c.args.in_bytes) R c.loop-i.invariant.4 (records.from_over c.loop-i.invariant.3 (omega (arith, c.args.self.now.all))) ∙ ap {B = List ℕ} (λ l. l ++ drop c.loop-i.w (filled c.args.in_bytes c.args.rows.now c.args.bytes.now)) e,
    )
