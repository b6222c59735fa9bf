use Prim.Native.Nat.{ℕ}
use Rattle.selection.proofs.Records as records
use Rattle.rules.proofs.Stored.Parts as parts
use Rattle.rules.specs.Answers.{selected}
use Rattle.rules.specs.Bytes.{big}
use Rattle.selection.proofs.Selections as selections
use Rattle.selection.specs.Select.{listed}
use lib.ListN.{length, drop}
use Rattle.numbers.specs.Laid.{Put}
use mathlib.Core.Bool.{true, cond}
use mathlib.Core.List.{List, [], ◌++◌}
use mathlib.Core.Path.{refl, ap, ◌∙◌}
use native.Mathlib.Omega.{arith}
use Rattle.batch.proofs.turn.Asking.fill.Goals.{then-is_chosen, else-is_chosen}
use Rattle.batch.proofs.turn.Asking.fill.Goals as goal

pub loop-i-init : goal.loop-i-init
loop-i-init c = let R = selections.ready c.args.self.now.query.now c.args.self.now.list.now c.requires.0.bytes c.args.self.now.sound in (refl, refl, records.from_start R.list.records, selections.filled_start (big 4) R c.args.rows.now)

pub body-requires : goal.body-requires
body-requires c = selections.record_whole _ (selections.first_record _ (records.from_more c.loop-i.invariant.2 (omega (arith, c.args.self.now.all))) c.loop-i.invariant.2.records)

pub is_chosen-requires : goal.is_chosen-requires
is_chosen-requires c =
    let R = selections.ready c.args.self.now.query.now c.args.self.now.list.now c.requires.0.bytes c.args.self.now.sound in
    let F = c.loop-i.invariant.2 in
    let m = (records.from_more c.loop-i.invariant.2 (omega (arith, c.args.self.now.all))) in (
      selections.stored_for R,
      rw c.body.ensures (selections.record_entries _ (selections.first_record _ m F.records)),
      omega arith,
      λ z. rw (← records.from_record F m c.body.ensures) (c.requires.0.column.at c.loop-i.i z (records.from_there F m)),
    )

pub overflow_cast-i : goal.overflow_cast-i
overflow_cast-i c = let R = selections.ready c.args.self.now.query.now c.args.self.now.list.now c.requires.0.bytes c.args.self.now.sound in omega (arith, R.list.long, (records.from_more c.loop-i.invariant.2 (omega (arith, c.args.self.now.all))))

pub put_big4-w-requires : goal.put_big4-w-requires
put_big4-w-requires c =
    let R = selections.ready c.args.self.now.query.now c.args.self.now.list.now c.requires.0.bytes c.args.self.now.sound in
    let h = selections.filled_room (big 4) R c.loop-i.invariant.3 (records.from_more c.loop-i.invariant.2 (omega (arith, c.args.self.now.all))) c.is_chosen.result c.body.ensures refl c.is_chosen.ensures (rw (selections.flat_rows true (listed (selected c.args.self.now.query.now c.args.self.now.list.now))) c.requires.2) in
    let k = rw c.if-is_chosen.true at h in
    omega arith

pub rest-t-requires : goal.rest-t-requires
rest-t-requires c = selections.record_whole _ (selections.first_record _ (records.from_more c.loop-i.invariant.2 (omega (arith, c.args.self.now.all))) c.loop-i.invariant.2.records)

pub loop-i-preserved : goal.loop-i-preserved
loop-i-preserved c =
    let R = selections.ready c.args.self.now.query.now c.args.self.now.list.now c.requires.0.bytes c.args.self.now.sound in
    let m = (records.from_more c.loop-i.invariant.2 (omega (arith, c.args.self.now.all))) in
    let P : Put c.loop-i.rows c.loop-i.w (cond c.is_chosen.result (big 4 c.loop-i.i) []) c.if-is_chosen.w c.if-is_chosen.rows = elim c.if-is_chosen.branch [
      | then-is_chosen w ↦ rw (w.if-is_chosen.true, w.rows-is, w.w-is) w.put_big4-w.ensures
      | else-is_chosen w ↦ rw (w.if-is_chosen.false, w.rows-is, w.w-is) (selections.no_put c.loop-i.rows c.loop-i.w)
    ] in (
      c.if-is_chosen.auto.rows ∙ c.loop-i.invariant.0,
      c.row-1.given ∙ c.loop-i.invariant.1,
      records.from_next c.loop-i.invariant.2 m c.rest-t.ensures (rw c.rest-t.ensures (parts.rest_shorter _ m)),
      selections.filled_next (big 4) R c.loop-i.invariant.3 m c.is_chosen.result c.body.ensures c.rest-t.ensures c.is_chosen.ensures P,
    )

pub returns : goal.returns
returns c = let R = selections.ready c.args.self.now.query.now c.args.self.now.list.now c.requires.0.bytes c.args.self.now.sound in let e = selections.flat_rows true (listed (selected c.args.self.now.query.now c.args.self.now.list.now)) in (selections.filled_count (big 4) R c.loop-i.invariant.3 (records.from_over c.loop-i.invariant.2 (omega (arith, c.args.self.now.all))) ∙ ap length e, selections.filled_end (big 4) R c.loop-i.invariant.3 (records.from_over c.loop-i.invariant.2 (omega (arith, c.args.self.now.all))) ∙ ap {B = List ℕ} (λ l. l ++ drop c.loop-i.w c.args.rows.now) e)
