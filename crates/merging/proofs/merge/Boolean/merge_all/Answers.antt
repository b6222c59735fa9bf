-- `merging::merge::Boolean::merge_all` meets its contract.
use Rattle.merging.proofs.Merging as merging
use Rattle.merging.proofs.Placed as placed
use mathlib.Core.Path.{refl}
use native.Mathlib.Omega.{arith}
use Rattle.merging.proofs.merge.Boolean.merge_all.Goals as goal

pub loop-t-init : goal.loop-t-init
loop-t-init c = merging.merging_start _ _ _ c.requires.0 c.requires.1

pub end_of-e-requires : goal.end_of-e-requires
end_of-e-requires c = (let l = merging.inside c.loop-t.invariant in omega arith, (merging.here c.loop-t.invariant c.loop-t-test.true).part.whole)

pub first_of-m-requires : goal.first_of-m-requires
first_of-m-requires c = (record { query = (merging.here c.loop-t.invariant c.loop-t-test.true).query; is = placed.clause_is (merging.here c.loop-t.invariant c.loop-t-test.true) _ c.end_of-e.ensures.0 }, omega arith)

pub eat_others-a-requires : goal.eat_others-a-requires
eat_others-a-requires c = (merging.eatable c.loop-t.invariant c.loop-t-test.true _ c.end_of-e.ensures.0 _ refl _ _ _ c.first_of-m.ensures, merging.others_alone c.loop-t.invariant c.loop-t-test.true _ c.end_of-e.ensures.0 _ refl _ _ _ c.first_of-m.ensures)

pub overflow_sub-e : goal.overflow_sub-e
overflow_sub-e c = omega (arith, (merging.eatable c.loop-t.invariant c.loop-t-test.true _ c.end_of-e.ensures.0 _ refl _ _ _ c.first_of-m.ensures).low)

pub overflow_add-w : goal.overflow_add-w
overflow_add-w c = omega (
  arith,
  merging.near c.loop-t.invariant c.loop-t-test.true _
      c.end_of-e.ensures.0 _ refl _ _ _ c.first_of-m.ensures c.eat_others-a.ensures (omega (arith, c.eat_others-a.auto.room)) _
      c.merged_size.ensures,
  (merging.way_room c.loop-t.invariant c.loop-t-test.true _
      c.end_of-e.ensures.0 _ refl _ _ _ c.first_of-m.ensures c.eat_others-a.ensures (omega (arith, c.eat_others-a.auto.room)) _
      c.merged_size.ensures).0,
  c.loop-t.invariant.small,
)

pub make_way-g-requires : goal.make_way-g-requires
make_way-g-requires c = merging.way_room c.loop-t.invariant c.loop-t-test.true _ c.end_of-e.ensures.0 _ refl _ _ _ c.first_of-m.ensures c.eat_others-a.ensures (omega (arith, c.eat_others-a.auto.room)) _ c.merged_size.ensures

pub put_merged-w-requires : goal.put_merged-w-requires
put_merged-w-requires c = merging.put_room c.loop-t.invariant c.loop-t-test.true _
    c.end_of-e.ensures.0 _ refl _ _ _ c.first_of-m.ensures
    c.eat_others-a.ensures (omega (arith, c.eat_others-a.auto.room)) _ c.merged_size.ensures
    c.make_way-g.ensures (omega (arith, c.make_way-g.auto.room))

pub loop-t-smaller : goal.loop-t-smaller
loop-t-smaller c = omega (
  arith,
  merging.further c.loop-t.invariant c.loop-t-test.true _
      c.end_of-e.ensures.0 _ refl _ _ _ c.first_of-m.ensures
      c.eat_others-a.ensures (omega (arith, c.eat_others-a.auto.room)) _ c.merged_size.ensures
      c.make_way-g.ensures (omega (arith, c.make_way-g.auto.room)),
)

pub loop-t-preserved : goal.loop-t-preserved
loop-t-preserved c = merging.merge_next c.loop-t.invariant c.loop-t-test.true _
    c.end_of-e.ensures.0 _ refl _ _ _ c.first_of-m.ensures
    c.eat_others-a.ensures (omega (arith, c.eat_others-a.auto.room)) _ c.merged_size.ensures
    c.make_way-g.ensures (omega (arith, c.make_way-g.auto.room)) c.put_merged-w.ensures

pub returns : goal.returns
returns c = merging.merging_end c.loop-t.invariant c.loop-t-test.false
