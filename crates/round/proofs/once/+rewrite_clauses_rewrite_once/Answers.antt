-- `round::once::rewrite_clauses` and `round::once::rewrite_once` meet their contracts. What is left to read falls at each call.
use Prim.Native.Nat.{◌+◌}
use Rattle.places.proofs.Standing as standing
use Rattle.round.proofs.Cycling as cycling
use Rattle.round.proofs.Nested as nested
use Rattle.rules.proofs.Stored.Parts as parts
use lib.ListN.{length, length-drop}
use mathlib.Core.Path.{refl}
use native.Mathlib.Omega.{arith}
use Rattle.round.proofs.once.+rewrite_clauses_rewrite_once.Goals as goal

pub rewrite_clauses-loop-t-init : goal.rewrite_clauses-loop-t-init
rewrite_clauses-loop-t-init t c = cycling.rewriting_start c.requires

pub rewrite_clauses-end_of-e-requires : goal.rewrite_clauses-end_of-e-requires
rewrite_clauses-end_of-e-requires t c = (omega arith, (cycling.here c.loop-t.invariant c.loop-t-test.true).part.whole)

pub rewrite_clauses-slice_bounds-rewrite_once-count : goal.rewrite_clauses-slice_bounds-rewrite_once-count
rewrite_clauses-slice_bounds-rewrite_once-count t c = omega (arith, cycling.child_low c.loop-t.invariant c.loop-t-test.true _ c.end_of-e.ensures.0)

pub rewrite_clauses-slice_bounds-rewrite_once-start : goal.rewrite_clauses-slice_bounds-rewrite_once-start
rewrite_clauses-slice_bounds-rewrite_once-start t c = omega (arith, cycling.child_low c.loop-t.invariant c.loop-t-test.true _ c.end_of-e.ensures.0)

pub rewrite_clauses-overflow_sub-t : goal.rewrite_clauses-overflow_sub-t
rewrite_clauses-overflow_sub-t t c = omega (arith, cycling.child_low c.loop-t.invariant c.loop-t-test.true _ c.end_of-e.ensures.0)

pub rewrite_clauses-rewrite_once-n-requires : goal.rewrite_clauses-rewrite_once-n-requires
rewrite_clauses-rewrite_once-n-requires t c = (let l = cycling.child_low c.loop-t.invariant c.loop-t-test.true _ c.end_of-e.ensures.0 in omega (arith, c.decreases, c.loop-t.invariant.low, c.loop-t.invariant.long, standing.within_length c.loop-t.room (c.loop-t.w + 3) _ l.0 l.3), cycling.child_room c.loop-t.invariant c.loop-t-test.true _ c.end_of-e.ensures.0)

pub rewrite_clauses-bounds-room-w : goal.rewrite_clauses-bounds-room-w
rewrite_clauses-bounds-room-w t c = (cycling.child_fits c.loop-t.invariant c.loop-t-test.true _ c.end_of-e.ensures.0 _ c.rewrite_once-n.ensures).0

pub rewrite_clauses-returns-then-is_needed : goal.rewrite_clauses-returns-then-is_needed
rewrite_clauses-returns-then-is_needed t c = cycling.child_dead c.loop-t.invariant c.loop-t-test.true _ c.end_of-e.ensures.0 _ c.rewrite_once-n.ensures c.if-room-w-ne-MATCH_NONE_TAG.false _ refl _ c.is_needed.ensures c.if-is_needed.true

pub rewrite_clauses-put_header-w-requires : goal.rewrite_clauses-put_header-w-requires
rewrite_clauses-put_header-w-requires t c = omega (arith, cycling.child_fits c.loop-t.invariant c.loop-t-test.true _ c.end_of-e.ensures.0 _ c.rewrite_once-n.ensures)

pub rewrite_clauses-overflow_add-w-then-room-w-ne-MATCH_NONE_TAG : goal.rewrite_clauses-overflow_add-w-then-room-w-ne-MATCH_NONE_TAG
rewrite_clauses-overflow_add-w-then-room-w-ne-MATCH_NONE_TAG t c = omega (arith, cycling.child_fits c.loop-t.invariant c.loop-t-test.true _ c.end_of-e.ensures.0 _ c.rewrite_once-n.ensures)

pub rewrite_clauses-overflow_add-w-then-room-w-ne-MATCH_NONE_TAG-2 : goal.rewrite_clauses-overflow_add-w-then-room-w-ne-MATCH_NONE_TAG-2
rewrite_clauses-overflow_add-w-then-room-w-ne-MATCH_NONE_TAG-2 t c = omega (arith, cycling.child_fits c.loop-t.invariant c.loop-t-test.true _ c.end_of-e.ensures.0 _ c.rewrite_once-n.ensures)

pub rewrite_clauses-loop-t-preserved : goal.rewrite_clauses-loop-t-preserved
rewrite_clauses-loop-t-preserved t c = cycling.child_skip c.loop-t.invariant c.loop-t-test.true _ c.end_of-e.ensures.0 _ c.rewrite_once-n.ensures c.if-room-w-ne-MATCH_NONE_TAG.false _ refl _ c.is_needed.ensures c.if-is_needed.false

pub rewrite_clauses-loop-t-preserved-then-room-w-ne-MATCH_NONE_TAG : goal.rewrite_clauses-loop-t-preserved-then-room-w-ne-MATCH_NONE_TAG
rewrite_clauses-loop-t-preserved-then-room-w-ne-MATCH_NONE_TAG t c = cycling.child_keep c.loop-t.invariant c.loop-t-test.true _ c.end_of-e.ensures.0 _ c.rewrite_once-n.ensures c.if-room-w-ne-MATCH_NONE_TAG.true _ refl c.put_header-w.ensures

pub rewrite_clauses-returns : goal.rewrite_clauses-returns
rewrite_clauses-returns t c = cycling.rewriting_end c.loop-t.invariant c.loop-t-test.false

pub rewrite_once-bounds-room-at : goal.rewrite_once-bounds-room-at
rewrite_once-bounds-room-at t c = omega (arith, nested.inside c.requires)

pub rewrite_once-phrase_over-requires : goal.rewrite_once-phrase_over-requires
rewrite_once-phrase_over-requires t c = nested.phrase_here c.requires c.in-2.is

pub rewrite_once-slice_bounds-big2-count : goal.rewrite_once-slice_bounds-big2-count
rewrite_once-slice_bounds-big2-count t c = omega (arith, nested.boolean_low c.requires c.in-3.is)

pub rewrite_once-slice_bounds-big2-start : goal.rewrite_once-slice_bounds-big2-start
rewrite_once-slice_bounds-big2-start t c = omega (arith, nested.boolean_low c.requires c.in-3.is)

pub rewrite_once-big2-least-requires : goal.rewrite_once-big2-least-requires
rewrite_once-big2-least-requires t c = rw (parts.cut_from (c.args.at + 6) c.args.room.now, length-drop) (omega (arith, nested.boolean_low c.requires c.in-3.is))

pub rewrite_once-slice_bounds-rewrite_clauses-count : goal.rewrite_once-slice_bounds-rewrite_clauses-count
rewrite_once-slice_bounds-rewrite_clauses-count t c = omega (arith, nested.boolean_low c.requires c.in-3.is)

pub rewrite_once-slice_bounds-rewrite_clauses-start : goal.rewrite_once-slice_bounds-rewrite_clauses-start
rewrite_once-slice_bounds-rewrite_clauses-start t c = omega (arith, nested.boolean_low c.requires c.in-3.is)

pub rewrite_once-rewrite_clauses-requires : goal.rewrite_once-rewrite_clauses-requires
rewrite_once-rewrite_clauses-requires t c = (let l = nested.boolean_low c.requires c.in-3.is in omega (arith, c.decreases, standing.within_length c.args.room.now 8 (length c.args.room.now) (omega arith) (omega arith)), nested.boolean_rooms c.requires c.in-3.is)

pub rewrite_once-put_none-requires : goal.rewrite_once-put_none-requires
rewrite_once-put_none-requires t c = omega (arith, nested.boolean_low c.requires c.in-3.is, nested.boolean_long c.requires c.in-3.is c.rewrite_clauses.new.room c.rewrite_clauses.auto.room)

pub rewrite_once-overflow_add-w : goal.rewrite_once-overflow_add-w
rewrite_once-overflow_add-w t c = omega (
  arith,
  (nested.boolean_live c.requires c.in-3.is _
      (rw c.in-Some.is at c.rewrite_clauses.ensures) _ c.big2-least.ensures).high,
  nested.boolean_long c.requires
      c.in-3.is c.rewrite_clauses.new.room c.rewrite_clauses.auto.room,
  c.well_formed.0,
)

pub rewrite_once-rewrite_boolean-requires : goal.rewrite_once-rewrite_boolean-requires
rewrite_once-rewrite_boolean-requires t c = nested.boolean_live c.requires c.in-3.is _ (rw c.in-Some.is at c.rewrite_clauses.ensures) _ c.big2-least.ensures

pub rewrite_once-slice_bounds-big4-count : goal.rewrite_once-slice_bounds-big4-count
rewrite_once-slice_bounds-big4-count t c = omega (arith, nested.boost_low c.requires c.in-4.is)

pub rewrite_once-slice_bounds-big4-start : goal.rewrite_once-slice_bounds-big4-start
rewrite_once-slice_bounds-big4-start t c = omega (arith, nested.boost_low c.requires c.in-4.is)

pub rewrite_once-big4-b-requires : goal.rewrite_once-big4-b-requires
rewrite_once-big4-b-requires t c = rw (parts.cut_from (c.args.at + 3) c.args.room.now, length-drop) (omega (arith, nested.boost_low c.requires c.in-4.is))

pub rewrite_once-slice_bounds-rewrite_once-count : goal.rewrite_once-slice_bounds-rewrite_once-count
rewrite_once-slice_bounds-rewrite_once-count t c = omega (arith, nested.boost_low c.requires c.in-4.is)

pub rewrite_once-slice_bounds-rewrite_once-start : goal.rewrite_once-slice_bounds-rewrite_once-start
rewrite_once-slice_bounds-rewrite_once-start t c = omega (arith, nested.boost_low c.requires c.in-4.is)

pub rewrite_once-rewrite_once-n-requires : goal.rewrite_once-rewrite_once-n-requires
rewrite_once-rewrite_once-n-requires t c = (let l = nested.boost_low c.requires c.in-4.is in omega (arith, c.decreases, standing.within_length c.args.room.now 7 (length c.args.room.now) (omega arith) (omega arith)), nested.boost_room c.requires c.in-4.is)

pub rewrite_once-finish_boost-requires : goal.rewrite_once-finish_boost-requires
rewrite_once-finish_boost-requires t c = nested.boost_inside c.requires c.in-4.is _ c.rewrite_once-n.ensures

pub rewrite_once-slice_bounds-rewrite_once-count-in-5 : goal.rewrite_once-slice_bounds-rewrite_once-count-in-5
rewrite_once-slice_bounds-rewrite_once-count-in-5 t c = omega (arith, nested.score_low c.requires c.in-5.is)

pub rewrite_once-slice_bounds-rewrite_once-start-in-5 : goal.rewrite_once-slice_bounds-rewrite_once-start-in-5
rewrite_once-slice_bounds-rewrite_once-start-in-5 t c = omega (arith, nested.score_low c.requires c.in-5.is)

pub rewrite_once-rewrite_once-n-requires-in-5 : goal.rewrite_once-rewrite_once-n-requires-in-5
rewrite_once-rewrite_once-n-requires-in-5 t c = (let l = nested.score_low c.requires c.in-5.is in omega (arith, c.decreases, standing.within_length c.args.room.now 3 (length c.args.room.now) (omega arith) (omega arith)), nested.score_room c.requires c.in-5.is)

pub rewrite_once-score_over-requires : goal.rewrite_once-score_over-requires
rewrite_once-score_over-requires t c = nested.score_inside c.requires c.in-5.is _ c.rewrite_once-n-in-5.ensures

pub rewrite_once-overflow_sub-n : goal.rewrite_once-overflow_sub-n
rewrite_once-overflow_sub-n t c = omega (arith, nested.inside c.requires)

pub rewrite_once-shift-requires : goal.rewrite_once-shift-requires
rewrite_once-shift-requires t c = omega (arith, nested.inside c.requires)

pub rewrite_once-returns-in-2 : goal.rewrite_once-returns-in-2
rewrite_once-returns-in-2 t c = nested.phrase_done c.requires c.in-2.is _ c.phrase_over.ensures

pub rewrite_once-returns-in-None : goal.rewrite_once-returns-in-None
rewrite_once-returns-in-None t c = nested.boolean_dead c.requires c.in-3.is c.rewrite_clauses.new.room c.rewrite_clauses.auto.room _ (rw c.in-None.is at c.rewrite_clauses.ensures) c.put_none.ensures

pub rewrite_once-returns-in-Some : goal.rewrite_once-returns-in-Some
rewrite_once-returns-in-Some t c = nested.boolean_done c.requires c.in-3.is _ (rw c.in-Some.is at c.rewrite_clauses.ensures) _ c.big2-least.ensures c.rewrite_boolean.ensures

pub rewrite_once-returns-in-4 : goal.rewrite_once-returns-in-4
rewrite_once-returns-in-4 t c = nested.boost_done c.requires c.in-4.is _ c.rewrite_once-n.ensures _ c.big4-b.ensures c.finish_boost.ensures

pub rewrite_once-returns-in-5 : goal.rewrite_once-returns-in-5
rewrite_once-returns-in-5 t c = nested.score_done c.requires c.in-5.is _ c.rewrite_once-n-in-5.ensures c.score_over.ensures

pub rewrite_once-returns-in_default : goal.rewrite_once-returns-in_default
rewrite_once-returns-in_default t c = nested.plain_done c.requires _ (λ z. omega (arith, z)) (λ z. omega (arith, z)) (λ z. omega (arith, z)) (λ z. omega (arith, z)) c.shift.ensures
