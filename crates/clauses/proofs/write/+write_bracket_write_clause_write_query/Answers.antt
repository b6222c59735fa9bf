-- `clauses::write::write_bracket`, `write_clause` and `write_query` call each other and meet their contracts: unread tokens fall, then a call rank.
use Prim.Native.Nat.{ℕ, ◌+◌, ◌-◌, ◌≤◌}
use Rattle.clauses.proofs.Fronts.{put_empty, size_most, boost_room}
use Rattle.clauses.proofs.Going.{body_near, body_after, Turned, going_room, going_start, going_last, going_wide, going_clause, going_nothing, going_made, going_alone, going_ends}
use Rattle.clauses.proofs.Placing.{mid_bounds, mid_put, mid_length, clause_leaf, clause_depth, clause_bracket, bracket_fault, bracket_kept, bracket_sums, bracket_closed, bracket_boost, bracket_query}
use Rattle.clauses.proofs.Rows.{place_most_lem, kind_in_lem}
use Rattle.clauses.proofs.Writing.{slice_length}
use Rattle.clauses.specs.Joining.{conjunction_of, modifier_of}
use Rattle.clauses.specs.Written.{is_boosted}
use Rattle.counted.specs.Kinds.{made_bytes}
use Rattle.row.specs.Row.{tokens_of, name_from}
use Rattle.rules.proofs.Bools.{told_no, told_yes}
use Rattle.rules.specs.Parsing.{query_of}
use borrow.Author.Tests.{not-true, not-false}
use lib.ListN.{length}
use mathlib.Core.Path.{refl, sym, ap, ◌∙◌}
use native.Mathlib.Omega.{arith}
use Rattle.clauses.proofs.write.+write_bracket_write_clause_write_query.Goals as goal

pub write_bracket-overflow_add-end : goal.write_bracket-overflow_add-end
write_bracket-overflow_add-end t c = let K = c.in-Ok.ensures.within in omega (arith, size_most (is_boosted (tokens_of c.args.row.now.room.now c.args.row.now.n) (c.in-Ok.g.next + 1)), c.boost_size.ensures, c.requires.3, c.query_len-len.ensures.bound, K.3, place_most_lem c.args.row.now.rowed c.in-Ok.g.next)

pub write_bracket-put_boost-requires : goal.write_bracket-put_boost-requires
write_bracket-put_boost-requires t c = let k = kind_in_lem c.args.row.now.room.now c.args.row.now.n 10 c.in-Ok.g.next (λ y. omega arith) (bracket_closed c.requires.5.3 (c.measure_query.ensures.means c.requires.5.0 c.requires.5.3.tuned) c.in-Ok.is) in
    (omega (arith, k), ap (λ (x : ℕ). c.args.at + x) c.boost_size.ensures, omega arith, (λ h. absurd (omega arith)), c.requires.4)

pub write_bracket-returns-then-len-eq0 : goal.write_bracket-returns-then-len-eq0
write_bracket-returns-then-len-eq0 t c = let K = c.in-Ok.ensures.within in
    record { wrote = (λ st m j W. let l = c.query_len-len.ensures.made (bracket_kept W (c.measure_query.ensures.means st W.tuned) c.in-Ok.is) (bracket_sums W (c.measure_query.ensures.means st W.tuned) c.in-Ok.is) in c.put_boost.ensures.wrote st (query_of (bracket_kept W (c.measure_query.ensures.means st W.tuned) c.in-Ok.is)) m j c.args.out.now (bracket_boost W (c.measure_query.ensures.means st W.tuned) c.in-Ok.is) (put_empty c.args.out.now (c.args.at + c.boost_size.result) (made_bytes (query_of (bracket_kept W (c.measure_query.ensures.means st W.tuned) c.in-Ok.is))) (sym l ∙ c.if-len-eq0.true)) refl); within = (omega (arith, K.0, c.put_boost.ensures.within), c.put_boost.ensures.within.1) }

pub write_bracket-slice_bounds-write_query-end : goal.write_bracket-slice_bounds-write_query-end
write_bracket-slice_bounds-write_query-end t c = let l = c.query_len-len.ensures.made (bracket_kept c.requires.5.3 (c.measure_query.ensures.means c.requires.5.0 c.requires.5.3.tuned) c.in-Ok.is) (bracket_sums c.requires.5.3 (c.measure_query.ensures.means c.requires.5.0 c.requires.5.3.tuned) c.in-Ok.is) in
    let R = boost_room c.requires.5.0 (tokens_of c.args.row.now.room.now c.args.row.now.n) (query_of (bracket_kept c.requires.5.3 (c.measure_query.ensures.means c.requires.5.0 c.requires.5.3.tuned) c.in-Ok.is)) (c.in-Ok.g.next + 1) c.args.at (length c.args.out.now) (bracket_boost c.requires.5.3 (c.measure_query.ensures.means c.requires.5.0 c.requires.5.3.tuned) c.in-Ok.is) c.requires.5.3.fits (omega (arith, l, c.if-len-eq0.false)) in
    let h : (c.args.at + c.boost_size.result) + c.query_len-len.result ≤ length c.args.out.now = omega (arith, R, l, c.boost_size.ensures) in
    omega (arith, h)

pub write_bracket-write_query-requires : goal.write_bracket-write_query-requires
write_bracket-write_query-requires t c = let l = c.query_len-len.ensures.made (bracket_kept c.requires.5.3 (c.measure_query.ensures.means c.requires.5.0 c.requires.5.3.tuned) c.in-Ok.is) (bracket_sums c.requires.5.3 (c.measure_query.ensures.means c.requires.5.0 c.requires.5.3.tuned) c.in-Ok.is) in
    let R = boost_room c.requires.5.0 (tokens_of c.args.row.now.room.now c.args.row.now.n) (query_of (bracket_kept c.requires.5.3 (c.measure_query.ensures.means c.requires.5.0 c.requires.5.3.tuned) c.in-Ok.is)) (c.in-Ok.g.next + 1) c.args.at (length c.args.out.now) (bracket_boost c.requires.5.3 (c.measure_query.ensures.means c.requires.5.0 c.requires.5.3.tuned) c.in-Ok.is) c.requires.5.3.fits (omega (arith, l, c.if-len-eq0.false)) in
    let h : (c.args.at + c.boost_size.result) + c.query_len-len.result ≤ length c.args.out.now = omega (arith, R, l, c.boost_size.ensures) in
    let r = slice_length c.args.out.now (c.args.at + c.boost_size.result) c.query_len-len.result (omega (arith, h)) in
    (omega (arith, c.decreases), (c.requires.0, c.requires.1, c.requires.2, omega (arith, r, c.if-len-eq0.false), omega (arith, r, h, c.requires.4), (c.requires.5.0, bracket_kept c.requires.5.3 (c.measure_query.ensures.means c.requires.5.0 c.requires.5.3.tuned) c.in-Ok.is, c.in-Ok.g.next, (bracket_query c.requires.5.3 (c.measure_query.ensures.means c.requires.5.0 c.requires.5.3.tuned) c.in-Ok.is c.is_alone-alone.result _ (c.is_alone-alone.ensures (bracket_kept c.requires.5.3 (c.measure_query.ensures.means c.requires.5.0 c.requires.5.3.tuned) c.in-Ok.is) c.in-Ok.g.sum.bytes (bracket_sums c.requires.5.3 (c.measure_query.ensures.means c.requires.5.0 c.requires.5.3.tuned) c.in-Ok.is)) (r ∙ l)))))

pub write_bracket-put_boost-requires-2 : goal.write_bracket-put_boost-requires-2
write_bracket-put_boost-requires-2 t c = let k = kind_in_lem c.args.row.now.room.now c.args.row.now.n 10 c.in-Ok.g.next (λ y. omega arith) (bracket_closed c.requires.5.3 (c.measure_query.ensures.means c.requires.5.0 c.requires.5.3.tuned) c.in-Ok.is) in
    let l = c.query_len-len.ensures.made (bracket_kept c.requires.5.3 (c.measure_query.ensures.means c.requires.5.0 c.requires.5.3.tuned) c.in-Ok.is) (bracket_sums c.requires.5.3 (c.measure_query.ensures.means c.requires.5.0 c.requires.5.3.tuned) c.in-Ok.is) in
    let R = boost_room c.requires.5.0 (tokens_of c.args.row.now.room.now c.args.row.now.n) (query_of (bracket_kept c.requires.5.3 (c.measure_query.ensures.means c.requires.5.0 c.requires.5.3.tuned) c.in-Ok.is)) (c.in-Ok.g.next + 1) c.args.at (length c.args.out.now) (bracket_boost c.requires.5.3 (c.measure_query.ensures.means c.requires.5.0 c.requires.5.3.tuned) c.in-Ok.is) c.requires.5.3.fits (omega (arith, l, c.if-len-eq0.false)) in
    let h : (c.args.at + c.boost_size.result) + c.query_len-len.result ≤ length c.args.out.now = omega (arith, R, l, c.boost_size.ensures) in
    let r = slice_length c.args.out.now (c.args.at + c.boost_size.result) c.query_len-len.result (omega (arith, h)) in
    let b = mid_bounds c.args.out.now c.write_query.new.out (c.args.at + c.boost_size.result) ((c.args.at + c.boost_size.result) + c.query_len-len.result) (omega arith) h (c.write_query.auto.out ∙ r ∙ omega arith) c.requires.4 in
    (omega (arith, k), ap (λ (x : ℕ). c.args.at + x) c.boost_size.ensures, omega arith, (λ x. b.0), b.1)

pub write_bracket-unreachable-requires : goal.write_bracket-unreachable-requires
write_bracket-unreachable-requires t c = bracket_fault c.requires.5.3 (c.measure_query.ensures.means c.requires.5.0 c.requires.5.3.tuned) c.in_default.is

pub write_bracket-returns : goal.write_bracket-returns
write_bracket-returns t c = let K = c.in-Ok.ensures.within in record {
  wrote = (λ st m j W.
      let l = c.query_len-len.ensures.made (bracket_kept W (c.measure_query.ensures.means st W.tuned) c.in-Ok.is) (bracket_sums W (c.measure_query.ensures.means st W.tuned) c.in-Ok.is) in
      let R =
      boost_room
      st (tokens_of c.args.row.now.room.now c.args.row.now.n) (query_of (bracket_kept W (c.measure_query.ensures.means st W.tuned) c.in-Ok.is)) (c.in-Ok.g.next + 1) c.args.at (length c.args.out.now)
      (bracket_boost W (c.measure_query.ensures.means st W.tuned) c.in-Ok.is) W.fits (omega (arith, l, c.if-len-eq0.false)) in
      let h : (c.args.at + c.boost_size.result) + c.query_len-len.result ≤ length c.args.out.now = omega (arith, R, l, c.boost_size.ensures) in
      let r = slice_length c.args.out.now (c.args.at + c.boost_size.result) c.query_len-len.result (omega (arith, h)) in
      c.put_boost-2.ensures.wrote
      st (query_of (bracket_kept W (c.measure_query.ensures.means st W.tuned) c.in-Ok.is)) m j c.args.out.now (bracket_boost W (c.measure_query.ensures.means st W.tuned) c.in-Ok.is)
      (mid_put
      c.args.out.now c.write_query.new.out (made_bytes (query_of (bracket_kept W (c.measure_query.ensures.means st W.tuned) c.in-Ok.is))) (c.args.at + c.boost_size.result) c.query_len-len.result h
      (c.write_query.ensures
      st (bracket_kept W (c.measure_query.ensures.means st W.tuned) c.in-Ok.is) c.in-Ok.g.next
      (bracket_query
      W (c.measure_query.ensures.means st W.tuned) c.in-Ok.is c.is_alone-alone.result _
      (c.is_alone-alone.ensures (bracket_kept W (c.measure_query.ensures.means st W.tuned) c.in-Ok.is) c.in-Ok.g.sum.bytes (bracket_sums W (c.measure_query.ensures.means st W.tuned) c.in-Ok.is)) (r ∙ l)))
      l)
      (sym (mid_length c.args.out.now c.write_query.new.out (c.args.at + c.boost_size.result) ((c.args.at + c.boost_size.result) + c.query_len-len.result) (omega arith) h (c.write_query.auto.out ∙ r ∙ omega arith))));
  within = (omega (arith, K.0, c.put_boost-2.ensures.within), c.put_boost-2.ensures.within.1);
}

pub write_clause-write_leaf-requires : goal.write_clause-write_leaf-requires
write_clause-write_leaf-requires t c = let S1 = c.in-Ok.ensures in
    let z = clause_leaf S1 c.requires.5.3 (told_no c.is_at.ensures c.if-not-is_at.true-raw) in
    (S1.fielded c.args.row.now.default.now c.requires.0, z.1, c.requires.3, c.requires.4, c.is_at-plain.ensures, (c.requires.5.0, c.requires.5.1, c.requires.5.2, z.0))

pub write_clause-returns-then-not-is_at : goal.write_clause-returns-then-not-is_at
write_clause-returns-then-not-is_at t c = let S1 = c.in-Ok.ensures in record { wrote = (λ st m j W. c.write_leaf.ensures.wrote st m j (clause_leaf S1 W (told_no c.is_at.ensures c.if-not-is_at.true-raw)).0); within = (omega (arith, S1.low, c.write_leaf.ensures.within), c.write_leaf.ensures.within.1) }

pub write_clause-write_bracket-requires : goal.write_clause-write_bracket-requires
write_clause-write_bracket-requires t c = let S1 = c.in-Ok.ensures in
    let k = (kind_in_lem c.args.row.now.room.now c.args.row.now.n 9 c.in-Ok.start.i (λ y. omega arith) (told_yes c.is_at.ensures c.if-not-is_at.false-raw)) in
    (omega (arith, S1.low, k, c.decreases), (S1.fielded c.args.row.now.default.now c.requires.0, omega (arith, k), omega (arith, clause_depth S1 c.requires.5.3 (told_yes c.is_at.ensures c.if-not-is_at.false-raw)), c.requires.3, c.requires.4, (c.requires.5.0, c.requires.5.1, c.requires.5.2, clause_bracket S1 c.requires.5.3 (told_yes c.is_at.ensures c.if-not-is_at.false-raw))))

pub write_clause-returns : goal.write_clause-returns
write_clause-returns t c = let S1 = c.in-Ok.ensures in record { wrote = (λ st m j W. c.write_bracket.ensures.wrote st m j (clause_bracket S1 W (told_yes c.is_at.ensures c.if-not-is_at.false-raw))); within = (omega (arith, S1.low, c.write_bracket.ensures.within), c.write_bracket.ensures.within.1) }

pub write_query-put_query_front-w-requires : goal.write_query-put_query_front-w-requires
write_query-put_query_front-w-requires t c = (going_room c.args.alone c.requires.5.1 (length c.args.out.now) c.requires.5.3.alone_is c.requires.5.3.fills c.requires.3, c.requires.4)

pub write_query-loop-p-init : goal.write_query-loop-p-init
write_query-loop-p-init t c = (omega arith, c.requires.1, refl, λ st cs j W. going_start c.args.alone st (tokens_of c.args.row.now.room.now c.args.row.now.n) (name_from c.args.row.now.room.now c.args.row.now.default.now c.args.p.from) c.args.p.depth cs j c.args.out.now c.put_query_front-w.new.out c.args.at c.put_query_front-w.result W.alone_is W.fills (omega (arith, c.put_query_front-w.auto.out, c.requires.3)) c.put_query_front-w.auto.out c.put_query_front-w.ensures W.is)

pub write_query-touch_last-requires : goal.write_query-touch_last-requires
write_query-touch_last-requires t c = let G = c.loop-p.invariant.3 c.requires.5.0 c.requires.5.1 c.requires.5.2 (record { tuned = c.requires.5.3.tuned; is = c.requires.5.3.is; alone_is = c.requires.5.3.alone_is; fills = c.put_query_front-w.auto.out ∙ c.requires.5.3.fills }) in
    going_last c.args.alone G (omega (arith, c.put_query_front-w.auto.out, c.requires.3))

pub write_query-body_start-start-requires : goal.write_query-body_start-start-requires
write_query-body_start-start-requires t c = let G = c.loop-p.invariant.3 c.requires.5.0 c.requires.5.1 c.requires.5.2 (record { tuned = c.requires.5.3.tuned; is = c.requires.5.3.is; alone_is = c.requires.5.3.alone_is; fills = c.put_query_front-w.auto.out ∙ c.requires.5.3.fills }) in
    omega (arith, going_wide c.args.alone G, c.put_query_front-w.auto.out, c.requires.4)

pub write_query-write_clause-r-requires : goal.write_query-write_clause-r-requires
write_query-write_clause-r-requires t c = let L = c.lead_at-lead.ensures.within in
    let T : Turned c.requires.5.0 (tokens_of c.args.row.now.room.now c.args.row.now.n) c.loop-p.i c.loop-p.w c.loop-p.last c.args.p.operator c.loop-p.out (conjunction_of c.lead_at-lead.result.conjunction) (modifier_of c.lead_at-lead.result.modifier) c.lead_at-lead.result.next c.touch_last.new.out = record { joins = c.requires.5.3.tuned.joins; goes = not-true _ (sym c.more_at.ensures ∙ c.loop-p-test.true); lead = c.lead_at-lead.ensures.means; touches = c.touch_last.ensures; same = c.touch_last.auto.out } in
    let G = c.loop-p.invariant.3 c.requires.5.0 c.requires.5.1 c.requires.5.2 (record { tuned = c.requires.5.3.tuned; is = c.requires.5.3.is; alone_is = c.requires.5.3.alone_is; fills = c.put_query_front-w.auto.out ∙ c.requires.5.3.fills }) in
    let z = going_clause T c.args.alone G in
    (omega (arith, L, c.loop-p.invariant.0, c.decreases), (c.requires.0, omega (arith, L, c.loop-p.invariant.1, c.args.row.now.rowed.few), c.requires.2, omega (arith, going_wide c.args.alone G, c.put_query_front-w.auto.out, c.requires.4, body_near c.args.alone c.loop-p.w, c.body_start-start.ensures), omega (arith, c.touch_last.auto.out, c.loop-p.invariant.2, c.put_query_front-w.auto.out, c.requires.4), (c.requires.5.0, z.0, z.1, (record { tuned = c.requires.5.3.tuned; is = z.2; fits = (λ h. omega (arith, z.3 h, c.body_start-start.ensures, c.touch_last.auto.out, c.loop-p.invariant.2)) }))))

pub write_query-loop-p-preserved-then-r-start : goal.write_query-loop-p-preserved-then-r-start
write_query-loop-p-preserved-then-r-start t c = let L = c.lead_at-lead.ensures.within in (
  omega (arith, L, c.write_clause-r.ensures.within, c.loop-p.invariant.0),
  c.write_clause-r.ensures.within.1,
  c.write_clause-r.auto.out ∙ c.touch_last.auto.out ∙ c.loop-p.invariant.2,
  λ st cs j W.
      let T : Turned st (tokens_of c.args.row.now.room.now c.args.row.now.n) c.loop-p.i c.loop-p.w c.loop-p.last c.args.p.operator c.loop-p.out (conjunction_of c.lead_at-lead.result.conjunction) (modifier_of c.lead_at-lead.result.modifier) c.lead_at-lead.result.next c.touch_last.new.out =
      record { joins = W.tuned.joins; goes = not-true _ (sym c.more_at.ensures ∙ c.loop-p-test.true); lead = c.lead_at-lead.ensures.means; touches = c.touch_last.ensures; same = c.touch_last.auto.out } in
      let G = c.loop-p.invariant.3 st cs j W in
      let z = going_clause T c.args.alone G in
      let P = c.write_clause-r.ensures.wrote st z.0 z.1 (record { tuned = W.tuned; is = z.2; fits = (λ h. omega (arith, z.3 h, c.body_start-start.ensures, c.touch_last.auto.out, c.loop-p.invariant.2)) }) in
      going_nothing T P.0 c.args.alone G c.body_start-start.result c.body_start-start.ensures z.0 z.2 P.1 c.if-r-start.true,
)

pub write_query-returns-then-alone : goal.write_query-returns-then-alone
write_query-returns-then-alone t c = λ st cs j W.
    let T : Turned st (tokens_of c.args.row.now.room.now c.args.row.now.n) c.loop-p.i c.loop-p.w c.loop-p.last c.args.p.operator c.loop-p.out (conjunction_of c.lead_at-lead.result.conjunction) (modifier_of c.lead_at-lead.result.modifier) c.lead_at-lead.result.next c.touch_last.new.out =
    record { joins = W.tuned.joins; goes = not-true _ (sym c.more_at.ensures ∙ c.loop-p-test.true); lead = c.lead_at-lead.ensures.means; touches = c.touch_last.ensures; same = c.touch_last.auto.out } in
    let G =
    c.loop-p.invariant.3
    st cs j
    (record { tuned = W.tuned; is = W.is; alone_is = W.alone_is; fills = c.put_query_front-w.auto.out ∙ W.fills }) in
    let z = going_clause T c.args.alone G in
    let P = c.write_clause-r.ensures.wrote st z.0 z.1 (record { tuned = W.tuned; is = z.2; fits = (λ h. omega (arith, z.3 h, c.body_start-start.ensures, c.touch_last.auto.out, c.loop-p.invariant.2)) }) in
    going_alone T P.0 c.args.alone G c.if-alone.true c.body_start-start.result c.body_start-start.ensures z.0 z.2 P.1 c.if-r-start.false

pub write_query-overflow_sub-r : goal.write_query-overflow_sub-r
write_query-overflow_sub-r t c = let T : Turned c.requires.5.0 (tokens_of c.args.row.now.room.now c.args.row.now.n) c.loop-p.i c.loop-p.w c.loop-p.last c.args.p.operator c.loop-p.out (conjunction_of c.lead_at-lead.result.conjunction) (modifier_of c.lead_at-lead.result.modifier) c.lead_at-lead.result.next c.touch_last.new.out = record { joins = c.requires.5.3.tuned.joins; goes = not-true _ (sym c.more_at.ensures ∙ c.loop-p-test.true); lead = c.lead_at-lead.ensures.means; touches = c.touch_last.ensures; same = c.touch_last.auto.out } in
    let G = c.loop-p.invariant.3 c.requires.5.0 c.requires.5.1 c.requires.5.2 (record { tuned = c.requires.5.3.tuned; is = c.requires.5.3.is; alone_is = c.requires.5.3.alone_is; fills = c.put_query_front-w.auto.out ∙ c.requires.5.3.fills }) in
    let z = going_clause T c.args.alone G in
    let P = c.write_clause-r.ensures.wrote c.requires.5.0 z.0 z.1 (record { tuned = c.requires.5.3.tuned; is = z.2; fits = (λ h. omega (arith, z.3 h, c.body_start-start.ensures, c.touch_last.auto.out, c.loop-p.invariant.2)) }) in
    omega (arith, P.1.place)

pub write_query-put_header-requires : goal.write_query-put_header-requires
write_query-put_header-requires t c = let T : Turned c.requires.5.0 (tokens_of c.args.row.now.room.now c.args.row.now.n) c.loop-p.i c.loop-p.w c.loop-p.last c.args.p.operator c.loop-p.out (conjunction_of c.lead_at-lead.result.conjunction) (modifier_of c.lead_at-lead.result.modifier) c.lead_at-lead.result.next c.touch_last.new.out = record { joins = c.requires.5.3.tuned.joins; goes = not-true _ (sym c.more_at.ensures ∙ c.loop-p-test.true); lead = c.lead_at-lead.ensures.means; touches = c.touch_last.ensures; same = c.touch_last.auto.out } in
    let G = c.loop-p.invariant.3 c.requires.5.0 c.requires.5.1 c.requires.5.2 (record { tuned = c.requires.5.3.tuned; is = c.requires.5.3.is; alone_is = c.requires.5.3.alone_is; fills = c.put_query_front-w.auto.out ∙ c.requires.5.3.fills }) in
    let z = going_clause T c.args.alone G in
    let P = c.write_clause-r.ensures.wrote c.requires.5.0 z.0 z.1 (record { tuned = c.requires.5.3.tuned; is = z.2; fits = (λ h. omega (arith, z.3 h, c.body_start-start.ensures, c.touch_last.auto.out, c.loop-p.invariant.2)) }) in
    let h = z.3 (omega (arith, P.1.place, c.if-r-start.false)) in
    let a = body_after c.args.alone c.loop-p.w c.if-alone.false in
    (omega (arith, h, a, c.write_clause-r.auto.out, c.touch_last.auto.out, c.loop-p.invariant.2), omega (arith, h, P.1.place, c.body_start-start.ensures, c.put_query_front-w.auto.out, c.requires.4))

pub write_query-loop-p-preserved : goal.write_query-loop-p-preserved
write_query-loop-p-preserved t c = let L = c.lead_at-lead.ensures.within in (
  omega (arith, L, c.write_clause-r.ensures.within, c.loop-p.invariant.0),
  c.write_clause-r.ensures.within.1,
  c.put_header.auto.out ∙ c.write_clause-r.auto.out ∙ c.touch_last.auto.out ∙ c.loop-p.invariant.2,
  λ st cs j W.
      let T : Turned st (tokens_of c.args.row.now.room.now c.args.row.now.n) c.loop-p.i c.loop-p.w c.loop-p.last c.args.p.operator c.loop-p.out (conjunction_of c.lead_at-lead.result.conjunction) (modifier_of c.lead_at-lead.result.modifier) c.lead_at-lead.result.next c.touch_last.new.out =
      record { joins = W.tuned.joins; goes = not-true _ (sym c.more_at.ensures ∙ c.loop-p-test.true); lead = c.lead_at-lead.ensures.means; touches = c.touch_last.ensures; same = c.touch_last.auto.out } in
      let G = c.loop-p.invariant.3 st cs j W in
      let z = going_clause T c.args.alone G in
      let P = c.write_clause-r.ensures.wrote st z.0 z.1 (record { tuned = W.tuned; is = z.2; fits = (λ h. omega (arith, z.3 h, c.body_start-start.ensures, c.touch_last.auto.out, c.loop-p.invariant.2)) }) in
      going_made
      T P.0 c.args.alone G c.if-alone.false c.body_start-start.result c.body_start-start.ensures z.0 z.2 P.1 c.if-r-start.false
      c.tag_after-tag.result (c.write_clause-r.result.end - c.body_start-start.result) c.put_header.result c.put_header.new.out c.tag_after-tag.ensures c.put_header.ensures refl (c.put_header.auto.out ∙ c.write_clause-r.auto.out),
)

pub write_query-returns : goal.write_query-returns
write_query-returns t c = λ st cs j W. going_ends c.args.alone (c.loop-p.invariant.3 st cs j (record { tuned = W.tuned; is = W.is; alone_is = W.alone_is; fills = c.put_query_front-w.auto.out ∙ W.fills })) (not-false _ (sym c.more_at.ensures ∙ c.loop-p-test.false))
