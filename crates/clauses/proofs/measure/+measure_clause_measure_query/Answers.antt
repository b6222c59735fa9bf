-- `clauses::measure::measure_clause` and `clauses::measure::measure_query` call each other and meet their contracts: unread tokens fall, then a call rank.
use Rattle.clauses.proofs.Bodies.{leaf_kinds, body_leaf, body_open, body_deep, body_end, body_other, close_fault, meant_start, within_start}
use Rattle.clauses.proofs.Rows.{kind_in_lem, goes_in}
use Rattle.clauses.proofs.Steps.{bounds_start, bounds_on, bounds_small, clause_small, turn_start, turn_end, turn_refused, turn_found}
use Rattle.clauses.specs.Leaves.{leaf_at}
use Rattle.row.specs.Row.{tokens_of, name_from}
use Rattle.rules.specs.Numbers.{on_read, and_then, refused, faulty, long_field, many_brackets, unexpected_end, unexpected_token}
use Rattle.rules.specs.Parsing.{closed_at, query_found}
use Rattle.std.proofs.Common.{Err}
use Rattle.std.proofs.lemmas.Result.{err_from_is_err_and}
use borrow.Author.Tests.{eq-eqb, not-true, not-false}
use lib.Dec.{eqb}
use mathlib.Core.Path.{refl, sym, ◌∙◌}
use native.Mathlib.Omega.{arith}
use Rattle.clauses.proofs.measure.+measure_clause_measure_query.Goals as goal

pub measure_clause-returns-in_err-start : goal.measure_clause-returns-in_err-start
measure_clause-returns-in_err-start t c = let p = err_from_is_err_and c.from_residual.result c.from_residual.ensures.1 in let E = c.in_err-start.ensures in
    rw (p.1, p.2, E.1) (record { means = (λ st T. record { answer = refused (faulty long_field _); says = λ k h. E.0 st _ _ _; means = (long_field, refl, refl) }); within = omega arith })

pub measure_clause-returns-in-1 : goal.measure_clause-returns-in-1
measure_clause-returns-in-1 t c = let S = c.in_ok-start.ensures in
    record {
      means = (λ st T. meant_start S st c.args.row.now.default.now c.args.p.depth _ (leaf_at (eqb c.kind_at-t.result 1) st (tokens_of c.args.row.now.room.now c.args.row.now.n) (name_from c.args.row.now.room.now c.args.row.now.default.now c.in_ok-start.start.from) c.in_ok-start.start.i) (λ k h. body_leaf st (tokens_of c.args.row.now.room.now c.args.row.now.n) _ (name_from c.args.row.now.room.now c.args.row.now.default.now c.in_ok-start.start.from) c.args.p.depth c.in_ok-start.start.i _ c.kind_at-t.ensures (leaf_kinds c.kind_at-t.result (omega arith) (omega arith))) (c.measure_leaf.ensures.means st c.args.p.operator (S.tuned st c.args.p.operator c.args.row.now.default.now T)));
      within = within_start S c.measure_leaf.result c.measure_leaf.ensures.within;
    }

pub measure_clause-measure_query-requires : goal.measure_clause-measure_query-requires
measure_clause-measure_query-requires t c = let S = c.in_ok-start.ensures in
    let z = kind_in_lem c.args.row.now.room.now c.args.row.now.n 9 c.in_ok-start.start.i (λ z. omega arith) (eq-eqb _ _ (sym c.kind_at-t.ensures ∙ c.in-9.is)) in
    (omega (arith, S.low, c.decreases), (S.fielded c.args.row.now.default.now c.requires.0, omega arith, omega (arith, c.if-p-lt-BRACKETS_MOST.true)))

pub measure_clause-returns-in_err-g-in-9 : goal.measure_clause-returns-in_err-g-in-9
measure_clause-returns-in_err-g-in-9 t c = let p = err_from_is_err_and c.from_residual-in_err-g-in-9.result c.from_residual-in_err-g-in-9.ensures.1 in
    let S = c.in_ok-start.ensures in
    let z = kind_in_lem c.args.row.now.room.now c.args.row.now.n 9 c.in_ok-start.start.i (λ z. omega arith) (eq-eqb _ _ (sym c.kind_at-t.ensures ∙ c.in-9.is)) in
    rw (p.1, p.2) (record {
      means = (λ st T.
          let M = c.measure_query.ensures.means st (S.tuned st c.args.p.operator c.args.row.now.default.now T) in
          let K = rw c.in_err-g-in-9.was at M.means in
          meant_start S st c.args.row.now.default.now c.args.p.depth (Err c.in_err-g-in-9.field-0.0) _ (λ k h. body_open st (tokens_of c.args.row.now.room.now c.args.row.now.n) _ (name_from c.args.row.now.room.now c.args.row.now.default.now c.in_ok-start.start.from) c.args.p.depth c.in_ok-start.start.i _ c.kind_at-t.ensures (λ z. omega arith) c.in-9.is c.if-p-lt-BRACKETS_MOST.true ∙ rw (M.says k (omega arith)) (close_fault st (tokens_of c.args.row.now.room.now c.args.row.now.n) M.answer K.1)) (K.0, refl, K.2));
      within = omega arith;
    })

pub measure_clause-returns-in-9 : goal.measure_clause-returns-in-9
measure_clause-returns-in-9 t c = let S = c.in_ok-start.ensures in
    let z = kind_in_lem c.args.row.now.room.now c.args.row.now.n 9 c.in_ok-start.start.i (λ z. omega arith) (eq-eqb _ _ (sym c.kind_at-t.ensures ∙ c.in-9.is)) in
    record {
      means = (λ st T.
          let M = c.measure_query.ensures.means st (S.tuned st c.args.p.operator c.args.row.now.default.now T) in
          meant_start S st c.args.row.now.default.now c.args.p.depth c.closing.result (and_then (on_read query_found M.answer) (closed_at st (tokens_of c.args.row.now.room.now c.args.row.now.n))) (λ k h. body_open st (tokens_of c.args.row.now.room.now c.args.row.now.n) _ (name_from c.args.row.now.room.now c.args.row.now.default.now c.in_ok-start.start.from) c.args.p.depth c.in_ok-start.start.i _ c.kind_at-t.ensures (λ z. omega arith) c.in-9.is c.if-p-lt-BRACKETS_MOST.true ∙ rw (M.says k (omega arith))) (c.closing.ensures.means st M.answer (rw c.in_ok-g-in-9.was at M.means)));
      within = within_start S c.closing.result (c.closing.ensures.within c.in_ok-start.start.i z c.in_ok-g-in-9.ensures.within);
    }

pub measure_clause-returns-in-9-2 : goal.measure_clause-returns-in-9-2
measure_clause-returns-in-9-2 t c = let S = c.in_ok-start.ensures in
    record { means = (λ st T. meant_start S st c.args.row.now.default.now c.args.p.depth _ (refused (faulty many_brackets c.in_ok-start.start.i)) (λ k h. body_deep st (tokens_of c.args.row.now.room.now c.args.row.now.n) _ (name_from c.args.row.now.room.now c.args.row.now.default.now c.in_ok-start.start.from) c.args.p.depth c.in_ok-start.start.i _ c.kind_at-t.ensures (λ z. omega arith) c.in-9.is c.if-p-lt-BRACKETS_MOST.false) (many_brackets, refl, refl)); within = omega arith }

pub measure_clause-returns-in-0 : goal.measure_clause-returns-in-0
measure_clause-returns-in-0 t c = let S = c.in_ok-start.ensures in
    record { means = (λ st T. meant_start S st c.args.row.now.default.now c.args.p.depth _ (refused (faulty unexpected_end c.in_ok-start.start.i)) (λ k h. body_end st (tokens_of c.args.row.now.room.now c.args.row.now.n) _ (name_from c.args.row.now.room.now c.args.row.now.default.now c.in_ok-start.start.from) c.args.p.depth c.in_ok-start.start.i _ c.kind_at-t.ensures (λ z. omega arith) (λ z. omega arith) (λ z. omega arith) c.in-0.is) (unexpected_end, refl, refl)); within = omega arith }

pub measure_clause-returns-in_default : goal.measure_clause-returns-in_default
measure_clause-returns-in_default t c = let S = c.in_ok-start.ensures in
    record { means = (λ st T. meant_start S st c.args.row.now.default.now c.args.p.depth _ (refused (faulty unexpected_token c.in_ok-start.start.i)) (λ k h. body_other st (tokens_of c.args.row.now.room.now c.args.row.now.n) _ (name_from c.args.row.now.room.now c.args.row.now.default.now c.in_ok-start.start.from) c.args.p.depth c.in_ok-start.start.i _ c.kind_at-t.ensures (λ z. omega arith) (λ z. omega arith) (λ z. omega arith) (λ z. omega arith)) (unexpected_token, refl, refl)); within = omega arith }

pub measure_query-loop-p-init : goal.measure_query-loop-p-init
measure_query-loop-p-init t c = (bounds_start _ _ _ c.requires.1, λ st T. turn_start st _ _ _ _ _)

pub measure_query-returns-in_err-clause : goal.measure_query-returns-in_err-clause
measure_query-returns-in_err-clause t c = let p = err_from_is_err_and c.from_residual.result c.from_residual.ensures.1 in
    let L = c.lead_at-lead.ensures.within in
    rw (p.1, p.2) (record { means = (λ st T. turn_refused (c.loop-p.invariant.1 st T) (not-true _ (sym c.more_at.ensures ∙ c.loop-p-test.true)) (goes_in c.args.row.now.room.now c.args.row.now.n c.loop-p.i (not-true _ (sym c.more_at.ensures ∙ c.loop-p-test.true))) _ _ _ L.0 c.lead_at-lead.ensures.means c.in_err-clause.was (c.measure_clause.ensures.means st T)); within = omega arith })

pub measure_query-added-s-requires : goal.measure_query-added-s-requires
measure_query-added-s-requires t c = let b = bounds_small c.args.row.now.rowed c.loop-p.invariant.0 in (omega (arith, b.1), omega (arith, b.0, clause_small c.args.row.now.rowed c.in_ok-clause.ensures.within))

pub measure_query-loop-p-preserved : goal.measure_query-loop-p-preserved
measure_query-loop-p-preserved t c = let L = c.lead_at-lead.ensures.within in
    let W = c.in_ok-clause.ensures.within in
    (bounds_on c.args.row.now.rowed c.args.at c.loop-p.i c.lead_at-lead.result.next c.loop-p.s.count c.loop-p.s.bytes c.added-s.result.count c.added-s.result.bytes c.in_ok-clause.clause c.loop-p.invariant.0 L W c.added-s.ensures.bound, λ st T. turn_found (c.loop-p.invariant.1 st T) (not-true _ (sym c.more_at.ensures ∙ c.loop-p-test.true)) (goes_in c.args.row.now.room.now c.args.row.now.n c.loop-p.i (not-true _ (sym c.more_at.ensures ∙ c.loop-p-test.true))) _ _ _ L.0 c.lead_at-lead.ensures.means c.in_ok-clause.was (c.measure_clause.ensures.means st T) W.0 (λ cs q s e. rw T.joins (c.added-s.ensures.sums cs q s e)))

pub measure_query-returns : goal.measure_query-returns
measure_query-returns t c = record { means = (λ st T. turn_end (c.loop-p.invariant.1 st T) (not-false _ (sym c.more_at.ensures ∙ c.loop-p-test.false))); within = (c.loop-p.invariant.0.from, c.loop-p.invariant.0.upto, c.loop-p.invariant.0.place, c.loop-p.invariant.0.size, c.loop-p.invariant.0.least) }
