-- `rewritten_selection::select_rewritten` meets its contract.
use Rattle.rewritten_selection.proofs.Choosing as choosing
use Rattle.std.proofs.lemmas.Result.{err_from_is_err_and}
use native.Mathlib.Omega.{arith}
use Rattle.rewritten_selection.proofs.select_rewritten.Goals as goal

pub returns-in_err-a : goal.returns-in_err-a
returns-in_err-a c = let p = err_from_is_err_and c.from_residual.result c.from_residual.ensures.1 in
    rw (p.1, p.2) (choosing.refused_query c.args.strict c.args.query.now c.args.list.now c.args.rows.now c.args.held.now c.args.room.now (λ i. omega (arith, c.type_inv.query i)) c.requires c.rewrite.ensures _ c.in_err-a.was)

pub slice_bounds-select-end : goal.slice_bounds-select-end
slice_bounds-select-end c = choosing.held_long c.args.strict c.args.query.now c.args.list.now c.args.rows.now c.args.held.now c.args.room.now (λ i. omega (arith, c.type_inv.query i)) c.requires c.rewrite.ensures _ c.in_ok-a.was

pub returns-in_err-count : goal.returns-in_err-count
returns-in_err-count c = let p = err_from_is_err_and c.from_residual-in_err-count.result c.from_residual-in_err-count.ensures.1 in
    rw (p.1, p.2) (rw c.in_err-count.was at (choosing.selects c.args.strict c.args.query.now c.args.list.now c.args.rows.now c.args.held.now c.args.room.now (λ i. omega (arith, c.type_inv.query i)) c.requires c.rewrite.ensures _ c.in_ok-a.was c.select.ensures))

pub returns : goal.returns
returns c = rw c.in_ok-count.was at (choosing.selects c.args.strict c.args.query.now c.args.list.now c.args.rows.now c.args.held.now c.args.room.now (λ i. omega (arith, c.type_inv.query i)) c.requires c.rewrite.ensures _ c.in_ok-a.was c.select.ensures)
