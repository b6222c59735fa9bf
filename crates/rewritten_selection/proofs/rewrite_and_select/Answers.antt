-- `rewritten_selection::rewrite_and_select` meets its contract.
use Rattle.rewritten_selection.proofs.Choosing as choosing
use native.Mathlib.Omega.{arith}
use Rattle.rewritten_selection.proofs.rewrite_and_select.Goals as goal

pub returns-then-held-lt-HELD_ROOM : goal.returns-then-held-lt-HELD_ROOM
returns-then-held-lt-HELD_ROOM c = let C = choosing.short_held c.args.strict c.args.query.now c.args.list.now c.args.rows.now c.args.held.now c.args.room.now c.if-held-lt-HELD_ROOM.true in
    record { answer = rw (c.clear.ensures, c.clear-then-held-lt-HELD_ROOM.ensures) C; demand = choosing.demanded_of_answer (λ i. omega (arith, c.type_inv.query i)) C }

pub returns-clause-demand : goal.returns-clause-demand
returns-clause-demand c = choosing.demanded_of_answer (λ i. omega (arith, c.type_inv.query i)) c.select_rewritten-answer.ensures
