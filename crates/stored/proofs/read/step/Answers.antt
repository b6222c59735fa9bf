-- `stored::read::step` meets its contract.
use Rattle.std.proofs.lemmas.Result as result
use Rattle.stored.proofs.Opening as opening
use Rattle.stored.proofs.Stepping as stepping
use mathlib.Core.Path.{refl, sym, ◌∙◌}
use Rattle.stored.proofs.read.step.Goals as goal

pub returns-in_err-say : goal.returns-in_err-say
returns-in_err-say c = let p = result.err_from_is_err_and c.from_residual.result c.from_residual.ensures.1 in let f = opening.failed c.is_clause.ensures c.in_err-say.ensures in rw (p.1, p.2, f.1) (stepping.clause_bad c.args.left c.args.t.now c.requires f.0)

pub returns-then-is_simple : goal.returns-then-is_simple
returns-then-is_simple c = stepping.step_simple c.args.left c.args.t.now c.body-q.result.now c.requires (opening.passed c.is_clause.ensures c.in_ok-say.ensures) c.body-q.ensures (sym c.is_simple.ensures ∙ c.if-is_simple.true)

pub returns-in_err-e : goal.returns-in_err-e
returns-in_err-e c = let p = result.err_from_is_err_and c.from_residual-in_err-e.result c.from_residual-in_err-e.ensures.1 in rw (p.1, p.2) (stepping.step_fault c.args.left c.args.t.now c.body-q.result.now c.requires (opening.passed c.is_clause.ensures c.in_ok-say.ensures) c.body-q.ensures _ c.in_err-e.ensures)

pub returns-in_err-say-in-Leaf : goal.returns-in_err-say-in-Leaf
returns-in_err-say-in-Leaf c = let p = result.err_from_is_err_and c.from_residual-in_err-say-in-Leaf.result c.from_residual-in_err-say-in-Leaf.ensures.1 in let f = opening.failed refl c.in_err-say-in-Leaf.ensures in
    rw (p.1, p.2, f.1) (stepping.step_more c.args.left c.args.t.now c.body-q.result.now c.requires (opening.passed c.is_clause.ensures c.in_ok-say.ensures) c.body-q.ensures _ (rw c.in-Leaf.is at c.in_ok-e.ensures) f.0)

pub returns-in_ok-say-in-Leaf : goal.returns-in_ok-say-in-Leaf
returns-in_ok-say-in-Leaf c = stepping.step_past c.args.left c.args.t.now c.body-q.result.now c.requires (opening.passed c.is_clause.ensures c.in_ok-say.ensures) c.body-q.ensures _ (rw c.in-Leaf.is at c.in_ok-e.ensures) (opening.passed refl c.in_ok-say-in-Leaf.ensures)

pub returns-then-h-n : goal.returns-then-h-n
returns-then-h-n c = rw c.behind-inside.ensures (stepping.step_into c.args.left c.args.t.now c.body-q.result.now c.requires (opening.passed c.is_clause.ensures c.in_ok-say.ensures) c.body-q.ensures _ (rw c.in-Row.is at c.in_ok-e.ensures) c.if-h-n.true)

pub returns-else-h-n : goal.returns-else-h-n
returns-else-h-n c = rw c.behind-inside.ensures (stepping.step_last c.args.left c.args.t.now c.body-q.result.now c.requires (opening.passed c.is_clause.ensures c.in_ok-say.ensures) c.body-q.ensures _ (rw c.in-Row.is at c.in_ok-e.ensures) c.if-h-n.false)
