-- `gorbihesh::rewrite_by` meets its contract.
use Rattle.gorbihesh.proofs.Edge.{rewritten_short, rewritten_few, rewrite_left_lem, rewrite_refused}
use mathlib.Core.Path.{◌∙◌}
use native.Mathlib.Omega.{arith}
use Rattle.gorbihesh.proofs.rewrite_by.Goals as goal

pub overflow_cast-a : goal.overflow_cast-a
overflow_cast-a c = omega (arith, rewritten_short c.rewrite.ensures (λ i. omega (arith, c.type_inv.query i)) c.in-Ok.is)

pub overflow_cast-a-in-Ok : goal.overflow_cast-a-in-Ok
overflow_cast-a-in-Ok c = omega (arith, rewritten_few c.rewrite.ensures (λ i. omega (arith, c.type_inv.query i)) c.in-Ok.is)

pub returns-in-Err : goal.returns-in-Err
returns-in-Err c = rewrite_refused c.rewrite.ensures c.in-Err.is (c.from-in-Err.ensures ∙ c.from.ensures) c.told.ensures

pub returns-in-Ok : goal.returns-in-Ok
returns-in-Ok c = rewrite_left_lem c.rewrite.ensures c.in-Ok.is c.told-in-Ok.ensures
