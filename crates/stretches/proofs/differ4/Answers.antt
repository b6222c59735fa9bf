-- `stretches::differ4` meets its contract.
use Rattle.stretches.proofs.Joining as joining
use native.Mathlib.Omega.{arith}
use Rattle.stretches.proofs.differ4.Goals as goal

pub returns : goal.returns
returns c = joining.differ_same 4 c.args.a.now c.args.b.now c.big4.result c.big4-2.result (λ i. omega (arith, c.shared_slice_known-1.given i)) (λ i. omega (arith, c.shared_slice_known-2-1.given i)) c.requires.0 c.requires.1 c.big4.ensures c.big4-2.ensures
