-- `stretches::differ8` meets its contract.
use Rattle.stretches.proofs.Joining as joining
use native.Mathlib.Omega.{arith}
use Rattle.stretches.proofs.differ8.Goals as goal

pub returns : goal.returns
returns c = joining.differ_same 8 c.args.a.now c.args.b.now c.big8.result c.big8-2.result (λ i. omega (arith, c.shared_slice_known-1.given i)) (λ i. omega (arith, c.shared_slice_known-2-1.given i)) c.requires.0 c.requires.1 c.big8.ensures c.big8-2.ensures
