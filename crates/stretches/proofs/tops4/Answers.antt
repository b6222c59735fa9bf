-- `stretches::tops4` meets its contract.
use Rattle.stretches.proofs.Joining as joining
use native.Mathlib.Omega.{arith}
use Rattle.stretches.proofs.tops4.Goals as goal

pub returns : goal.returns
returns c = joining.tops_text 4 c.args.s.now c.big4.result (λ i. omega (arith, c.shared_slice_known-1.given i)) c.requires c.big4.ensures
