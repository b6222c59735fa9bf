-- `stretches::tops8` meets its contract.
use Rattle.stretches.proofs.Joining as joining
use native.Mathlib.Omega.{arith}
use Rattle.stretches.proofs.tops8.Goals as goal

pub returns : goal.returns
returns c = joining.tops_text 8 c.args.s.now c.big8.result (λ i. omega (arith, c.type_inv.s i)) c.requires c.big8.ensures
