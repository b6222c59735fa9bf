use Rattle.lists.proofs.Lister as lister
use native.Mathlib.Omega.{arith}
use Rattle.lists.proofs.Short.first.Goals as goal

pub returns : goal.returns
returns c = lister.first c.args.s.now (omega (arith, c.wide-e.ensures.0, c.if-s-ne0.false)) (omega (arith, c.wide-e.ensures.0, c.if-s-ne0.false, c.if-e-s.false))
