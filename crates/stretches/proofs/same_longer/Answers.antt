-- `stretches::same_longer` meets its contract.
use Prim.Native.Nat.{◌-◌}
use Rattle.rules.proofs.Chains as chains
use Rattle.stretches.proofs.Joining as joining
use borrow.Author.Tests.{eq-eqb, ne_eqb}
use lib.ListN.{length}
use mathlib.Core.Path.{sym, ◌∙◌}
use native.Mathlib.Omega.{arith}
use Rattle.stretches.proofs.same_longer.Goals as goal

pub differ8-requires : goal.differ8-requires
differ8-requires c = (omega (arith, joining.last_length (length c.args.a.now - 8) c.args.a.now), omega (arith, c.requires.0, joining.last_length (length c.args.a.now - 8) c.args.b.now))

pub returns-then-differ8-ne0 : goal.returns-then-differ8-ne0
returns-then-differ8-ne0 c = chains.off _ (sym c.differ8.ensures ∙ ne_eqb _ _ c.if-differ8-ne0.true) ∙ sym (joining.same_two 8 (length c.args.a.now - 8) c.args.a.now c.args.b.now c.requires.0 (omega (arith, c.requires.1)) (omega (arith, c.if-n-gt16.false)))

pub returns : goal.returns
returns c = chains.on (sym c.differ8.ensures ∙ eq-eqb _ _ c.if-differ8-ne0.false) c.differ8-2.ensures ∙ sym (joining.same_two 8 (length c.args.a.now - 8) c.args.a.now c.args.b.now c.requires.0 (omega (arith, c.requires.1)) (omega (arith, c.if-n-gt16.false)))
