-- `stretches::same_short` meets its contract.
use Prim.Native.Nat.{◌-◌}
use Rattle.rules.proofs.Chains as chains
use Rattle.stretches.proofs.Joining as joining
use borrow.Author.Tests.{eq-eqb, ne_eqb}
use lib.ListN.{length}
use mathlib.Core.Path.{refl, sym, ◌∙◌}
use native.Mathlib.Omega.{arith}
use Rattle.stretches.proofs.same_short.Goals as goal

pub differ4-requires : goal.differ4-requires
differ4-requires c = (omega (arith, joining.last_length (length c.args.a.now - 4) c.args.a.now), omega (arith, c.requires.0, joining.last_length (length c.args.a.now - 4) c.args.b.now))

pub returns-then-differ4-ne0 : goal.returns-then-differ4-ne0
returns-then-differ4-ne0 c = chains.off _ (sym c.differ4.ensures ∙ ne_eqb _ _ c.if-differ4-ne0.true) ∙ sym (joining.same_two 4 (length c.args.a.now - 4) c.args.a.now c.args.b.now c.requires.0 (omega (arith, c.if-n-ge4.true)) (omega (arith, c.requires.1)))

pub returns-then-n-ge4 : goal.returns-then-n-ge4
returns-then-n-ge4 c = chains.on (sym c.differ4.ensures ∙ eq-eqb _ _ c.if-differ4-ne0.false) c.differ4-then-n-ge4.ensures ∙ sym (joining.same_two 4 (length c.args.a.now - 4) c.args.a.now c.args.b.now c.requires.0 (omega (arith, c.if-n-ge4.true)) (omega (arith, c.requires.1)))

pub returns-then-n-eq0 : goal.returns-then-n-eq0
returns-then-n-eq0 c = joining.no_same c.args.a.now c.args.b.now c.requires.0 c.if-n-eq0.true

pub returns : goal.returns
returns c = joining.three_same c.args.a.now c.args.b.now _ refl c.requires.0 (omega (arith, c.if-n-eq0.false)) c.if-n-ge4.false
