-- `stretches::is_pair_text` meets its contract.
use Prim.Native.Nat.{◌-◌}
use Rattle.rules.proofs.Chains as chains
use Rattle.stretches.proofs.Joining as joining
use borrow.Author.Tests.{eq-eqb, ne_eqb}
use lib.ListN.{length}
use mathlib.Core.Path.{sym, ◌∙◌}
use native.Mathlib.Omega.{arith}
use Rattle.stretches.proofs.is_pair_text.Goals as goal

pub tops8-requires : goal.tops8-requires
tops8-requires c = omega (arith, joining.last_length (length c.args.s.now - 8) c.args.s.now)

pub returns-then-tops8-ne0 : goal.returns-then-tops8-ne0
returns-then-tops8-ne0 c = chains.off _ (sym c.tops8.ensures ∙ ne_eqb _ _ c.if-tops8-ne0.true) ∙ sym (joining.text_two 8 (length c.args.s.now - 8) c.args.s.now (omega (arith, c.requires.0)) (omega (arith, c.requires.1)))

pub returns : goal.returns
returns c = chains.on (sym c.tops8.ensures ∙ eq-eqb _ _ c.if-tops8-ne0.false) c.tops8-2.ensures ∙ sym (joining.text_two 8 (length c.args.s.now - 8) c.args.s.now (omega (arith, c.requires.0)) (omega (arith, c.requires.1)))
