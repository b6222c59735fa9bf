-- `stretches::is_short_text` meets its contract.
use Prim.Native.Nat.{◌-◌}
use Rattle.rules.proofs.Chains as chains
use Rattle.stretches.proofs.Joining as joining
use borrow.Author.Tests.{eq-eqb, ne_eqb}
use lib.ListN.{length}
use mathlib.Core.Path.{refl, sym, ◌∙◌}
use native.Mathlib.Omega.{arith}
use Rattle.stretches.proofs.is_short_text.Goals as goal

pub tops4-requires : goal.tops4-requires
tops4-requires c = omega (arith, joining.last_length (length c.args.s.now - 4) c.args.s.now)

pub returns-then-tops4-ne0 : goal.returns-then-tops4-ne0
returns-then-tops4-ne0 c = chains.off _ (sym c.tops4.ensures ∙ ne_eqb _ _ c.if-tops4-ne0.true) ∙ sym (joining.text_two 4 (length c.args.s.now - 4) c.args.s.now (omega (arith, c.if-n-ge4.true)) (omega (arith, c.requires)))

pub returns-then-n-ge4 : goal.returns-then-n-ge4
returns-then-n-ge4 c = chains.on (sym c.tops4.ensures ∙ eq-eqb _ _ c.if-tops4-ne0.false) c.tops4-then-n-ge4.ensures ∙ sym (joining.text_two 4 (length c.args.s.now - 4) c.args.s.now (omega (arith, c.if-n-ge4.true)) (omega (arith, c.requires)))

pub returns-then-n-eq0 : goal.returns-then-n-eq0
returns-then-n-eq0 c = joining.no_text c.args.s.now c.if-n-eq0.true

pub bounds-s-n : goal.bounds-s-n
bounds-s-n c = omega (arith, c.if-n-ge4.false, c.if-n-eq0.false)

pub bounds-s-n-2 : goal.bounds-s-n-2
bounds-s-n-2 c = omega (arith, c.if-n-eq0.false)

pub returns : goal.returns
returns c = joining.three_text c.args.s.now _ refl (omega (arith, c.if-n-eq0.false)) c.if-n-ge4.false
