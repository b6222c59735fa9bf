-- `fields::analyzer_of` meets its contract. The loop's invariant: the entries from the k-th on are not the field's. Assumes nothing.
use Rattle.fields.proofs.Rows.{among_to, among_none, among_last_one}
use Rattle.fields.specs.Fields.{array_entries}
use mathlib.Core.Path.{◌≡◌, sym, ◌∙◌}
use Prim.Native.Nat.{ℕ}
use lib.ListN.{length-take}
use native.Mathlib.Omega.{arith}
use Rattle.fields.proofs.analyzer_of.Goals as goal

pub loop-k-init : goal.loop-k-init
unfolding array_entries among_to
loop-k-init c = rw c.min-k.ensures

pub returns-then-eq : goal.returns-then-eq
returns-then-eq c = sym (c.loop-k.invariant ∙ among_last_one _ _ _ _ _ c.loop-k.k c.loop-k-test.true (c.min.ensures ∙ rw c.from.ensures) (omega (arith, length-take {A = ℕ})) c.eq.ensures ∙ rw c.if-eq.true)

pub loop-k-preserved : goal.loop-k-preserved
loop-k-preserved c = c.loop-k.invariant ∙ among_last_one _ _ _ _ _ c.loop-k.k c.loop-k-test.true (c.min.ensures ∙ rw c.from.ensures) (omega (arith, length-take {A = ℕ})) c.eq.ensures ∙ rw c.if-eq.false

pub returns : goal.returns
returns c = let e : c.loop-k.k ≡ 0 = omega arith in sym (c.loop-k.invariant ∙ rw e (among_none _ _ _ _ _))
