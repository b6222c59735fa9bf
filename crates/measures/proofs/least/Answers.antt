-- `measures::least` meets its contract.
use Prim.Native.Nat.{ℕ}
use Rattle.rules.proofs.Stored.Parts as parts
use Rattle.rules.specs.Bytes.{of_big}
use borrow.Author.Tests.{eq-eqb, ne_eqb}
use lib.ListN.{take}
use mathlib.Core.List.{List}
use mathlib.Core.Path.{sym, ap, ◌∙◌}
use native.Mathlib.Omega.{arith}
use Rattle.measures.proofs.least.Goals as goal

pub slice_bounds-big2-count : goal.slice_bounds-big2-count
slice_bounds-big2-count c = omega (arith, c.requires.1 c.if-t-eq-BOOLEAN_TAG.true)

pub slice_bounds-big2-start : goal.slice_bounds-big2-start
slice_bounds-big2-start c = omega (arith, c.requires.1 c.if-t-eq-BOOLEAN_TAG.true)

pub big2-requires : goal.big2-requires
big2-requires c = simp (parts.cut_from 6 c.args.t.now, lib.ListN.length-drop) (omega (arith, c.requires.1 c.if-t-eq-BOOLEAN_TAG.true))

pub returns-then-t-eq-BOOLEAN_TAG : goal.returns-then-t-eq-BOOLEAN_TAG
returns-then-t-eq-BOOLEAN_TAG c = (c.big2.ensures.0 ∙ ap (λ (l : List ℕ). of_big (take 2 l)) (parts.cut_from 6 c.args.t.now) ∙ sym (rw (eq-eqb _ _ c.if-t-eq-BOOLEAN_TAG.true)), c.big2.ensures.1)

pub returns-else-t-eq-BOOLEAN_TAG : goal.returns-else-t-eq-BOOLEAN_TAG
returns-else-t-eq-BOOLEAN_TAG c = (sym (rw (ne_eqb _ _ c.if-t-eq-BOOLEAN_TAG.false)), omega arith)
