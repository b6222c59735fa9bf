use Rattle.rules.proofs.Bools as bools
use Rattle.lists.proofs.Lister as lister
use Rattle.rules.proofs.Stored.Parts as parts
use borrow.Author.Tests.{eqb-true, ne_eqb}
use mathlib.Core.Path.{sym, ◌∙◌}
use native.Mathlib.Omega.{arith}
use Rattle.lists.proofs.Short.is_place.Goals.{then-size_of-n, else-size_of-n, then-tag_of-eq-FIELD_TAG, else-tag_of-eq-FIELD_TAG}
use Rattle.lists.proofs.Short.is_place.Goals as goal

pub returns-then-tag_of-eq-WORD_TAG : goal.returns-then-tag_of-eq-WORD_TAG
returns-then-tag_of-eq-WORD_TAG c = λ z. elim c.if-tag_of-eq-FIELD_TAG.branch [
  | then-tag_of-eq-FIELD_TAG v ↦ elim c.if-size_of-n.branch [
    | then-size_of-n w ↦ lister.short_place c.args.self.bytes.now (parts.cut_from 3 c.args.self.bytes.now) c.size_of-f.ensures.0
        (parts.cut_rest _ _ c.size_of-f.ensures.0) c.args.self.least c.args.self.most (omega (arith, c.if-f-n.false)) (sym c.size_of.ensures.0 ∙ w.if-size_of-n.true)
        (sym w.tag_of.ensures ∙ eqb-true _ _ (sym w.value-is ∙ v.if-tag_of-eq-FIELD_TAG.true)) (sym v.tag_of-then-tag_of-eq-FIELD_TAG.ensures ∙ eqb-true _ _ (sym v.value-is ∙ c.if-tag_of-eq-WORD_TAG.true)) (c.is_ascii.ensures z)
    | else-size_of-n w ↦ bools.clash (sym w.value-is ∙ v.if-tag_of-eq-FIELD_TAG.true) (ne_eqb _ _ w.if-size_of-n.false)
  ]
  | else-tag_of-eq-FIELD_TAG v ↦ bools.clash (sym v.value-is ∙ c.if-tag_of-eq-WORD_TAG.true) v.if-tag_of-eq-FIELD_TAG.false
]
