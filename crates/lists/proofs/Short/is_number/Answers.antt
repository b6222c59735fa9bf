use Rattle.rules.proofs.Bools as bools
use Rattle.lists.proofs.Lister as lister
use Rattle.rules.proofs.Stored.Parts as parts
use borrow.Author.Tests.{eqb-true, ne_eqb}
use mathlib.Core.Path.{sym, ◌∙◌}
use native.Mathlib.Omega.{arith}
use Rattle.lists.proofs.Short.is_number.Goals.{then-size_of-eq-NUMBER_BYTES, else-size_of-eq-NUMBER_BYTES, then-tag_of-eq-FIELD_TAG, else-tag_of-eq-FIELD_TAG}
use Rattle.lists.proofs.Short.is_number.Goals as goal

pub returns-then-tag_of-eq-VALUE_TAG : goal.returns-then-tag_of-eq-VALUE_TAG
returns-then-tag_of-eq-VALUE_TAG c = λ z. elim c.if-tag_of-eq-FIELD_TAG.branch [
  | then-tag_of-eq-FIELD_TAG v ↦ elim c.if-size_of-eq-NUMBER_BYTES.branch [
    | then-size_of-eq-NUMBER_BYTES w ↦ lister.short_number c.args.self.bytes.now (parts.cut_from 3 c.args.self.bytes.now) c.size_of-f.ensures.0
        (parts.cut_rest _ _ c.size_of-f.ensures.0) c.if-b-f.false (omega (arith, c.if-f-lt2.false)) (omega (arith, c.if-f-gt8.false)) (sym c.size_of.ensures.0 ∙ w.if-size_of-eq-NUMBER_BYTES.true)
        (sym w.tag_of.ensures ∙ eqb-true _ _ (sym w.value-is ∙ v.if-tag_of-eq-FIELD_TAG.true)) (sym v.tag_of-then-tag_of-eq-FIELD_TAG.ensures ∙ eqb-true _ _ (sym v.value-is ∙ c.if-tag_of-eq-VALUE_TAG.true)) (lister.word_told _ c.args.self.bytes.now _ c.tops8.ensures z)
    | else-size_of-eq-NUMBER_BYTES w ↦ bools.clash (sym w.value-is ∙ v.if-tag_of-eq-FIELD_TAG.true) (ne_eqb _ _ w.if-size_of-eq-NUMBER_BYTES.false)
  ]
  | else-tag_of-eq-FIELD_TAG v ↦ bools.clash (sym v.value-is ∙ c.if-tag_of-eq-VALUE_TAG.true) v.if-tag_of-eq-FIELD_TAG.false
]
