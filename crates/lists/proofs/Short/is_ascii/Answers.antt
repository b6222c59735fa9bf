use Rattle.rules.proofs.Bools as bools
use Rattle.lists.proofs.Lister as lister
use borrow.Author.Tests.{ne_eqb}
use mathlib.Core.Path.{sym, ◌∙◌}
use Rattle.lists.proofs.Short.is_ascii.Goals.{then-tops8-eq0, else-tops8-eq0, then-tops8-eq0-2, else-tops8-eq0-2}
use Rattle.lists.proofs.Short.is_ascii.Goals as goal

pub returns-then-s-le-THREE_WORDS : goal.returns-then-s-le-THREE_WORDS
returns-then-s-le-THREE_WORDS c = λ z. elim c.if-tops8-eq0-2.branch [
  | then-tops8-eq0-2 v ↦ elim c.if-tops8-eq0.branch [
    | then-tops8-eq0 w ↦ lister.three_words c.args.self.bytes.now c.args.self.least c.if-s-le-THREE_WORDS.true (lister.word_clear _ c.args.self.bytes.now c.tops8.ensures w.if-tops8-eq0.true) (lister.word_told _ c.args.self.bytes.now _ w.tops8-then-tops8-eq0.ensures (sym w.value-is ∙ v.if-tops8-eq0-2.true)) (lister.word_told 6 c.args.self.bytes.now _ v.tops8-then-tops8-eq0-2.ensures (sym v.value-is ∙ c.if-tops8-eq0-3.true))
    | else-tops8-eq0 w ↦ bools.clash (sym w.value-is ∙ v.if-tops8-eq0-2.true) (ne_eqb _ _ w.if-tops8-eq0.false)
  ]
  | else-tops8-eq0-2 v ↦ bools.clash (sym v.value-is ∙ c.if-tops8-eq0-3.true) v.if-tops8-eq0-2.false
]

pub returns-else-s-le-THREE_WORDS : goal.returns-else-s-le-THREE_WORDS
returns-else-s-le-THREE_WORDS c = λ z. elim c.if-tops8-eq0-2.branch [
  | then-tops8-eq0-2 v ↦ elim c.if-tops8-eq0.branch [
    | then-tops8-eq0 w ↦ lister.four_words c.args.self.bytes.now c.args.self.least c.args.self.most (lister.word_clear _ c.args.self.bytes.now c.tops8.ensures w.if-tops8-eq0.true) (lister.word_told _ c.args.self.bytes.now _ w.tops8-then-tops8-eq0.ensures (sym w.value-is ∙ v.if-tops8-eq0-2.true)) (lister.word_told 6 c.args.self.bytes.now _ v.tops8-then-tops8-eq0-2.ensures (sym v.value-is ∙ c.if-tops8-eq0-3.true)) (lister.word_told 14 c.args.self.bytes.now _ c.tops8-else-s-le-THREE_WORDS.ensures z)
    | else-tops8-eq0 w ↦ bools.clash (sym w.value-is ∙ v.if-tops8-eq0-2.true) (ne_eqb _ _ w.if-tops8-eq0.false)
  ]
  | else-tops8-eq0-2 v ↦ bools.clash (sym v.value-is ∙ c.if-tops8-eq0-3.true) v.if-tops8-eq0-2.false
]
