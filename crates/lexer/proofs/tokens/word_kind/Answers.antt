-- `tokens::word_kind` meets its contract: the text is compared with each operator's word, in the definition's order. Assumes nothing.
use Rattle.lexer.proofs.Words.{same_told}
use Rattle.rules.specs.Bytes.{ascii}
use Rattle.rules.specs.Lexing.{word_kind}
use Rattle.lexer.proofs.tokens.word_kind.Goals as goal

pub returns-then-eq : goal.returns-then-eq
unfolding word_kind ascii
returns-then-eq c = rw (same_told _ _ _ c.eq.ensures c.as_slice.ensures c.if-eq.true)

pub returns-then-eq-2 : goal.returns-then-eq-2
unfolding word_kind ascii
returns-then-eq-2 c = rw (same_told _ _ _ c.eq.ensures c.as_slice.ensures c.if-eq.false, same_told _ _ _ c.eq-else-eq.ensures c.as_slice-else-eq.ensures c.if-eq-2.true)

pub returns-then-eq-3 : goal.returns-then-eq-3
unfolding word_kind ascii
returns-then-eq-3 c =
    rw (
      same_told _ _ _ c.eq.ensures c.as_slice.ensures c.if-eq.false,
      same_told _ _ _ c.eq-else-eq.ensures c.as_slice-else-eq.ensures c.if-eq-2.false,
      same_told _ _ _ c.eq-else-eq-2.ensures c.as_slice-else-eq-2.ensures c.if-eq-3.true,
    )

pub returns-else-eq-3 : goal.returns-else-eq-3
unfolding word_kind ascii
returns-else-eq-3 c =
    rw (
      same_told _ _ _ c.eq.ensures c.as_slice.ensures c.if-eq.false,
      same_told _ _ _ c.eq-else-eq.ensures c.as_slice-else-eq.ensures c.if-eq-2.false,
      same_told _ _ _ c.eq-else-eq-2.ensures c.as_slice-else-eq-2.ensures c.if-eq-3.false,
    )
