-- `boost::numeral::word` meets its contract. Assumes nothing.
use Rattle.boost.proofs.Words.{word_inf, word_infinity, word_nan, word_none}
use Rattle.boost.proofs.numeral.word.Goals as goal
use Rattle.boost.proofs.numeral.word.Goals.{then-is_word-via-then-is_word, then-is_word-via-else-is_word+then-is_word-2}

pub returns-then-is_word : goal.returns-then-is_word
returns-then-is_word c = elim c.then-is_word.branch [
  | then-is_word-via-then-is_word w ↦ word_inf c.args.s.now c.is_word.result c.is_word.ensures w.if-is_word.true
  | then-is_word-via-else-is_word+then-is_word-2 w ↦ word_infinity c.args.s.now c.is_word.result c.is_word.ensures w.if-is_word.false w.is_word-else-is_word.result w.is_word-else-is_word.ensures w.if-is_word-2.true
]

pub returns-then-is_word-3 : goal.returns-then-is_word-3
returns-then-is_word-3 c = word_nan c.args.s.now c.is_word.result c.is_word.ensures c.if-is_word.false c.is_word-else-is_word.result c.is_word-else-is_word.ensures c.if-is_word-2.false c.is_word-2.result c.is_word-2.ensures c.if-is_word-3.true

pub returns : goal.returns
returns c = word_none c.args.s.now c.is_word.result c.is_word.ensures c.if-is_word.false c.is_word-else-is_word.result c.is_word-else-is_word.ensures c.if-is_word-2.false c.is_word-2.result c.is_word-2.ensures c.requires c.if-is_word-3.false
