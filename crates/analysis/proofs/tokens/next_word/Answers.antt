-- `tokens::next_word` meets its contract: no word is left, or a chunk of the first. Assumes nothing.
use Rattle.analysis.proofs.Seeking.{found_none, found_some, word_past}
use native.Mathlib.Omega.{arith}
use Rattle.analysis.proofs.tokens.next_word.Goals as goal

pub returns-then-n-start : goal.returns-then-n-start
returns-then-n-start c = found_none c.start_of-start.ensures c.if-n-start.true

pub overflow_sub-result : goal.overflow_sub-result
overflow_sub-result c = omega (arith, word_past c.start_of-start.ensures c.if-n-start.false c.chunk_end.ensures c.end_of-end.ensures)

pub returns : goal.returns
returns c = (
  found_some c.start_of-start.ensures c.if-n-start.false c.chunk_end.ensures c.end_of-end.ensures,
  omega (arith, word_past c.start_of-start.ensures c.if-n-start.false c.chunk_end.ensures c.end_of-end.ensures),
)
