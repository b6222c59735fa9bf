-- `tokens::next_piece` meets its contract: behind the end, of words, of runs. Assumes nothing.
use Rattle.analysis.proofs.Steps.{past_piece, word_piece}
use mathlib.Core.Path.{sym, ◌∙◌}
use native.Mathlib.Omega.{arith}
use Rattle.analysis.proofs.tokens.next_piece.Goals as goal

pub returns-then-text-at : goal.returns-then-text-at
returns-then-text-at c = past_piece _ _ _ c.if-text-at.true

pub returns-then-is_words : goal.returns-then-is_words
returns-then-is_words c = word_piece c.next_word.result (λ p. p.start) (λ p. p.len) _ _ _ (sym c.is_words.ensures ∙ c.if-is_words.true) (omega (arith, c.if-text-at.false)) c.next_word.ensures
