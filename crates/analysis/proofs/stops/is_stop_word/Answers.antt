-- `stops::is_stop_word` meets its contract: a longer word is none, and a shorter one is told by its number. Assumes nothing.
use Rattle.analysis.proofs.Packing.{stop_long, stop_word_told}
use borrow.Author.Tests.{lt-leb}
use mathlib.Core.Path.{◌∙◌}
use native.Mathlib.Omega.{arith}
use Rattle.analysis.proofs.stops.is_stop_word.Goals as goal

pub returns-then-word-le-STOP_MOST : goal.returns-then-word-le-STOP_MOST
returns-then-word-le-STOP_MOST c = stop_word_told c.args.word.now (λ j. omega (arith, c.type_inv.word j)) c.key.ensures c.is_stop_key.ensures

pub returns-else-word-le-STOP_MOST : goal.returns-else-word-le-STOP_MOST
returns-else-word-le-STOP_MOST c = lt-leb _ _ c.if-word-le-STOP_MOST.false ∙ stop_long c.args.word.now c.if-word-le-STOP_MOST.false
