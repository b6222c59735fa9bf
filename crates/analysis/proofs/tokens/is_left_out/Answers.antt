-- `tokens::is_left_out` meets its contract. Assumes nothing.
use Rattle.analysis.proofs.Packing.{english_told}
use Rattle.analysis.proofs.tokens.is_left_out.Goals as goal

pub returns-then-analyzer-eq-ENGLISH_ANALYZER : goal.returns-then-analyzer-eq-ENGLISH_ANALYZER
returns-then-analyzer-eq-ENGLISH_ANALYZER c = english_told _ _ c.if-analyzer-eq-ENGLISH_ANALYZER.true c.is_stop_word.ensures
