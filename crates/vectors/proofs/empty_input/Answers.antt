-- `vectors::empty_input`: as many zeros as are asked for. By the lemma, since a search would count them.
use Rattle.std.proofs.Common.{sym, ℕ}
use lib.ListN.{length-replicate}
use Rattle.vectors.proofs.empty_input.Goals as goal

pub returns : goal.returns
returns c = sym (length-replicate {0} {A = ℕ} 524288 0)
