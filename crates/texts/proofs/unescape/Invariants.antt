-- `texts::unescape` meets its contract. The loop's invariant: what the room holds from `at` on, before what is still to be read, is the term. The measure is what is left of the text. Assumes nothing.
use Rattle.std.proofs.Common.{length}
use Rattle.texts.proofs.Unescaped.{Reading}
use Rattle.texts.proofs.unescape.Given as goal

abbrev pub invariant-loop-rest : goal.invariant-loop-rest
invariant-loop-rest g l = Reading (λ c b. goal.F-post g l.ends c b) l.text l.from l.rest l.out l.len

abbrev pub decreases-loop-rest : goal.decreases-loop-rest
decreases-loop-rest g l = length l.rest
