-- `words::seek` meets its contract. The loop's invariant: what was passed has no letter and no digit, and what is behind `start` holds. Assumes nothing.
use Rattle.analysis.proofs.Seeking.{Seeking}
use Rattle.analysis.proofs.words.seek.Given as goal

abbrev pub invariant-loop-i : goal.invariant-loop-i
invariant-loop-i l = Seeking l.text l.at l.start l.i
