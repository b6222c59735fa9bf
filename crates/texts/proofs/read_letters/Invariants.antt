-- `texts::read_letters` meets its contract. The loop's invariant: the first bytes of `out` are those of the term, and letters. Assumes nothing.
use Rattle.texts.proofs.Unescaped.{Lettered}
use Rattle.texts.proofs.read_letters.Given as goal

abbrev pub invariant-loop-i : goal.invariant-loop-i
invariant-loop-i l = Lettered l.term l.out l.i
