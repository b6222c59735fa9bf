use Rattle.batch.proofs.Planning as planning
use Rattle.batch.proofs.plan.push_words.Given as goal

abbrev pub invariant-loop-i : goal.invariant-loop-i
invariant-loop-i l = planning.Going l.initial.masks l.wanted l.i l.masks
