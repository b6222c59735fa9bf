-- `merging::merge::is_few` meets its contract.
use Rattle.merging.proofs.Alike as alike
use Rattle.merging.proofs.merge.is_few.Given as goal

abbrev pub invariant-loop : goal.invariant-loop
invariant-loop l = alike.Counting l.clauses l.t l.counter
