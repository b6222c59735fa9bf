-- `merging::merge::Boolean::eat_others` meets its contract.
use Rattle.merging.proofs.Alike as alike
use Rattle.merging.proofs.merge.Boolean.eat_others.Goals as goal

pub returns-in-Some : goal.returns-in-Some
returns-in-Some c = alike.alone_ate c.in-Some.t.now _ c.requires.0 (rw c.in-Some.is at c.requires.1) (c.is_alone.ensures c.if-is_alone.true)
