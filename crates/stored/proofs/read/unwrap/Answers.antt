-- `stored::read::unwrap` meets its contract.
use Rattle.stored.proofs.Opening as opening
use Rattle.stored.proofs.read.unwrap.Goals as goal

pub returns-in-Row : goal.returns-in-Row
returns-in-Row c = rw c.behind.ensures (opening.opened_row c.loop-e.invariant _ (rw c.in-Row.is at c.in_ok-e.ensures))

pub loop-e-preserved : goal.loop-e-preserved
loop-e-preserved c = rw c.behind-here.ensures (opening.opened_query c.loop-e.invariant _ (rw c.in-Inner.is at c.in_ok-e.ensures))
