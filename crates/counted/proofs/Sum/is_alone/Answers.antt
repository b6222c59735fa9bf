-- `counted::Sum::is_alone` meets its contract.
use Rattle.counted.proofs.Deciding.{alone_one, alone_not}
use borrow.Author.Tests.{ne_eqb}
use Rattle.counted.proofs.Sum.is_alone.Goals as goal

pub returns-then-self-eq1 : goal.returns-then-self-eq1
returns-then-self-eq1 c = λ cs bytes s. alone_one c.args.self.tag cs s c.if-self-eq1.true

pub returns-else-self-eq1 : goal.returns-else-self-eq1
returns-else-self-eq1 c = λ cs bytes s. rw (ne_eqb _ 1 c.if-self-eq1.false) (alone_not cs s c.if-self-eq1.false)
