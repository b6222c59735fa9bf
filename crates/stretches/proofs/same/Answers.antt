-- `stretches::same` meets its contract.
use Rattle.stretches.proofs.Joining as joining
use Rattle.stretches.proofs.same.Goals as goal

pub returns-then-a-b : goal.returns-then-a-b
returns-then-a-b c = joining.same_length c.args.a.now c.args.b.now c.if-a-b.true

pub returns-then-a-lt8 : goal.returns-then-a-lt8
returns-then-a-lt8 c = c.same_short.ensures

pub returns : goal.returns
returns c = c.same_longer.ensures
