-- `merging::merge::Boolean::eats` meets its contract.
use Rattle.merging.proofs.Eating as eating
use Rattle.merging.proofs.merge.Boolean.eats.Goals as goal

pub returns-then-stands_for : goal.returns-then-stands_for
returns-then-stands_for c = eating.eats_alike c.args.self.strict c.args.self.least c.args.k c.args.h.now c.args.j c.args.q.now _ c.stands_for.ensures c.if-stands_for.true _ c.held.ensures _ c.same.ensures
