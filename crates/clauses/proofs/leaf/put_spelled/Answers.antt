-- `clauses::leaf::put_spelled` meets its contract.
use Rattle.clauses.proofs.Writing.{spelled_turn, spelled_put}
use lib.ListN.{length-set}
use Rattle.clauses.proofs.leaf.put_spelled.Goals as goal

pub loop-k-preserved : goal.loop-k-preserved
loop-k-preserved c = (c.loop-k.invariant.0, simp length-set c.loop-k.invariant.1, spelled_turn c.args.analyzer c.args.out.now c.loop-k.out c.args.s.now c.args.at c.loop-k.k _ c.loop-k.invariant.0 c.loop-k-test.true c.written.ensures c.loop-k.invariant.2)

pub returns : goal.returns
returns c = spelled_put c.args.analyzer c.args.out.now c.loop-k.out c.args.s.now c.args.at c.loop-k.k c.loop-k.auto.k-end c.loop-k-test.false c.loop-k.invariant.2
