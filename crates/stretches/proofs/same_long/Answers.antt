-- `stretches::same_long` meets its contract.
use Rattle.stretches.proofs.Joining as joining
use native.Mathlib.Omega.{arith}
use Rattle.stretches.proofs.same_long.Goals as goal

pub loop-i-preserved : goal.loop-i-preserved
loop-i-preserved c = joining.same_turn c.args.a.now c.args.b.now c.loop-i.i c.loop-i.seen (omega arith) (omega arith) c.loop-i.invariant

pub returns : goal.returns
returns c = joining.same_end c.args.a.now c.args.b.now c.loop-i.i c.loop-i.seen (omega arith) (omega arith) c.loop-i.invariant
