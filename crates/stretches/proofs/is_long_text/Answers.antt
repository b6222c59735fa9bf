-- `stretches::is_long_text` meets its contract.
use Rattle.stretches.proofs.Joining as joining
use native.Mathlib.Omega.{arith}
use Rattle.stretches.proofs.is_long_text.Goals as goal

pub loop-i-preserved : goal.loop-i-preserved
loop-i-preserved c = joining.text_turn c.args.s.now c.loop-i.i c.loop-i.seen (omega arith) c.loop-i.invariant

pub returns : goal.returns
returns c = joining.text_end c.args.s.now c.loop-i.i c.loop-i.seen (omega arith) c.loop-i.invariant
