-- `show::lines::find` meets its contract.
use Rattle.show.proofs.Cutting as cutting
use native.Mathlib.Omega.{arith}
use Rattle.show.proofs.lines.find.Goals as goal

pub loop-i-init : goal.loop-i-init
loop-i-init c = (omega arith, omega arith)

pub returns-then-c-b : goal.returns-then-c-b
returns-then-c-b c = cutting.here c.args.s.now c.args.b c.loop-i.i c.loop-i.invariant c.loop-i-test.true c.if-c-b.true

pub loop-i-preserved : goal.loop-i-preserved
loop-i-preserved c = cutting.onward c.args.s.now c.args.b c.loop-i.i c.loop-i.invariant c.loop-i-test.true c.if-c-b.false

pub returns : goal.returns
returns c = omega (arith, cutting.nowhere c.args.s.now c.args.b c.loop-i.i c.loop-i.invariant (omega (arith, c.loop-i-test.false)), c.loop-i.invariant.0, c.loop-i-test.false)
