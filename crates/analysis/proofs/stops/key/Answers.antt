-- `stops::key` meets its contract. The loop's invariant: the number of what was passed. Assumes nothing.
use Rattle.analysis.proofs.Packing.{key_most, key_turn, key_end, packed_end}
use mathlib.Core.Path.{◌∙◌}
use native.Mathlib.Omega.{arith}
use Rattle.analysis.proofs.stops.key.Goals as goal

pub loop-i-init : goal.loop-i-init
loop-i-init c = packed_end c.args.word.now

pub overflow_mul-key : goal.overflow_mul-key
overflow_mul-key c = omega (arith, c.loop-i.invariant, key_most c.args.word.now c.loop-i.i (λ j. omega (arith, c.type_inv.word j)) c.loop-i-test.true c.requires)

pub overflow_add-key : goal.overflow_add-key
overflow_add-key c = omega (arith, c.loop-i.invariant, key_most c.args.word.now c.loop-i.i (λ j. omega (arith, c.type_inv.word j)) c.loop-i-test.true c.requires)

pub loop-i-preserved : goal.loop-i-preserved
loop-i-preserved c = key_turn c.args.word.now c.loop-i.i c.loop-i-test.true c.loop-i.auto.i c.loop-i.invariant (c.from.ensures ∙ c.lower.ensures)

pub returns : goal.returns
returns c = key_end c.args.word.now c.loop-i.i c.loop-i-test.false c.loop-i.invariant
