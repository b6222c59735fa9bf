-- `vectors::line::decimal`: a turn of the loop, and its end.
use Rattle.std.proofs.Common.{◌∙◌, sym, arith}
use Rattle.vectors.proofs.Reading.{decimal_turn, decimal_end}
use Rattle.vectors.proofs.line.decimal.Goals as goal

pub loop-c-preserved : goal.loop-c-preserved
loop-c-preserved c = decimal_turn c.args.s.now c.loop-c.n c.loop-c.c-index c.loop-c-test.true _ c.from.ensures ∙ c.loop-c.invariant

pub returns : goal.returns
returns c = sym (decimal_end c.args.s.now c.loop-c.n c.loop-c.c-index (omega (arith, c.loop-c-test.false))) ∙ c.loop-c.invariant
