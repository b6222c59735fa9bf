-- `boost::digits::number_of` meets its contract. Assumes nothing.
use Rattle.std.proofs.Common.{arith, sym, lit<}
use Rattle.boost.proofs.Runs.{digits_none, number_next, number_fits}
use Rattle.boost.proofs.digits.number_of.Goals as goal

pub loop-c-init : goal.loop-c-init
loop-c-init c = (sym (digits_none 0), lit< tt)

pub overflow_mul-v : goal.overflow_mul-v
overflow_mul-v c = let l = number_fits c.loop-c.v c.loop-c.c-index c.loop-c.invariant.1 (omega (arith, c.requires.few)) in omega arith

pub overflow_add-v : goal.overflow_add-v
overflow_add-v c = let l = number_fits c.loop-c.v c.loop-c.c-index c.loop-c.invariant.1 (omega (arith, c.requires.few)) in omega arith

pub loop-c-preserved : goal.loop-c-preserved
loop-c-preserved c = number_next c.args.digits.now c.loop-c.c-index c.loop-c.v c.requires.digits (omega arith) c.loop-c.invariant.0 c.loop-c.invariant.1
