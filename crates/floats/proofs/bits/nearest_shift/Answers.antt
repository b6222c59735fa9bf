-- `floats::bits::nearest_shift` meets its contract (`proofs/Shift.antt`). Assumes nothing.
use Rattle.floats.proofs.Shift.{sub_ok, below, above, at, small}
use native.Mathlib.Omega.{arith}
use Rattle.floats.proofs.bits.nearest_shift.Goals as goal

pub overflow_sub-r : goal.overflow_sub-r
overflow_sub-r c = sub_ok c.args.n c.args.d c.ranges.n.fits c.requires.le_d c.requires.d_bound

pub returns-then-r-h : goal.returns-then-r-h
returns-then-r-h c = below c.args.n c.args.d c.ranges.n.fits c.requires.le_d c.requires.d_bound c.if-r-h.true

pub overflow_add-result : goal.overflow_add-result
overflow_add-result c = let s = small c.args.n c.args.d c.ranges.n.fits c.requires.le_d c.requires.d_bound in omega arith

pub returns-then-h-r : goal.returns-then-h-r
returns-then-h-r c = above c.args.n c.args.d c.ranges.n.fits c.requires.le_d c.requires.d_bound c.if-h-r.true

pub overflow_add-result-2 : goal.overflow_add-result-2
overflow_add-result-2 c = let s = small c.args.n c.args.d c.ranges.n.fits c.requires.le_d c.requires.d_bound in omega arith

pub returns : goal.returns
returns c = at c.args.n c.args.d c.ranges.n.fits c.requires.le_d c.requires.d_bound c.if-r-h.false c.if-h-r.false
