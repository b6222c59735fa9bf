-- `floats::sums::product` meets its contract (`proofs/Nans.antt`). Assumes nothing.
use Rattle.floats.proofs.Nans.{no_nan, not_nan, is_nan_lem, nan_32, product_nan_l, product_nan_r}
use Rattle.rules.specs.Floats.{times}
use lib.Ieee.{binary32, to_bits, mul, of_bits}
use mathlib.Core.Path.{refl, sym, ap, ◌∙◌}
use Rattle.floats.proofs.sums.product.Goals as goal

pub returns-then-a-gt-INFINITY : goal.returns-then-a-gt-INFINITY
returns-then-a-gt-INFINITY c = product_nan_l c.args.a c.args.b c.if-a-gt-INFINITY.true

pub returns-then-b-gt-INFINITY : goal.returns-then-b-gt-INFINITY
returns-then-b-gt-INFINITY c = product_nan_r c.args.a c.args.b c.if-b-gt-INFINITY.true

pub float_from_bits-p : goal.float_from_bits-p
float_from_bits-p c = no_nan binary32 c.args.a c.if-a-gt-INFINITY.false

pub float_from_bits-p-2 : goal.float_from_bits-p-2
float_from_bits-p-2 c = no_nan binary32 c.args.b c.if-b-gt-INFINITY.false

pub returns-then-p : goal.returns-then-p
unfolding times
returns-then-p c = sym (ap (to_bits binary32) (is_nan_lem (mul binary32 (of_bits binary32 c.args.a) (of_bits binary32 c.args.b)) c.if-p.true) ∙ nan_32)

pub float_to_bits-result : goal.float_to_bits-result
float_to_bits-result c = not_nan (mul binary32 (of_bits binary32 c.args.a) (of_bits binary32 c.args.b)) c.if-p.false

pub returns : goal.returns
unfolding times
returns c = refl
