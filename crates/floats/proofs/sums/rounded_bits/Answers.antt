-- `floats::sums::rounded_bits` meets its contract (`proofs/Nans.antt`). Assumes nothing.
use Rattle.floats.proofs.Nans.{not_nan, is_nan_lem, nan_rounded}
use Rattle.rules.specs.Floats.{narrowed}
use lib.Dec.{T}
use lib.Ieee.Bits.{of_bits-to_bits}
use lib.Ieee.{binary64}
use mathlib.Core.Path.{sym, ap, ◌∙◌, subst}
use Rattle.floats.proofs.sums.rounded_bits.Goals as goal

pub returns-then-sum : goal.returns-then-sum
returns-then-sum c = sym (ap narrowed (is_nan_lem c.args.sum c.if-sum.true) ∙ nan_rounded)

pub float_to_bits-sum : goal.float_to_bits-sum
float_to_bits-sum c = not_nan c.args.sum c.if-sum.false

pub returns : goal.returns
returns c = c.narrow.ensures ∙ ap narrowed (of_bits-to_bits binary64 c.args.sum (subst T (sym c.well_formed.0.1) tt))
