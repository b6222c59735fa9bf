-- `boost::decimal::scaled_down` meets its contract. Assumes nothing.
use Prim.Native.Nat.{ℕ, ◌^◌}
use Rattle.boost.proofs.Scales.{held_few, down_tiny, down_below}
use Rattle.boost.specs.Decimal.{number}
use Rattle.rules.specs.Numerals.{nearest}
use lib.ListN.{length}
use mathlib.Core.Path.{ap, ◌∙◌}
use native.Mathlib.Omega.{arith}
use Rattle.boost.proofs.decimal.scaled_down.Goals as goal

pub returns-then-n-gt-BELOW_MOST : goal.returns-then-n-gt-BELOW_MOST
returns-then-n-gt-BELOW_MOST c = down_tiny (number c.args.d.now) c.args.x (length c.args.d.now.fraction.now) (held_few c.args.d.now.whole.now c.args.d.now.fraction.now c.args.d.now.value c.args.d.now.held) (omega arith)

pub returns : goal.returns
returns c = down_below (number c.args.d.now) c.args.x (length c.args.d.now.fraction.now) c.below.result (omega arith)
    (c.below.ensures ∙ ap (λ (x : ℕ). nearest (number c.args.d.now) (10 ^ x)) (omega arith))
