-- `boost::decimal::scaled_up` meets its contract. Assumes nothing.
use Rattle.boost.proofs.Scales.{places_most, held_zero, held_some, up_below, up_above, up_zero, up_huge}
use Rattle.boost.specs.Decimal.{number}
use lib.ListN.{length}
use native.Mathlib.Omega.{arith}
use Rattle.boost.proofs.decimal.scaled_up.Goals as goal

pub returns-then-x-places : goal.returns-then-x-places
returns-then-x-places c = up_below (number c.args.d.now) c.args.x (length c.args.d.now.fraction.now) c.below.result c.if-x-places.true (places_most c.args.d.now.whole.now c.args.d.now.fraction.now c.args.d.now.value c.args.d.now.held) c.below.ensures

pub returns-then-d-eq0 : goal.returns-then-d-eq0
returns-then-d-eq0 c = up_zero (number c.args.d.now) c.args.x (length c.args.d.now.fraction.now) (held_zero c.args.d.now.whole.now c.args.d.now.fraction.now c.args.d.now.value c.args.d.now.held c.if-d-eq0.true)

pub returns-then-x-places-lt-ABOVE_ALL : goal.returns-then-x-places-lt-ABOVE_ALL
returns-then-x-places-lt-ABOVE_ALL c = up_above (number c.args.d.now) c.args.x (length c.args.d.now.fraction.now) c.above.result (omega (arith, c.if-x-places.false)) (places_most c.args.d.now.whole.now c.args.d.now.fraction.now c.args.d.now.value c.args.d.now.held) c.if-x-places-lt-ABOVE_ALL.true c.above.ensures

pub returns : goal.returns
returns c = up_huge (number c.args.d.now) c.args.x (length c.args.d.now.fraction.now) (held_some c.args.d.now.whole.now c.args.d.now.fraction.now c.args.d.now.value c.args.d.now.held c.if-d-eq0.false) (omega (arith, c.if-x-places.false)) c.if-x-places-lt-ABOVE_ALL.false
