-- `boost::decimal::above` meets its contract. Assumes nothing.
use Rattle.boost.proofs.Scales.{much_digits, much_tens}
use Rattle.boost.proofs.decimal.above.Goals as goal
use Rattle.boost.proofs.decimal.above.Goals.{else-d-lt-QUICK_MOST-via-then-d-lt-QUICK_MOST+else-n-lt-POWERS, else-d-lt-QUICK_MOST-via-else-d-lt-QUICK_MOST}

pub above_by_row-requires-clause-enough_places : goal.above_by_row-requires-clause-enough_places
above_by_row-requires-clause-enough_places c = elim c.else-d-lt-QUICK_MOST.branch [
  | else-d-lt-QUICK_MOST-via-then-d-lt-QUICK_MOST+else-n-lt-POWERS w ↦ much_tens c.args.d.now.whole.now c.args.d.now.fraction.now c.args.d.now.value c.args.d.now.held c.args.n c.requires.value_nonzero w.if-n-lt-POWERS.false
  | else-d-lt-QUICK_MOST-via-else-d-lt-QUICK_MOST w ↦ much_digits c.args.d.now.whole.now c.args.d.now.fraction.now c.args.d.now.value c.args.d.now.held c.args.n w.if-d-lt-QUICK_MOST.false
]
