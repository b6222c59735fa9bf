-- `entries::slots::tail` meets its contract.
use Rattle.entries.proofs.Noting as noting
use borrow.Author.Rules.{rules}
use native.Mathlib.Omega.{arith}
use Rattle.entries.proofs.slots.tail.Goals as goal

pub returns-then-n-ge4 : goal.returns-then-n-ge4
returns-then-n-ge4 c = (noting.tail_long c.args.t.now c.if-n-ge4.true c.big4.ensures, search rules)

pub returns-then-n-eq0 : goal.returns-then-n-eq0
returns-then-n-eq0 c = (noting.tail_none c.args.t.now c.if-n-eq0.true, search rules)

pub returns : goal.returns
returns c = (
  omega (
    arith,
    noting.tail_short c.args.t.now (omega (arith, c.if-n-ge4.false)),
  ),
  omega (
    arith,
    c.wide.ensures.1,
    c.wide-2.ensures.1,
    c.wide-3.ensures.1,
  ),
)
