-- `boost::numeral::exponent` meets its contract. Assumes nothing.
use Rattle.std.proofs.Common.{length, true, false}
use Rattle.boost.proofs.Grammar.{exponent_none, exponent_more, exponent_cut, exponent_good}
use Rattle.boost.proofs.Tests.{eq_of, ne_of}
use Rattle.rules.specs.Numerals.{digits_on}
use Rattle.boost.proofs.numeral.exponent.Goals as goal
use Rattle.boost.proofs.numeral.exponent.Goals.{then-is_empty-via-then-is_empty, then-is_empty-via-else-is_empty+then-not-is_empty}

pub returns-then-is_empty : goal.returns-then-is_empty
returns-then-is_empty c = λ d f. elim c.then-is_empty.branch [
  | then-is_empty-via-then-is_empty w ↦ exponent_none c.args.down d f c.args.s.now (eq_of c.is_empty.result (length c.args.s.now) 0 c.is_empty.ensures w.if-is_empty.true)
  | then-is_empty-via-else-is_empty+then-not-is_empty w ↦ exponent_more c.args.s.now c.read-e.result.digits.now c.read-e.result.rest.now c.read-e.result.value c.read-e.ensures c.args.down d f
      (ne_of w.is_empty-else-is_empty.result (length c.read-e.result.rest.now) 0 w.is_empty-else-is_empty.ensures w.if-not-is_empty.true)
]

pub returns-then-down : goal.returns-then-down
returns-then-down c = λ d f.
    let a = ne_of c.is_empty.result (length c.args.s.now) 0 c.is_empty.ensures c.if-is_empty.false in
    let b = eq_of c.is_empty-else-is_empty.result (length c.read-e.result.rest.now) 0 c.is_empty-else-is_empty.ensures c.if-not-is_empty.false in (
      digits_on 0 c.args.s.now,
      exponent_cut c.args.s.now c.read-e.result.digits.now c.read-e.result.rest.now c.read-e.result.value c.read-e.ensures c.args.down d f a b,
      exponent_good c.args.s.now c.read-e.result.digits.now c.read-e.result.rest.now c.read-e.result.value c.read-e.ensures c.args.down d f a b true c.if-down.true,
    )

pub returns-else-down : goal.returns-else-down
returns-else-down c = λ d f.
    let a = ne_of c.is_empty.result (length c.args.s.now) 0 c.is_empty.ensures c.if-is_empty.false in
    let b = eq_of c.is_empty-else-is_empty.result (length c.read-e.result.rest.now) 0 c.is_empty-else-is_empty.ensures c.if-not-is_empty.false in (
      digits_on 0 c.args.s.now,
      exponent_cut c.args.s.now c.read-e.result.digits.now c.read-e.result.rest.now c.read-e.result.value c.read-e.ensures c.args.down d f a b,
      exponent_good c.args.s.now c.read-e.result.digits.now c.read-e.result.rest.now c.read-e.result.value c.read-e.ensures c.args.down d f a b false c.if-down.false,
    )
