-- `boost::numeral::decimal` meets its contract. Assumes nothing.
use Rattle.std.proofs.Common.{◌≡◌, length, sym, subst, ◌∙◌}
use Rattle.boost.proofs.Grammar.{parts_none, parts_whole, parts_fraction, parts_held}
use Rattle.boost.proofs.Tests.{eq_of, ne_of}
use Rattle.rules.specs.Numerals.{after_digits}
use Rattle.boost.specs.Digits.{number_of}
use Rattle.boost.specs.Numeral.{ScaledBy, Parsed, by_digits}
use Rattle.boost.proofs.numeral.decimal.Goals as goal
use Rattle.boost.proofs.numeral.decimal.Goals.{else-is_empty-via-then-is_empty+else-is_empty-2, else-is_empty-via-else-is_empty}

pub returns-then-is_empty-2 : goal.returns-then-is_empty-2
returns-then-is_empty-2 c = parts_none c.args.s.now c.read-whole.result.digits.now c.read-whole.result.rest.now c.behind_point-fraction.result.digits.now c.behind_point-fraction.result.rest.now c.read-whole.result.value c.behind_point-fraction.result.value
    c.read-whole.ensures c.behind_point-fraction.ensures
    (eq_of c.is_empty.result (length c.read-whole.result.digits.now) 0 c.is_empty.ensures c.if-is_empty.true)
    (eq_of c.is_empty-then-is_empty.result (length c.behind_point-fraction.result.digits.now) 0 c.is_empty-then-is_empty.ensures c.if-is_empty-2.true)

pub returns-in_err-scale : goal.returns-in_err-scale
returns-in_err-scale c = let e : by_digits c.args.s.now ≡ after_digits (number_of c.read-whole.result.digits.now c.behind_point-fraction.result.digits.now) (length c.behind_point-fraction.result.digits.now) c.behind_point-fraction.result.rest.now = elim c.else-is_empty.branch [
  | else-is_empty-via-then-is_empty+else-is_empty-2 w ↦ parts_fraction c.args.s.now c.read-whole.result.digits.now c.read-whole.result.rest.now c.behind_point-fraction.result.digits.now c.behind_point-fraction.result.rest.now c.read-whole.result.value c.behind_point-fraction.result.value
      c.read-whole.ensures c.behind_point-fraction.ensures (ne_of w.is_empty-then-is_empty.result (length c.behind_point-fraction.result.digits.now) 0 w.is_empty-then-is_empty.ensures w.if-is_empty-2.false)
  | else-is_empty-via-else-is_empty w ↦ parts_whole c.args.s.now c.read-whole.result.digits.now c.read-whole.result.rest.now c.behind_point-fraction.result.digits.now c.behind_point-fraction.result.rest.now c.read-whole.result.value c.behind_point-fraction.result.value
      c.read-whole.ensures c.behind_point-fraction.ensures (ne_of c.is_empty.result (length c.read-whole.result.digits.now) 0 c.is_empty.ensures w.if-is_empty.false)
] in subst (λ o. Parsed o (by_digits c.args.s.now)) (sym c.from_residual.ensures)
    (e ∙ c.in_err-scale.ensures (number_of c.read-whole.result.digits.now c.behind_point-fraction.result.digits.now) (length c.behind_point-fraction.result.digits.now))

pub invariant_of-digits : goal.invariant_of-digits
invariant_of-digits c = record {
  held = parts_held c.args.s.now c.read-whole.result.digits.now c.read-whole.result.rest.now c.behind_point-fraction.result.digits.now c.behind_point-fraction.result.rest.now c.read-whole.result.value c.behind_point-fraction.result.value
      c.read-whole.ensures c.behind_point-fraction.ensures c.requires;
}

pub returns : goal.returns
returns c = let e : by_digits c.args.s.now ≡ after_digits (number_of c.read-whole.result.digits.now c.behind_point-fraction.result.digits.now) (length c.behind_point-fraction.result.digits.now) c.behind_point-fraction.result.rest.now = elim c.else-is_empty.branch [
  | else-is_empty-via-then-is_empty+else-is_empty-2 w ↦ parts_fraction c.args.s.now c.read-whole.result.digits.now c.read-whole.result.rest.now c.behind_point-fraction.result.digits.now c.behind_point-fraction.result.rest.now c.read-whole.result.value c.behind_point-fraction.result.value
      c.read-whole.ensures c.behind_point-fraction.ensures (ne_of w.is_empty-then-is_empty.result (length c.behind_point-fraction.result.digits.now) 0 w.is_empty-then-is_empty.ensures w.if-is_empty-2.false)
  | else-is_empty-via-else-is_empty w ↦ parts_whole c.args.s.now c.read-whole.result.digits.now c.read-whole.result.rest.now c.behind_point-fraction.result.digits.now c.behind_point-fraction.result.rest.now c.read-whole.result.value c.behind_point-fraction.result.value
      c.read-whole.ensures c.behind_point-fraction.ensures (ne_of c.is_empty.result (length c.read-whole.result.digits.now) 0 c.is_empty.ensures w.if-is_empty.false)
] in subst (ScaledBy c.in_ok-scale.scale (number_of c.read-whole.result.digits.now c.behind_point-fraction.result.digits.now) (length c.behind_point-fraction.result.digits.now)) (sym e)
    (c.in_ok-scale.ensures (number_of c.read-whole.result.digits.now c.behind_point-fraction.result.digits.now) (length c.behind_point-fraction.result.digits.now))
