-- `words::is_within` meets its contract, by what stands before the place and behind it. Assumes nothing.
use Rattle.analysis.proofs.Bridges.{told_zero, told_within, told_outside, told_one, told_before}
use borrow.Author.Tests.{eq-eqb}
use Rattle.analysis.proofs.words.is_within.Goals as goal

pub returns-then-at-eq0 : goal.returns-then-at-eq0
returns-then-at-eq0 c = told_zero _ _ c.if-at-eq0.true

pub returns-then-is_inner : goal.returns-then-is_inner
returns-then-is_inner c = told_within _ _ c.if-at-eq0.false c.is_inner.ensures c.if-is_inner.true c.goes_on.ensures

pub returns-then-not-is_inner : goal.returns-then-not-is_inner
returns-then-not-is_inner c = told_outside _ _ c.if-at-eq0.false c.is_inner.ensures c.if-is_inner.false c.is_inner-2.ensures c.if-not-is_inner.true

pub returns-then-at-ne1 : goal.returns-then-at-ne1
returns-then-at-ne1 c = told_before _ _ c.if-at-eq0.false c.is_inner.ensures c.if-is_inner.false c.is_inner-2.ensures c.if-not-is_inner.false c.is_bridge.ensures

pub returns-else-at-ne1 : goal.returns-else-at-ne1
returns-else-at-ne1 c = rw (eq-eqb c.args.at 1 c.if-at-ne1.false) (told_one _ _ c.if-at-eq0.false c.is_inner.ensures c.if-is_inner.false c.is_inner-2.ensures c.if-not-is_inner.false c.if-at-ne1.false)
