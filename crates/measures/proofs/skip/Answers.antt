-- `measures::skip` meets its contract.
use Rattle.measures.proofs.Walking as walking
use borrow.Author.Tests.{eq-eqb, le-leb, lt-leb}
use mathlib.Core.Path.{sym, ◌∙◌}
use native.Mathlib.Omega.{arith}
use Rattle.measures.proofs.skip.Goals as goal

pub returns-in-3 : goal.returns-in-3
returns-in-3 c = (sym (rw (eq-eqb _ 3 c.in-3.is)), omega arith)

pub returns-in-4 : goal.returns-in-4
returns-in-4 c = (sym (rw c.in-4.is), omega arith)

pub returns-in-5 : goal.returns-in-5
returns-in-5 c = (sym (rw c.in-5.is), omega arith)

pub returns-then-tag-ge-MUST_TAG : goal.returns-then-tag-ge-MUST_TAG
returns-then-tag-ge-MUST_TAG c = (sym (walking.skips c.args.t.now c.in_default.in_default-own.rest.0.0.1 c.in_default.in_default-own.rest.0.1 c.in_default.in_default-own.rest.1 ∙ rw (le-leb _ _ c.if-tag-ge-MUST_TAG.true)), omega arith)

pub returns-else-tag-ge-MUST_TAG : goal.returns-else-tag-ge-MUST_TAG
returns-else-tag-ge-MUST_TAG c = (sym (walking.skips c.args.t.now c.in_default.in_default-own.rest.0.0.1 c.in_default.in_default-own.rest.0.1 c.in_default.in_default-own.rest.1 ∙ rw (lt-leb _ _ c.if-tag-ge-MUST_TAG.false, c.size_of.ensures.0)), omega arith)
