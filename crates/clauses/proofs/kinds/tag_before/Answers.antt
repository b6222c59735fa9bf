-- `clauses::kinds::tag_before` meets its contract.
use Rattle.clauses.specs.Joining.{conjunction_of}
use Rattle.clauses.specs.declared.kinds.Conjunction.TheVariants.{And, Or}
use Rattle.counted.proofs.Deciding.{before_unjoined, before_first, before_not, before_and, before_or_and, before_or}
use mathlib.Core.Path.{◌≡◌}
use Rattle.clauses.proofs.kinds.tag_before.Goals as goal
use Rattle.clauses.proofs.kinds.tag_before.Goals.{then-tag-eq-NO_TAG-via-then-tag-eq-NO_TAG, then-tag-eq-NO_TAG-via-else-tag-eq-NO_TAG+then-tag-eq-MUST_NOT_TAG}

pub returns-then-tag-eq-NO_TAG : goal.returns-then-tag-eq-NO_TAG
returns-then-tag-eq-NO_TAG c = elim c.then-tag-eq-NO_TAG.branch [
  | then-tag-eq-NO_TAG-via-then-tag-eq-NO_TAG w ↦ before_first c.args.operator c.args.tag w.if-tag-eq-NO_TAG.true (conjunction_of c.args.c)
  | then-tag-eq-NO_TAG-via-else-tag-eq-NO_TAG+then-tag-eq-MUST_NOT_TAG w ↦ before_not c.args.operator c.args.tag w.if-tag-eq-MUST_NOT_TAG.true (conjunction_of c.args.c)
]

pub returns-in-None : goal.returns-in-None
returns-in-None c = rw c.in-None.is (before_unjoined c.args.operator c.args.tag)

pub returns-in-Some-And : goal.returns-in-Some-And
returns-in-Some-And c = let e : c.in-Some-And.field-0 ≡ And = rw c.in-Some-And.is at c.in-Some-And.field-0-is in rw (c.in-Some-And.is, e) (before_and c.args.operator c.args.tag c.if-tag-eq-NO_TAG.false c.if-tag-eq-MUST_NOT_TAG.false)

pub returns-in-Some-Or : goal.returns-in-Some-Or
returns-in-Some-Or c = let e : c.in-Some-Or.field-0 ≡ Or = rw c.in-Some-Or.is at c.in-Some-Or.field-0-is in rw (c.in-Some-Or.is, e) (before_or_and c.args.operator c.args.tag c.if-tag-eq-NO_TAG.false c.if-tag-eq-MUST_NOT_TAG.false c.if-operator-eq-AND_OPERATOR.true)

pub returns-in-Some-Or-2 : goal.returns-in-Some-Or-2
returns-in-Some-Or-2 c = let e : c.in-Some-Or.field-0 ≡ Or = rw c.in-Some-Or.is at c.in-Some-Or.field-0-is in rw (c.in-Some-Or.is, e) (before_or c.args.operator c.args.tag c.if-tag-eq-NO_TAG.false c.if-tag-eq-MUST_NOT_TAG.false c.if-operator-eq-AND_OPERATOR.false)
