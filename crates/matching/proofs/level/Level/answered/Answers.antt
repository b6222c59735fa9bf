-- `matching::level::answer` meets its contract.
use Rattle.matching.proofs.Levels as levels
use borrow.Author.Tests.{not-true, not-false}
use Rattle.std.proofs.Common.{rules}
use Rattle.matching.proofs.level.Level.answered.Goals as goal

pub returns-then-self-eq-MUST_NOT_TAG : goal.returns-then-self-eq-MUST_NOT_TAG
returns-then-self-eq-MUST_NOT_TAG c = levels.answered_not c.args.self _ c.if-self-eq-MUST_NOT_TAG.true

pub returns-then-self-ne-SHOULD_TAG : goal.returns-then-self-ne-SHOULD_TAG
returns-then-self-ne-SHOULD_TAG c = levels.answered_needed c.args.self _ c.if-self-ne-SHOULD_TAG.true c.if-self-eq-MUST_NOT_TAG.false

pub returns-then-not-yes : goal.returns-then-not-yes
returns-then-not-yes c = levels.answered_no c.args.self c.args.yes c.if-self-ne-SHOULD_TAG.false (not-true _ c.if-not-yes.true-raw)

pub returns : goal.returns
returns c = levels.answered_yes c.args.self c.args.yes _ c.if-self-ne-SHOULD_TAG.false (not-false _ c.if-not-yes.false-raw) (search rules)
