use Rattle.rules.specs.Matching.{lies_in}
use Rattle.std.proofs.Common.{arith}
use Rattle.std.proofs.lemmas.Grind.{common_steps}
use Rattle.matching.proofs.range.Range.holds.Goals as goal

pub returns-then-keeps : goal.returns-then-keeps
unfolding lies_in
returns-then-keeps c = grind (arith, common_steps)

pub returns-else-keeps : goal.returns-else-keeps
unfolding lies_in
returns-else-keeps c = grind (arith, common_steps)
