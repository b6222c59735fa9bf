-- `round::clauses::is_single` meets its contract.
use Rattle.merging.proofs.Forms.{front, some_left, none_left}
use Rattle.round.proofs.Tallies as tallies
use mathlib.Core.Path.{◌∙◌}
use native.Mathlib.Omega.{arith}
use Rattle.round.proofs.clauses.is_single.Goals as goal

pub rest-requires : goal.rest-requires
rest-requires c = (front c.requires.are (some_left _ _ c.is_empty.ensures c.if-not-is_empty.true)).whole

pub returns-then-not-is_empty : goal.returns-then-not-is_empty
returns-then-not-is_empty c = λ cs a. c.is_empty-then-not-is_empty.ensures ∙ tallies.single_rest a (some_left _ _ c.is_empty.ensures c.if-not-is_empty.true) _ c.rest.ensures

pub returns-else-not-is_empty : goal.returns-else-not-is_empty
returns-else-not-is_empty c = λ cs a. rw c.if-not-is_empty.false (tallies.single_empty a (omega (arith, none_left _ _ c.is_empty.ensures c.if-not-is_empty.false)))
