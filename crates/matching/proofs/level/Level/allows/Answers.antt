-- `matching::level::allowed` meets its contract.
use Rattle.matching.proofs.Levels as levels
use Rattle.matching.proofs.level.Level.allows.Goals as goal

pub returns-in-33 : goal.returns-in-33
returns-in-33 c = rw c.in-33.is

pub returns-in-34 : goal.returns-in-34
returns-in-34 c = rw c.in-34.is

pub returns-in_default : goal.returns-in_default
returns-in_default c = levels.needed_allows _ _ c.in_default.in_default-own.rest.0.1 c.in_default.in_default-own.rest.1
