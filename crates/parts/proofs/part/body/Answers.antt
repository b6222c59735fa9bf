-- `parts::part::body` meets its contract.
use Rattle.rules.proofs.Stored.Parts as parts
use Rattle.parts.proofs.part.body.Goals as goal

pub returns : goal.returns
returns c = parts.cut_body _ _ c.size_of-e.ensures.0
