-- `parts::part::rest` meets its contract.
use Rattle.rules.proofs.Stored.Parts as parts
use Rattle.parts.proofs.part.rest.Goals as goal

pub returns : goal.returns
returns c = parts.cut_rest _ _ c.size_of-e.ensures.0
