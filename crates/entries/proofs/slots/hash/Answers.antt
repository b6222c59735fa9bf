-- `entries::slots::hash` meets its contract.
use Rattle.entries.specs.Slots.{hash_of}
use borrow.Author.Rules.{rules}
use Rattle.entries.proofs.slots.hash.Goals as goal

pub returns : goal.returns
unfolding hash_of
returns c = (rw (c.tail.ensures.0, c.shape.ensures.0), search rules)
