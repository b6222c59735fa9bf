-- `merging::signatures::word` meets its contract.
use Rattle.merging.proofs.Alike as alike
use borrow.Author.Rules.{rules}
use Rattle.merging.proofs.signatures.word.Goals as goal

pub returns : goal.returns
returns c = (alike.word_later c.args.s.now _ _ _ (rw c.saturating_sub.ensures at c.big4.ensures) c.from.ensures, search rules)
