-- `matching::term::term_true` meets its contract.
use Rattle.matching.proofs.Leaves as leaves
use mathlib.Core.Path.{◌∙◌}
use Rattle.matching.proofs.term.term_true.Goals as goal

pub body-b-requires : goal.body-b-requires
body-b-requires c = leaves.stored_whole c.requires.0.stored

pub body-requires : goal.body-requires
body-requires c = rw c.body-b.ensures (leaves.term_front _ c.requires.0)

pub rest-requires : goal.rest-requires
rest-requires c = rw c.body-b.ensures (leaves.term_front _ c.requires.0)

pub body-requires-2 : goal.body-requires-2
body-requires-2 c = rw (c.rest.ensures, c.body-b.ensures) (leaves.term_back _ c.requires.0)

pub find_term-requires : goal.find_term-requires
find_term-requires c = (c.requires.1, c.args.r.now.sound)

pub returns : goal.returns
returns c = leaves.term_says _ c.requires.0 _ _ (c.find_term.ensures ∙ rw (c.body.ensures, c.body-2.ensures, c.rest.ensures, c.body-b.ensures))
