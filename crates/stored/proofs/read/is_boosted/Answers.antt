-- `stored::read::is_boosted` meets its contract.
use Rattle.rules.proofs.Chains as chains
use Rattle.rules.specs.Stored.{is_boost}
use borrow.Author.Tests.{le-leb, lt-leb}
use mathlib.Core.Path.{ap, ◌∙◌}
use Rattle.stored.proofs.read.is_boosted.Goals as goal

pub returns-then-b-ge-BOOST_BYTES : goal.returns-then-b-ge-BOOST_BYTES
returns-then-b-ge-BOOST_BYTES c = chains.on (le-leb _ _ c.if-b-ge-BOOST_BYTES.true) (c.is_boost.ensures ∙ ap is_boost c.big4.ensures)

pub returns-else-b-ge-BOOST_BYTES : goal.returns-else-b-ge-BOOST_BYTES
returns-else-b-ge-BOOST_BYTES c = let no = lt-leb _ _ c.if-b-ge-BOOST_BYTES.false in no ∙ chains.off _ no
