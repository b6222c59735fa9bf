-- `stored::read::is_word` meets its contract.
use Rattle.rules.proofs.Bools as bools
use Rattle.rules.proofs.Chains as chains
use Rattle.rules.proofs.Stored.Parts as parts
use Rattle.rules.specs.Bytes.{is_text}
use Rattle.rules.specs.Numbers.{word_tag}
use borrow.Author.Tests.{le-leb, lt-leb}
use mathlib.Core.Path.{ap, ◌∙◌}
use Rattle.stored.proofs.read.is_word.Goals as goal

pub returns-then-not-is_part : goal.returns-then-not-is_part
returns-then-not-is_part c = chains.ends _ c.is_part.ensures c.if-not-is_part.true-raw

pub body-w-requires : goal.body-w-requires
body-w-requires c = (parts.part_is word_tag _ (bools.told_yes c.is_part.ensures c.if-not-is_part.false-raw)).0

pub returns-then-w-ge-POSITION_BYTES : goal.returns-then-w-ge-POSITION_BYTES
returns-then-w-ge-POSITION_BYTES c = chains.goes_on c.is_part.ensures c.if-not-is_part.false-raw (rw (← c.body-w.ensures) (chains.on (le-leb _ _ c.if-w-ge-POSITION_BYTES.true) (c.is_text.ensures ∙ ap is_text (parts.cut_from 4 c.body-w.result.now))))

pub returns-else-w-ge-POSITION_BYTES : goal.returns-else-w-ge-POSITION_BYTES
returns-else-w-ge-POSITION_BYTES c = let no = lt-leb _ _ c.if-w-ge-POSITION_BYTES.false in no ∙ chains.goes_on c.is_part.ensures c.if-not-is_part.false-raw (rw (← c.body-w.ensures) (chains.off _ no))
