-- `stored::read::is_words` meets its contract.
use Rattle.rules.proofs.Bools as bools
use Rattle.rules.proofs.Stored.Parts as parts
use Rattle.rules.proofs.Stored.Rows as rows
use Rattle.rules.specs.Bytes.{every}
use Rattle.rules.specs.Numbers.{word_tag}
use Rattle.rules.specs.Reading.{is_word}
use Rattle.stored.proofs.Reader as reader
use mathlib.Core.Path.{refl, sym, ap, ◌∙◌}
use Rattle.stored.proofs.read.is_words.Goals as goal

pub loop-t-init : goal.loop-t-init
loop-t-init c = refl

pub returns-then-not-is_word : goal.returns-then-not-is_word
returns-then-not-is_word c = sym (c.loop-t.invariant ∙ rows.every_bad is_word c.loop-t.t.now (parts.more_empty c.loop-t.t.now (reader.some_left _ c.is_empty.ensures c.loop-t-test.true)) (bools.told_no c.is_word.ensures c.if-not-is_word.true-raw))

pub rest-t-requires : goal.rest-t-requires
rest-t-requires c = (parts.part_is word_tag _ (bools.and_l _ _ (bools.told_yes c.is_word.ensures c.if-not-is_word.false-raw))).0

pub loop-t-smaller : goal.loop-t-smaller
loop-t-smaller c = rw c.rest-t.ensures (parts.rest_shorter c.loop-t.t.now (reader.some_left _ c.is_empty.ensures c.loop-t-test.true))

pub loop-t-preserved : goal.loop-t-preserved
loop-t-preserved c = c.loop-t.invariant ∙ rows.every_next is_word c.loop-t.t.now (parts.more_empty c.loop-t.t.now (reader.some_left _ c.is_empty.ensures c.loop-t-test.true)) (bools.told_yes c.is_word.ensures c.if-not-is_word.false-raw) ∙ ap (every is_word) (sym c.rest-t.ensures)

pub returns : goal.returns
returns c = sym (c.loop-t.invariant ∙ rows.every_done is_word c.loop-t.t.now (parts.less_empty c.loop-t.t.now (reader.none_left _ c.is_empty.ensures c.loop-t-test.false)))
