-- `lists::is_records` meets its contract.
use Rattle.lists.proofs.Lister as lister
use Rattle.rules.proofs.Bools as bools
use Rattle.rules.proofs.Choosing.Entries as entries
use Rattle.rules.proofs.Stored.Parts as parts
use Rattle.rules.proofs.Stored.Rows as rows
use Rattle.rules.specs.Bytes.{every}
use Rattle.rules.specs.Lists.{is_record}
use mathlib.Core.Path.{refl, sym, ap, ◌∙◌}
use Rattle.lists.proofs.is_records.Goals as goal

pub loop-t-init : goal.loop-t-init
loop-t-init c = refl

pub returns-then-not-is_record : goal.returns-then-not-is_record
returns-then-not-is_record c = sym (c.loop-t.invariant ∙ rows.every_bad is_record c.loop-t.t.now (parts.more_empty c.loop-t.t.now (lister.some_left _ c.is_empty.ensures c.loop-t-test.true)) (bools.told_no c.is_record.ensures c.if-not-is_record.true-raw))

pub rest-u-requires : goal.rest-u-requires
rest-u-requires c = entries.record_whole _ (bools.told_yes c.is_record.ensures c.if-not-is_record.false-raw)

pub loop-t-smaller : goal.loop-t-smaller
loop-t-smaller c = rw c.rest-u.ensures (parts.rest_shorter c.loop-t.t.now (lister.some_left _ c.is_empty.ensures c.loop-t-test.true))

pub loop-t-preserved : goal.loop-t-preserved
loop-t-preserved c = c.loop-t.invariant ∙ rows.every_next is_record c.loop-t.t.now (parts.more_empty c.loop-t.t.now (lister.some_left _ c.is_empty.ensures c.loop-t-test.true)) (bools.told_yes c.is_record.ensures c.if-not-is_record.false-raw) ∙ ap (every is_record) (sym c.rest-u.ensures)

pub returns : goal.returns
returns c = sym (c.loop-t.invariant ∙ rows.every_done is_record c.loop-t.t.now (parts.less_empty c.loop-t.t.now (lister.none_left _ c.is_empty.ensures c.loop-t-test.false)))
