-- `lists::check_list` meets its contract.
use Rattle.lists.proofs.Lister as lister
use mathlib.Core.Path.{sym, ◌∙◌}
use Rattle.lists.proofs.check_list.Goals as goal

pub returns-then-l-gt-LIST_MOST : goal.returns-then-l-gt-LIST_MOST
returns-then-l-gt-LIST_MOST c = lister.list_long c.args.l.now c.if-l-gt-LIST_MOST.true

pub returns-then-is_records : goal.returns-then-is_records
returns-then-is_records c = lister.list_good c.args.l.now c.if-l-gt-LIST_MOST.false (sym c.is_records.ensures ∙ c.if-is_records.true)

pub returns-else-is_records : goal.returns-else-is_records
returns-else-is_records c = lister.list_bad c.args.l.now c.if-l-gt-LIST_MOST.false (sym c.is_records.ensures ∙ c.if-is_records.false)
