use Rattle.batch.proofs.Turning as turning
use Rattle.rules.proofs.Stored.Accepted as checked
use Rattle.rules.specs.Lists.{read_list}
use Rattle.selection.proofs.Selections as selections
use Rattle.std.proofs.lemmas.Result as result
use mathlib.Core.Path.{refl, sym}
use Rattle.batch.proofs.all.records_of.Goals as goal

pub returns-in_err-check_list : goal.returns-in_err-check_list
returns-in_err-check_list c =
    let p = result.err_from_is_err_and c.from_residual.result c.from_residual.ensures.1 in
    rw (p.1, p.2) (turning.refused_list (read_list c.args.list.now) c.in_err-check_list.ensures)

pub records-requires : goal.records-requires
records-requires c = (checked.listed c.args.list.now 0 (sym (selections.sound (read_list c.args.list.now) c.in_ok-check_list.ensures)) refl).records

pub returns : goal.returns
returns c = turning.counted_list c.args.list.now c.in_ok-check_list.ensures c.records.ensures
