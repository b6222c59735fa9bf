-- `selection::select::check` meets its contract.
use Rattle.selection.proofs.Selections as selections
use Rattle.std.proofs.lemmas.Result as result
use Rattle.selection.proofs.select.check.Goals as goal

pub returns-in_err-for_selection : goal.returns-in_err-for_selection
returns-in_err-for_selection c =
    let p = result.err_from_is_err_and c.from_residual.result c.from_residual.ensures.1 in
    rw (p.1, p.2) (selections.no_query c.args.query.now c.args.list.now c.in_err-for_selection.ensures)

pub returns : goal.returns
returns c = selections.then_list c.args.query.now c.args.list.now c.in_ok-for_selection.ensures c.check_list.ensures
