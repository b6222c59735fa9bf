-- `selection::select::select_bytes` meets its contract.
use Rattle.rules.proofs.Bools as bools
use Rattle.rules.specs.Answers.{selected}
use Rattle.selection.proofs.Selections as selections
use Rattle.selection.specs.Select.{listed}
use Rattle.std.proofs.lemmas.Result as result
use lib.ListN.{length}
use native.Mathlib.Omega.{arith}
use Rattle.selection.proofs.select.select_bytes.Goals as goal

pub returns-in_err-check : goal.returns-in_err-check
returns-in_err-check c =
    let p = result.err_from_is_err_and c.from_residual.result c.from_residual.ensures.1 in
    rw (p.1, p.2) (selections.refuse_bytes c.args.query.now c.args.list.now c.args.rows.now c.args.room.now c.clear.ensures c.in_err-check.ensures)

pub records-records-requires : goal.records-records-requires
records-records-requires c = (selections.ready c.args.query.now c.args.list.now (λ i. omega (arith, c.shared_slice_known-1.given i)) (selections.sound (selected c.args.query.now c.args.list.now) c.in_ok-check.ensures)).list.records

pub invariant_of-checked : goal.invariant_of-checked
invariant_of-checked c = record { sound = selections.sound (selected c.args.query.now c.args.list.now) c.in_ok-check.ensures; all = c.records-records.ensures }

pub fits-requires : goal.fits-requires
fits-requires c = λ i. omega (arith, c.shared_slice_known-1.given i)

pub returns-then-not-fits : goal.returns-then-not-fits
returns-then-not-fits c = selections.no_room_bytes c.args.query.now c.args.list.now c.args.rows.now c.args.room.now c.clear.ensures (selections.sound (selected c.args.query.now c.args.list.now) c.in_ok-check.ensures) (bools.told_no c.fits.ensures c.if-not-fits.true-raw)

pub fill-requires : goal.fill-requires
fill-requires c = (
  λ i. omega (arith, c.shared_slice_known-1.given i),
  selections.fits_bytes (listed (selected c.args.query.now c.args.list.now)) (length c.args.rows.now) (bools.told_yes c.fits.ensures c.if-not-fits.false-raw),
)

pub returns : goal.returns
returns c =
    let z = selections.sound (selected c.args.query.now c.args.list.now) c.in_ok-check.ensures in
    selections.choose_bytes c.args.query.now c.args.list.now c.args.rows.now c.args.room.now c.clear.ensures z _ c.fill.result (bools.told_yes c.fits.ensures c.if-not-fits.false-raw) (selections.listed_most (selections.ready c.args.query.now c.args.list.now (λ i. omega (arith, c.shared_slice_known-1.given i)) z)) c.fill.ensures.0 c.fill.ensures.1
