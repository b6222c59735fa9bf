use Rattle.batch.proofs.Turning as turning
use Rattle.rules.specs.Answers.{selected}
use Rattle.rules.specs.Lists.{read_list}
use Rattle.selection.proofs.Selections as selections
use Rattle.selection.specs.Select.{listed}
use Rattle.std.proofs.lemmas.Result as result
use lib.ListN.{length}
use mathlib.Core.List.{[]}
use mathlib.Core.Path.{refl, sym, ◌∙◌}
use native.Mathlib.Omega.{arith}
use Rattle.batch.proofs.turn.turn.Goals as goal

pub returns-in_err-fault : goal.returns-in_err-fault
returns-in_err-fault c =
    let p = result.err_from_is_err_and c.from_residual.result c.from_residual.ensures.1 in
    rw (p.1, p.2) (selections.refuse_bytes c.args.query.now c.args.list.now c.args.rows.now [] refl (selections.no_query c.args.query.now c.args.list.now (sym c.in_err-fault.was ∙ c.requires.0)))

pub returns-in_err-records : goal.returns-in_err-records
returns-in_err-records c =
    let p = result.err_from_is_err_and c.from_residual-in_err-records.result c.from_residual-in_err-records.ensures.1 in
    let e = turning.list_err (read_list c.args.list.now) (sym c.in_err-records.was ∙ c.requires.1) in
    rw (p.1, p.2) (selections.refuse_bytes c.args.query.now c.args.list.now c.args.rows.now [] refl (selections.then_list c.args.query.now c.args.list.now (sym c.in_ok-fault.was ∙ c.requires.0) e))

pub invariant_of-asking : goal.invariant_of-asking
invariant_of-asking c =
    let k = sym c.in_ok-records.was ∙ c.requires.1 in
    let z = selections.sound (selected c.args.query.now c.args.list.now) (selections.then_list c.args.query.now c.args.list.now (sym c.in_ok-fault.was ∙ c.requires.0) (turning.list_ok (read_list c.args.list.now) k)) in
    record { sound = z; all = turning.list_count c.args.list.now k; long = c.requires.2.long; bits = c.requires.2.bits }

pub fits-requires : goal.fits-requires
fits-requires c = (record { bytes = λ i. omega (arith, c.shared_slice_known-1.given i); column = c.requires.3 c.in_ok-fault.was _ c.in_ok-records.was }, c.requires.2.deep)

pub returns-then-not-fits : goal.returns-then-not-fits
returns-then-not-fits c =
    let k = sym c.in_ok-records.was ∙ c.requires.1 in
    let z = selections.sound (selected c.args.query.now c.args.list.now) (selections.then_list c.args.query.now c.args.list.now (sym c.in_ok-fault.was ∙ c.requires.0) (turning.list_ok (read_list c.args.list.now) k)) in
    selections.no_room_bytes c.args.query.now c.args.list.now c.args.rows.now [] refl z (sym c.fits.ensures ∙ c.if-not-fits.true)

pub fill-requires : goal.fill-requires
fill-requires c = (
  record { bytes = λ i. omega (arith, c.shared_slice_known-1.given i); column = c.requires.3 c.in_ok-fault.was _ c.in_ok-records.was },
  (let d = c.requires.2.deep in omega arith),
  selections.fits_bytes (listed (selected c.args.query.now c.args.list.now)) (length c.args.rows.now) (sym c.fits.ensures ∙ c.if-not-fits.false),
)

pub returns : goal.returns
returns c =
    let k = sym c.in_ok-records.was ∙ c.requires.1 in
    let z = selections.sound (selected c.args.query.now c.args.list.now) (selections.then_list c.args.query.now c.args.list.now (sym c.in_ok-fault.was ∙ c.requires.0) (turning.list_ok (read_list c.args.list.now) k)) in
    selections.choose_bytes c.args.query.now c.args.list.now c.args.rows.now [] refl z _ c.fill.result (sym c.fits.ensures ∙ c.if-not-fits.false) (selections.listed_most (selections.ready c.args.query.now c.args.list.now (λ i. omega (arith, c.shared_slice_known-1.given i)) z)) c.fill.ensures.0 c.fill.ensures.1
