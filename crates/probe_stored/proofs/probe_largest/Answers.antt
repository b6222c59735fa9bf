-- `probe_stored::probe_largest` meets its contract.
use Rattle.probe_stored.proofs.Probing as probing
use native.Mathlib.Omega.{arith}
use Rattle.probe_stored.proofs.probe_largest.Goals as goal

pub largest-requires : goal.largest-requires
largest-requires c = probing.is_stored_lem c.args.s.now (rw c.in-Ok.is at c.for_selection.ensures) (λ i. omega (arith, c.shared_slice_known-1.given i))

pub returns-in-Ok : goal.returns-in-Ok
returns-in-Ok c = probing.has c.args.s.now (rw c.in-Ok.is at c.for_selection.ensures) (λ i. omega (arith, c.shared_slice_known-1.given i)) _ c.largest.ensures

pub returns-in-Err : goal.returns-in-Err
returns-in-Err c = probing.no_largest _ (rw c.in-Err.is at c.for_selection.ensures)
