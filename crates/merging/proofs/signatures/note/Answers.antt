-- `merging::signatures::note` meets its contract.
use Prim.Native.Nat.{ℕ, ◌+◌, ◌/◌}
use Rattle.merging.proofs.Cells as cells
use lib.ListN.{get_or}
use mathlib.Core.Path.{ap}
use native.Mathlib.Omega.{arith}
use Rattle.merging.proofs.signatures.note.Goals as goal

pub overflow_add-table : goal.overflow_add-table
overflow_add-table c = omega (arith, cells.more_fits c.args.table.now c.args.g (omega arith) c.requires (omega arith) (rw c.cell.ensures at c.if-cell-lt2.true) _ (cells.turned _ _ c.turn.ensures.0))

pub returns-then-cell-lt2 : goal.returns-then-cell-lt2
returns-then-cell-lt2 c = cells.more c.args.table.now c.args.g (omega arith) c.requires (omega arith) (rw c.cell.ensures at c.if-cell-lt2.true) _ (ap (λ (y : ℕ). get_or c.args.table.now (c.args.g / 4) 0 + y) (cells.turned _ _ c.turn.ensures.0))

pub returns-else-cell-lt2 : goal.returns-else-cell-lt2
returns-else-cell-lt2 c = cells.full c.args.table.now c.args.g (rw c.cell.ensures at c.if-cell-lt2.false)
