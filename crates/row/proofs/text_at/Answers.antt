-- `row::text_at` meets its contract: the part that the token's bytes name lies within the room. Assumes nothing.
use Rattle.row.specs.Row.{token_at}
use native.Mathlib.Nat.{add-sub_cancel_left}
use native.Mathlib.Omega.{arith}
use Rattle.row.proofs.text_at.Goals as goal

pub overflow_add-end : goal.overflow_add-end
overflow_add-end c = omega (arith, c.start_at-at.ensures, c.size_at.ensures)

pub slice_bounds-result-end : goal.slice_bounds-result-end
slice_bounds-result-end c = omega (arith, c.start_at-at.ensures, c.size_at.ensures)

pub returns : goal.returns
unfolding token_at
returns c = rw (add-sub_cancel_left, c.start_at-at.ensures, c.size_at.ensures)
