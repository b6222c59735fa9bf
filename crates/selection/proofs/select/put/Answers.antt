use Rattle.selection.proofs.Selections as selections
use native.Mathlib.Omega.{arith}
use Rattle.selection.proofs.select.put.Goals as goal

pub put_big4-requires : goal.put_big4-requires
put_big4-requires c = let h = rw c.if-in_bytes.true at c.requires in omega arith

pub returns-then-in_bytes : goal.returns-then-in_bytes
returns-then-in_bytes c = rw c.if-in_bytes.true c.put_big4.ensures

pub offset_bounds-rows-w : goal.offset_bounds-rows-w
offset_bounds-rows-w c = let h = rw c.if-in_bytes.false at c.requires in omega arith

pub bounds-rows-w : goal.bounds-rows-w
bounds-rows-w c = let h = rw c.if-in_bytes.false at c.requires in omega arith

pub overflow_add-result : goal.overflow_add-result
overflow_add-result c = let h = rw c.if-in_bytes.false at c.requires in omega arith

pub returns : goal.returns
returns c = rw c.if-in_bytes.false (selections.one_put c.args.rows.now c.args.w c.args.i (let h = rw c.if-in_bytes.false at c.requires in omega arith))
