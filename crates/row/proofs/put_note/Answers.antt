-- `row::put_note` meets its contract: one store. Assumes nothing.
use Rattle.row.proofs.Noting.{renoted}
use native.Mathlib.Omega.{arith}
use Rattle.row.proofs.put_note.Goals as goal

pub returns : goal.returns
returns c = renoted c.args.room.now c.args.i c.args.a (omega arith) (omega arith)
