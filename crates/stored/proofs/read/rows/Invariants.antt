-- `stored::read::rows` meets its contract.
use Prim.Native.Nat.{◌+◌, ◌*◌, ◌-◌}
use Rattle.stored.proofs.Rowing as rowing
use lib.ListN.{length}
use Rattle.stored.proofs.read.rows.Given as goal

abbrev pub invariant-loop-here : goal.invariant-loop-here
invariant-loop-here l = rowing.Rowing l.first l.fn.sound l.s l.around.rows l.around.n l.here l.good

abbrev pub decreases-loop-here : goal.decreases-loop-here
decreases-loop-here l = 2 * (length l.s - l.here.from) + l.around.n
