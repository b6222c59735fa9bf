-- `stored::read::unwrap` meets its contract.
use Prim.Native.Nat.{◌-◌}
use Rattle.stored.proofs.Opening as opening
use Rattle.stored.proofs.read.unwrap.Given as goal

abbrev pub invariant-loop-e : goal.invariant-loop-e
invariant-loop-e l = opening.Opening l.depth l.s l.here

abbrev pub decreases-loop-e : goal.decreases-loop-e
decreases-loop-e l = l.here.to - l.here.from
