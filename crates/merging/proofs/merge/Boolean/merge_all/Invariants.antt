-- `merging::merge::Boolean::merge_all` meets its contract.
use Prim.Native.Nat.{◌-◌}
use Rattle.merging.proofs.Merging as merging
use Rattle.merging.specs.Signatures.{cells_of}
use Rattle.merging.proofs.merge.Boolean.merge_all.Given as goal

abbrev pub invariant-loop-t : goal.invariant-loop-t
invariant-loop-t l = merging.Merging l.self.strict l.end l.self.least (cells_of l.table) l.initial.room l.room l.t l.w l.last

abbrev pub decreases-loop-t : goal.decreases-loop-t
decreases-loop-t l = l.last - l.t
