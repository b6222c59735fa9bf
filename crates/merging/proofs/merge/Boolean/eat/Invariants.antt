-- `merging::merge::Boolean::eat` meets its contract.
use Prim.Native.Nat.{◌-◌}
use Rattle.merging.proofs.Eating as eating
use Rattle.merging.proofs.merge.Boolean.eat.Given as goal

abbrev pub invariant-loop-u : goal.invariant-loop-u
invariant-loop-u l = eating.Eating l.self.strict l.self.least l.m.base l.m.kind l.at l.end l.initial.sum l.initial.room l.room l.sum l.from l.u

abbrev pub decreases-loop-u : goal.decreases-loop-u
decreases-loop-u l = l.end - l.u
