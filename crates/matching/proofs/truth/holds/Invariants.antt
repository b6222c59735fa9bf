-- `matching::truth::holds` meets its contract.
use Prim.Native.Nat.{◌-◌}
use Rattle.matching.proofs.Walks as walks
use Rattle.rules.specs.Bytes.{each}
use Rattle.rules.specs.Lists.{entry_of}
use lib.ListN.{length}
use mathlib.Core.Path.{◌≡◌}
use Rattle.matching.proofs.truth.holds.Given as goal

abbrev pub invariant-loop-y : goal.invariant-loop-y
invariant-loop-y l = (length l.row ≡ length l.initial.row) × walks.Standing (each entry_of l.rec) l.q l.row l.p.depth l.p.at l.p.end

abbrev pub decreases-loop-y : goal.decreases-loop-y
decreases-loop-y l = length l.q - l.p.at
