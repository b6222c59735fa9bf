-- `matching::truth::settle` meets its contract.
use Rattle.matching.proofs.Walks as walks
use Rattle.matching.specs.Truth.{Open}
use Rattle.rules.specs.Bytes.{each}
use Rattle.rules.specs.Lists.{entry_of}
use lib.ListN.{length}
use mathlib.Core.Path.{◌≡◌}
use Rattle.matching.proofs.truth.settle.Given as goal

abbrev pub invariant-loop-d : goal.invariant-loop-d
invariant-loop-d l = (length l.row ≡ length l.initial.row) × ((o : Open l.q l.initial.row l.depth l.at) → walks.Back (each entry_of l.r.entries.now) l.q l.row l.d l.e l.y o l.known)
