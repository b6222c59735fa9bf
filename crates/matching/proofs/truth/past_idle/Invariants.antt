use Rattle.matching.proofs.Walks as walks
use Rattle.rules.specs.Bytes.{each}
use Rattle.rules.specs.Lists.{entry_of}
use lib.ListN.{length}
use Rattle.matching.proofs.truth.past_idle.Given as goal

abbrev pub invariant-loop-t : goal.invariant-loop-t
invariant-loop-t l = walks.Passed (each entry_of l.r.entries.now) l.q l.at l.end l.over l.t

abbrev pub decreases-loop-t : goal.decreases-loop-t
decreases-loop-t l = length l.t
