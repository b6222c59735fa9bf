-- `matching::phrase::any_missing` meets its contract.
use Rattle.matching.proofs.Words as words
use Rattle.rules.specs.Bytes.{each}
use Rattle.rules.specs.Lists.{entry_of}
use lib.ListN.{length}
use Rattle.matching.proofs.phrase.any_missing.Given as goal

abbrev pub invariant-loop-s : goal.invariant-loop-s
invariant-loop-s l = words.Rest (each entry_of l.r.entries.now) l.f l.ws.bytes.now l.s

abbrev pub decreases-loop-s : goal.decreases-loop-s
decreases-loop-s l = length l.s
