-- `matching::phrase::follow` meets its contract.
use Rattle.entries.proofs.Searches as searches
use Rattle.rules.specs.Bytes.{each}
use Rattle.rules.specs.Lists.{entry_of}
use Rattle.rules.specs.Matching.{follows_from}
use Rattle.rules.specs.Reading.{word_of, is_word}
use lib.ListN.{length}
use mathlib.Core.Bool.{false}
use Rattle.matching.proofs.phrase.follow.Given as goal

abbrev pub invariant-loop-s : goal.invariant-loop-s
invariant-loop-s l = searches.Left is_word word_of false (follows_from (each entry_of l.r.entries.now) l.f l.p l.x) l.ws.bytes.now l.s

abbrev pub decreases-loop-s : goal.decreases-loop-s
decreases-loop-s l = length l.s
