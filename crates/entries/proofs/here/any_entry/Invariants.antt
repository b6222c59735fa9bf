-- `entries::here::any_entry` meets its contract.
use lib.ListN.{length}
use Rattle.entries.proofs.Searches as searches
use Rattle.entries.proofs.here.any_entry.Given as goal

abbrev pub invariant-loop-e : goal.invariant-loop-e
invariant-loop-e g l = searches.Tested (goal.F-post g l.test) l.rec l.e

abbrev pub decreases-loop-e : goal.decreases-loop-e
decreases-loop-e g l = length l.e
