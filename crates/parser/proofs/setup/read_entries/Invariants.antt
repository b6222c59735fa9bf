-- `parser::setup::read_entries` meets its contract.
use Rattle.parser.proofs.Entries.{Entering}
use lib.ListN.{length}
use Rattle.parser.proofs.setup.read_entries.Given as goal

abbrev pub invariant-loop-rest : goal.invariant-loop-rest
invariant-loop-rest l = Entering l.fields l.rest l.names l.lengths l.analyzers l.count

abbrev pub decreases-loop-rest : goal.decreases-loop-rest
decreases-loop-rest l = length l.rest
