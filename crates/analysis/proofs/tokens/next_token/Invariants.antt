-- `tokens::next_token` meets its contract. The loop's invariant: what was passed is left out. Assumes nothing.
use Prim.Native.Nat.{◌-◌}
use Rattle.analysis.proofs.Keeping.{Passing}
use lib.ListN.{length}
use Rattle.analysis.proofs.tokens.next_token.Given as goal

abbrev pub invariant-loop-t : goal.invariant-loop-t
invariant-loop-t l = Passing l.analyzer l.text l.at l.position-2 l.from l.position

abbrev pub decreases-loop-t : goal.decreases-loop-t
decreases-loop-t l = length l.text - l.from
