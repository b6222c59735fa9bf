-- `clauses::leaf::put_spelled` meets its contract.
use Prim.Native.Nat.{◌≤◌, ◌+◌}
use Rattle.analysis.specs.Tokens.{spelled}
use lib.ListN.{length}
use lib.Seq.{paste}
use mathlib.Core.Path.{◌≡◌}
use Rattle.clauses.proofs.leaf.put_spelled.Given as goal

abbrev pub invariant-loop-k : goal.invariant-loop-k
invariant-loop-k l = (l.at + length l.s ≤ length l.initial.out) × (length l.out ≡ length l.initial.out) × (l.out ≡ paste l.initial.out l.at (spelled l.analyzer l.s) l.k)
