-- `vectors::line::part_end`: from `at` to i there is no b.
use Rattle.std.proofs.Common.{◌≡◌, ◌≤◌, ◌<◌, ℕ}
use lib.ListN.{get_or}
use Rattle.vectors.proofs.line.part_end.Given as goal

abbrev pub invariant-loop-i : goal.invariant-loop-i
invariant-loop-i l = (k : ℕ) → k < l.i → l.at ≤ k → get_or l.s k 0 ≡ l.b → ⊥
