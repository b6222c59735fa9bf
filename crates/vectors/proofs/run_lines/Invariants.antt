-- `vectors::run_lines` is safe and ends. The loop's invariant: no more lines than bytes are counted.
use Rattle.std.proofs.Common.{◌-◌, ◌≤◌, length}
use Rattle.vectors.proofs.run_lines.Given as goal

abbrev pub invariant-loop-at : goal.invariant-loop-at
invariant-loop-at l = l.n ≤ l.at

abbrev pub decreases-loop-at : goal.decreases-loop-at
decreases-loop-at l = length l.s - l.at
