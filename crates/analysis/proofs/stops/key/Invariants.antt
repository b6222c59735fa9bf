-- `stops::key` meets its contract. The loop's invariant: the number of what was passed. Assumes nothing.
use Rattle.analysis.specs.Stops.{packed}
use Rattle.rules.specs.Analysis.{lowercase}
use lib.ListN.{drop}
use mathlib.Core.Path.{◌≡◌}
use Rattle.analysis.proofs.stops.key.Given as goal

abbrev pub invariant-loop-i : goal.invariant-loop-i
invariant-loop-i l = l.key ≡ packed (lowercase (drop l.i l.word))
