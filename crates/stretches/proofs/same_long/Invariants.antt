-- `stretches::same_long` meets its contract.
use Rattle.rules.specs.Bytes.{same}
use lib.Dec.{eqb}
use lib.ListN.{drop}
use mathlib.Core.Bool.{◌&&◌}
use mathlib.Core.Path.{◌≡◌}
use Rattle.stretches.proofs.same_long.Given as goal

abbrev pub invariant-loop-i : goal.invariant-loop-i
invariant-loop-i l = same l.a l.b ≡ (eqb l.seen 0 && same (drop l.i l.a) (drop l.i l.b))
