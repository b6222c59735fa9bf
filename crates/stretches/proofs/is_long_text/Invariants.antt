-- `stretches::is_long_text` meets its contract.
use Rattle.rules.specs.Bytes.{is_text}
use lib.Dec.{leb}
use lib.ListN.{drop}
use mathlib.Core.Bool.{◌&&◌}
use mathlib.Core.Path.{◌≡◌}
use Rattle.stretches.proofs.is_long_text.Given as goal

abbrev pub invariant-loop-i : goal.invariant-loop-i
invariant-loop-i l = is_text l.s ≡ (leb l.seen 127 && is_text (drop l.i l.s))
