-- `words::end_of` meets its contract. The loop's invariant: the word goes on so far, and what holds together ends here. Assumes nothing.
use Prim.Native.Nat.{suc, ◌-◌, ◌<◌}
use Rattle.analysis.proofs.Seeking.{Ending}
use Rattle.rules.specs.InWords.{is_inner, value_at}
use mathlib.Core.Bool.{false}
use mathlib.Core.Path.{◌≡◌}
use Rattle.analysis.proofs.words.end_of.Given as goal

abbrev pub invariant-loop-i : goal.invariant-loop-i
invariant-loop-i l = (Ending l.text l.start l.end l.i) × (l.i < l.end → is_inner (value_at l.text (suc (suc l.i))) ≡ false)

abbrev pub decreases-loop-i : goal.decreases-loop-i
decreases-loop-i l = l.end - l.i
