-- `places::place::shift` meets its contract.
use Rattle.places.proofs.Standing.{unmoved, copied}
use mathlib.Core.Path.{◌∙◌}
use Rattle.places.proofs.place.shift.Goals.{then-to-from, else-to-from}
use Rattle.places.proofs.place.shift.Goals as goal

pub returns : goal.returns
returns c = elim c.if-to-from.branch [
  | then-to-from w ↦ copied _ _ _ _ c.requires.0 c.requires.1 (w.room-is ∙ w.copy_within.ensures.after)
  | else-to-from w ↦ rw w.room-is (unmoved _ _ _ _ c.requires.0 c.requires.1 w.if-to-from.false)
]
