-- A text is compared with an operator's word as the definition compares them.
use mathlib.Core.Path.{◌≡◌, refl, sym, ◌∙◌}
use Prim.Native.Nat.{ℕ}
use mathlib.Core.List.{List, [], ◌∷◌}
use mathlib.Core.Bool.{Bool}
use lib.Dec.{eqb}
use lib.Pointwise.{pointwise}
use Rattle.rules.specs.Bytes.{same}

equal_same : (s t : List ℕ) → pointwise eqb s t ≡ same s t
unfolding same
equal_same [] [] = refl
equal_same [] (y ∷ t) = refl
equal_same (x ∷ s) [] = refl
equal_same (x ∷ s) (y ∷ t) = rw (equal_same s t) refl

pub same_told : (s t u : List ℕ) {b x : Bool} → b ≡ pointwise eqb s t → t ≡ u → b ≡ x → same s u ≡ x
same_told s t u e f g = sym (equal_same s u) ∙ rw (← f) (sym e ∙ g)
