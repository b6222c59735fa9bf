-- What the quick test of a part finds is a sound term.
use mathlib.Core.Path.{◌≡◌}
use Prim.Native.Nat.{ℕ}
use mathlib.Core.List.{List}
use mathlib.Core.Bool.{true}
use Rattle.rules.specs.Numbers.{text_tag}
use Rattle.rules.proofs.Bools.{both}
use Rattle.parts.specs.Part.{Plain}
use Rattle.stored.specs.Read.{is_term}

pub plain_term : (b : List ℕ) → Plain text_tag 0 b → is_term b ≡ true
plain_term b P = both P.field (both P.held (both P.text P.end))
