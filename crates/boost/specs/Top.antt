-- The nearest 32-bit pattern of num / den by two values alone: its floor in some unit, and whether the division left a remainder.
use Rattle.std.specs.Prelude.{◌≡◌, ℕ, ◌+◌, ◌*◌, ◌/◌, ◌%◌, ◌^◌, ◌<◌, Bool, not, ◌&&◌, ◌||◌, cond, eqb}
use Rattle.rules.specs.Numerals.{nearest}

-- x / den leaves a remainder
abbrev pub left : ℕ → ℕ → Bool
left x den = not (eqb (x % den) 0)

-- h half units, with something more below them or not, to whole ones: the nearest, and of two the even one
abbrev pub halved : ℕ → Bool → ℕ
halved h below = h / 2 + cond (eqb (h % 2) 1 && (below || eqb (h / 2 % 2) 1)) 1 0

-- r is the pattern nearest to every fraction that has w units of 2 ^ c half units, and more where `below` says so; there are 2 ^ 150 half units in 1
pub record Rounded (w : ℕ) (below : Bool) (c r : ℕ) : Type 0 where
  pub is : (num den : ℕ) → 0 < den → w ≡ num * 2 ^ 150 / (den * 2 ^ c) → below ≡ left (num * 2 ^ 150) (den * 2 ^ c) → r ≡ nearest num den
