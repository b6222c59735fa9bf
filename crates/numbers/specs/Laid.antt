-- Bytes laid into an output: what every writer's contract says the output holds afterwards.
use Rattle.std.specs.Prelude.{◌≡◌, ℕ, ◌+◌, ◌/◌, ◌%◌, List, [], ◌∷◌, ◌++◌, length, take, drop}

-- the output with s at a place: what stands before and behind s is as it was
unfoldable pub laid : List ℕ → ℕ → List ℕ → List ℕ
laid out at s = take at out ++ s ++ drop (at + length s) out

-- a writer lays s at a place and gives the place behind it
pub record Put (out : List ℕ) (at : ℕ) (s : List ℕ) (next : ℕ) (left : List ℕ) : Type 0 where
  pub place : next ≡ at + length s
  pub bytes : left ≡ laid out at s

-- the header of a part whose body has n bytes
abbrev pub header : ℕ → ℕ → List ℕ
header t n = t ∷ n / 256 ∷ n % 256 ∷ []
