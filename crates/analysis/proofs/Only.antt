-- No second answer meets the contracts that are records: what they say leaves one start, one length and one position. Assumes nothing.
use mathlib.Core.Path.{◌≡◌, sym, ◌∙◌}
use Prim.Native.Nat.{ℕ}
use mathlib.Core.List.{List}
use Rattle.analysis.specs.Words.{Starts}
use Rattle.analysis.specs.Tokens.{Found, Next}

pub one_start : (s : List ℕ) (at start start' : ℕ) → Starts s at start → Starts s at start' → start ≡ start'
one_start s at start start' f g = f.place ∙ sym g.place

pub one_found : (a : ℕ) (s : List ℕ) (at start len start' len' : ℕ) → Found a s at start len → Found a s at start' len' → (start ≡ start') × (len ≡ len')
one_found a s at start len start' len' f g = (f.place ∙ sym g.place, f.size ∙ sym g.size)

pub one_next : (a : ℕ) (s : List ℕ) (at p start len position start' len' position' : ℕ) → Next a s at p start len position → Next a s at p start' len' position' →
    (start ≡ start') × (len ≡ len') × (position ≡ position')
one_next a s at p start len position start' len' position' f g =
    (f.place ∙ sym g.place, f.size ∙ sym g.size, f.counted ∙ sym g.counted)
