-- Stop words as numbers.
use Rattle.std.specs.Prelude.{ℕ, ◌+◌, ◌*◌, List, [], ◌∷◌, map}
use Rattle.rules.specs.Words.{stop_words}

-- the bytes of a word, the first one lowest, below a leading 1
unfoldable pub packed : List ℕ → ℕ
packed [] = 1
packed (c ∷ s) = packed s * 256 + c

unfoldable pub stop_keys : List ℕ
stop_keys = map packed stop_words
