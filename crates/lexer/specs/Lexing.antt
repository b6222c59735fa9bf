-- The row that the lexer leaves.
use Rattle.std.specs.Prelude.{◌≡◌, ℕ, ◌<◌, List, length}
use Rattle.rules.specs.Numbers.{text_most, place_of, Read, got, refused}
use Rattle.rules.specs.Lexing.{Token}
use Rattle.row.specs.Row.{tokens_of, Laid, Worded}

-- the room holds the tokens, each one's text stands among its first 1,024 bytes, and what is noted as a word is one; a fault is within those of the text
abbrev pub Row : Read (List Token) → List ℕ → Type 0
Row (refused f) room = place_of f < text_most
Row (got ts) room = (tokens_of room (length ts) ≡ ts) × Laid room (length ts) × Worded room (length ts)
