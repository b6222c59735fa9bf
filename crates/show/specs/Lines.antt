-- The lines of an input, as code cuts them, and what is parsed of them.
use Rattle.std.specs.Prelude.{ℕ, List, Bool, not, cond, eqb}
use Rattle.rules.specs.Numbers.{Read, and_then}
use Rattle.rules.specs.Bytes.{ascii, same, is_empty}
use Rattle.rules.specs.Query.{Query}
use Rattle.rules.specs.Analysis.{front, after}
use Rattle.rules.specs.Parsing.{parse}
use Rattle.rules.specs.Show.{in_word, first_line, second_line, show_setup}

-- any byte but b
abbrev pub other : ℕ → ℕ → Bool
other b c = not (eqb c b)

-- an operator word's number, and 2, which no setup has
unfoldable pub operator_number : List ℕ → ℕ
operator_number w = cond (same w (ascii "or")) 0 (cond (same w (ascii "and")) 1 2)

unfoldable pub line_operator : List ℕ → ℕ
line_operator s = cond (is_empty (after in_word s)) 2 (operator_number (front in_word s))

-- the query as written
unfoldable pub written_in : List ℕ → Read Query
written_in s = and_then (show_setup (first_line s)) (λ st. parse st (second_line s))
