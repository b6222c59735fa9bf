-- Terms and phrases as the code measures and writes them: by the tokens, one after the other.
use Rattle.std.specs.Prelude.{◌≡◌, ℕ, ◌+◌, List, [], ◌∷◌, ◌++◌, length, Bool, true, false}
use Rattle.rules.specs.Numbers.{Fault, Read, fuzzy_term, sloppy_phrase}
use Rattle.rules.specs.Bytes.{part}
use Rattle.rules.specs.Query.{Word, word, term}
use Rattle.rules.specs.Lexing.{Token, term_kind, quoted_kind}
use Rattle.rules.specs.Setup.{Setup}
use Rattle.rules.specs.Parsing.{Made, Found, term_of, phrase_of, plain_at, quoted_at}
use Rattle.rules.specs.Stored.{encode}

-- the bytes of all the texts, with `each` more for every one
unfoldable pub tallied : ℕ → List Word → ℕ
tallied each [] = 0
tallied each (word p t ∷ ws) = each + length t + tallied each ws

-- clauses of one kind, a term each
unfoldable pub term_row : ℕ → List ℕ → List Word → List ℕ
term_row tag f [] = []
term_row tag f (word p t ∷ ws) = part tag (encode (term f t)) ++ term_row tag f ws

-- ---- a term, and with false a quoted text

abbrev pub leaf_of : Bool → ℕ → List ℕ → List Word → Made
leaf_of true o f ws = term_of o f ws
leaf_of false o f ws = phrase_of f ws

abbrev pub leaf_kind : Bool → ℕ
leaf_kind true = term_kind
leaf_kind false = quoted_kind

abbrev pub leaf_fault : Bool → Fault
leaf_fault true = fuzzy_term
leaf_fault false = sloppy_phrase

abbrev pub leaf_at : Bool → Setup → List Token → List ℕ → ℕ → Read Found
leaf_at true st ts f i = plain_at st ts f i
leaf_at false st ts f i = quoted_at st ts f i

-- ---- the tokens of a text counted

pub record Tallied (ws : List Word) (each count bytes : ℕ) : Type 0 where
  pub counted : count ≡ length ws
  pub size : bytes ≡ tallied each ws
