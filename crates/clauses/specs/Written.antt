-- What the writing routines are asked to write: what the definition gives, at a place where there is room for it.
use Rattle.std.specs.Prelude.{◌≡◌, ℕ, ◌+◌, ◌-◌, ◌≤◌, ◌<◌, List, ◌++◌, Bool, true, false, ◌&&◌, cond, get_or, set}
use Rattle.rules.specs.Numbers.{Read, got, refused, on_read, and_then}
use Rattle.rules.specs.Bytes.{big, part}
use Rattle.rules.specs.Query.{Clauses, none}
use Rattle.rules.specs.Lexing.{Token, term_kind, caret_kind}
use Rattle.rules.specs.Setup.{Setup}
use Rattle.rules.specs.Parsing.{Conjunction, Made, Found, found, kept, is_at, closed_at, query_found, query_of, touched, parse_clauses}
use Rattle.numbers.specs.Laid.{Put, header}
use Rattle.row.specs.Row.{tokens_of, name_from}
use Rattle.counted.specs.Kinds.{last_tag, is_alone, made_length}
use Rattle.clauses.specs.Leaves.{leaf_at}
use Rattle.clauses.specs.Measured.{Says, Tuned, clause_run, clauses_run}

-- from some fuel on, run gives r
abbrev pub Eventually : {A : Type 0} → (ℕ → Read A) → Read A → Type 0
Eventually run r = (m : ℕ) × Says run m r

-- ---- a boost

abbrev pub bits_in : Read ℕ → ℕ
bits_in (got b) = b
bits_in (refused x) = 0

-- a boost stands at i
abbrev pub is_boosted : List Token → ℕ → Bool
is_boosted ts i = is_at caret_kind ts i && is_at term_kind ts (i + 1)

-- how many bytes its front takes
abbrev pub boost_size : List Token → ℕ → ℕ
boost_size ts i = cond (is_boosted ts i) 7 0

-- ---- the setup, what is to be written, and where it goes in n bytes

-- there is room for it at a place; nothing takes none, wherever that is
abbrev pub HasRoom : Made → ℕ → ℕ → Type 0
HasRoom m at n = 0 < made_length m → at + made_length m ≤ n

-- a term or a quote at i
pub record LeafToWrite (room : List ℕ) (k : ℕ) (default : List ℕ) (operator from analyzer i at n : ℕ) (st : Setup) (m : Made) (j : ℕ) : Type 0 where
  pub tuned : Tuned st operator room k default from analyzer
  pub is : leaf_at (is_at term_kind (tokens_of room k) i) st (tokens_of room k) (name_from room default from) i ≡ got (found m j)
  pub fits : HasRoom m at n

-- a query in brackets from i on
abbrev pub bracket_run : Setup → List Token → List ℕ → ℕ → ℕ → ℕ → Read Found
bracket_run st ts f d i k = and_then (on_read query_found (parse_clauses st ts k f d none i)) (closed_at st ts)

pub record BracketToWrite (room : List ℕ) (k : ℕ) (default : List ℕ) (operator from analyzer depth i at n : ℕ) (st : Setup) (m : Made) (j : ℕ) : Type 0 where
  pub tuned : Tuned st operator room k default from analyzer
  pub is : Eventually (bracket_run st (tokens_of room k) (name_from room default from) depth i) (got (found m j))
  pub fits : HasRoom m at n

-- a clause at i
pub record ClauseToWrite (room : List ℕ) (k : ℕ) (default : List ℕ) (operator from analyzer depth i at n : ℕ) (st : Setup) (m : Made) (j : ℕ) : Type 0 where
  pub tuned : Tuned st operator room k default from analyzer
  pub is : Eventually (clause_run st (tokens_of room k) (name_from room default from) depth i) (got (found m j))
  pub fits : HasRoom m at n

-- the clauses from i on, in a stretch that their query fills
pub record QueryToWrite (room : List ℕ) (k : ℕ) (default : List ℕ) (operator from analyzer depth i : ℕ) (alone : Bool) (n : ℕ) (st : Setup) (cs : Clauses) (j : ℕ) : Type 0 where
  pub tuned : Tuned st operator room k default from analyzer
  pub is : Eventually (clauses_run st (tokens_of room k) (name_from room default from) depth none i) (got (kept cs j))
  pub alone_is : alone ≡ is_alone cs
  pub fills : n ≡ made_length (query_of cs)

-- ---- the front of a Boolean, and where its clauses begin

-- the first eight bytes of a Boolean of n bytes
abbrev pub bool_front : ℕ → List ℕ
bool_front n = header 3 (n - 3) ++ part 0x13 (big 2 0)

-- laid, unless a query is its one clause: then nothing is, and the clause begins at 0
abbrev pub PutUnless : Bool → List ℕ → ℕ → List ℕ → ℕ → List ℕ → Type 0
PutUnless true out at s r out' = (r ≡ 0) × (out' ≡ out)
PutUnless false out at s r out' = Put out at s r out'

-- the body of a clause stands behind its header, and at once where a query is its one clause
abbrev pub body_start : Bool → ℕ → ℕ
body_start alone at = cond alone at (at + 3)

-- ---- the last clause's kind

-- its tag stands at a place, and a conjunction alters it there
abbrev pub Touches : Bool → ℕ → ℕ → Conjunction → List ℕ → List ℕ → Type 0
Touches false last o c out out' = out' ≡ out
Touches true last o c out out' =
    (cs : Clauses) → get_or out last 0 ≡ last_tag cs → out' ≡ set out last (last_tag (touched o c cs))
