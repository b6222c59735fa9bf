-- What the measuring routines answer of what is read: a refusal's number and the token that it is met at, or lengths and the number of the next token.
use Rattle.std.specs.Prelude.{◌≡◌, Result, Ok, Err, ℕ, suc, ◌+◌, ◌*◌, ◌-◌, ◌≤◌, ◌<◌, List, [], Bool, true, ◌&&◌, length, get_or}
use Rattle.rules.specs.Numbers.{faulty, Read, got, refused, on_read, text_most, field_most}
use Rattle.rules.specs.Numbers as rules
use Rattle.rules.specs.Query.{Clauses, none}
use Rattle.rules.specs.Lexing.{Token, end_kind, term_kind, colon_kind}
use Rattle.rules.specs.Setup.{Setup, analyzer_of}
use Rattle.rules.specs.Parsing.{Made, Found, found, Kept, kept, is_at, text_at, query_found, clause_at, parse_clauses}
use Rattle.row.specs.Row.{room_least, note_in, tokens_of, Laid, Worded, name_from}
use Rattle.counted.specs.Kinds.{Sums, made_length}
use Rattle.names.specs.Refusals.{coded_fault}
use Rattle.names.specs.declared.refusal.Fault.{Fault}
use Rattle.clauses.specs.declared.kinds.Clause.{Clause}
use Rattle.counted.specs.declared.Counted.{Counted}

-- every fuel from m on gives r
abbrev pub Says : {A : Type 0} → (ℕ → Read A) → ℕ → Read A → Type 0
Says run m r = (k : ℕ) → m ≤ k → run k ≡ r

-- ---- the tokens in the room

-- the place of the token at i, and 1,024 past the last
abbrev pub place_at : List Token → ℕ → ℕ
place_at ts i = (get_or ts i (record { kind = end_kind; text = []; place = text_most })).place

-- a token takes a byte of the text at least, and as many as its own text has
pub record Spaced (ts : List Token) (i : ℕ) : Type 0 where
  pub onward : place_at ts i < place_at ts (suc i)
  pub within : place_at ts i + length (text_at ts i) ≤ place_at ts (suc i)
  pub most : place_at ts (suc i) ≤ text_most

-- the row of n tokens that the lexer left
pub record Rowed (room : List ℕ) (n : ℕ) : Type 0 where
  pub least : room_least ≤ length room
  pub few : n ≤ text_most
  pub laid : Laid room n
  pub spaced : (i : ℕ) → i < n → Spaced (tokens_of room n) i
  pub worded : Worded room n

-- a field name stands before the clause at i
abbrev pub is_named : List Token → ℕ → Bool
is_named ts i = is_at term_kind ts i && is_at colon_kind ts (i + 1)

-- the analyzer that is noted at the token i
abbrev pub note_at : List ℕ → ℕ → ℕ
note_at room i = note_in room i

-- the field in force, by number: 0 the default field, k + 1 the text of token k
pub record Fielded (room : List ℕ) (n : ℕ) (default : List ℕ) (from : ℕ) : Type 0 where
  pub upto : from ≤ n
  pub short : length (name_from room default from) ≤ field_most

-- what the routines are handed stands for the setup: its operator, the analyzer noted at each field name, that of the field in force
pub record Tuned (st : Setup) (operator : ℕ) (room : List ℕ) (n : ℕ) (default : List ℕ) (from analyzer : ℕ) : Type 0 where
  pub joins : st.operator ≡ operator
  pub noted : (k : ℕ) → k < n → is_named (tokens_of room n) k ≡ true → note_at room k ≡ analyzer_of st (text_at (tokens_of room n) k)
  pub force : analyzer ≡ analyzer_of st (name_from room default from)

-- ---- the definitions, by fuel

abbrev pub clause_run : Setup → List Token → List ℕ → ℕ → ℕ → ℕ → Read Found
clause_run st ts f d i k = clause_at st ts (λ g e h. on_read query_found (parse_clauses st ts k g e none h)) f d i

abbrev pub clauses_run : Setup → List Token → List ℕ → ℕ → Clauses → ℕ → ℕ → Read Kept
clauses_run st ts f d cs i k = parse_clauses st ts k f d cs i

-- ---- the answers

abbrev pub MeansFound : Result Clause Fault → Read Found → Type 0
MeansFound (Err e) r = (f : rules.Fault) × (r ≡ refused (faulty f e.place)) × (e.refusal ≡ coded_fault f)
MeansFound (Ok c) r = (m : Made) × (r ≡ got (found m c.next)) × (c.len ≡ made_length m)

abbrev pub MeansKept : Result Counted Fault → Read Kept → Type 0
MeansKept (Err e) r = (f : rules.Fault) × (r ≡ refused (faulty f e.place)) × (e.refusal ≡ coded_fault f)
MeansKept (Ok g) r = (cs : Clauses) × (r ≡ got (kept cs g.next)) × Sums cs g.sum.count g.sum.tag g.sum.bytes

-- a clause from i on ends at next, and takes at most 63 bytes for each byte of the text, with its header
abbrev pub WithinClause : List Token → ℕ → ℕ → Result Clause Fault → Type 0
WithinClause ts n i (Err e) = 0 ≤ e.place
WithinClause ts n i (Ok c) = (i < c.next) × (c.next ≤ n) × (place_at ts i + 1 ≤ place_at ts c.next) × (c.len + 3 ≤ 63 * (place_at ts c.next - place_at ts i))

abbrev pub WithinClauses : List Token → ℕ → ℕ → Result Counted Fault → Type 0
WithinClauses ts n i (Err e) = 0 ≤ e.place
WithinClauses ts n i (Ok g) =
    (i ≤ g.next) × (g.next ≤ n) × (place_at ts i ≤ place_at ts g.next) × (g.sum.bytes ≤ 63 * (place_at ts g.next - place_at ts i)) × (3 * g.sum.count ≤ g.sum.bytes)

pub record MeantClause (st : Setup) (ts : List Token) (n : ℕ) (f : List ℕ) (d i : ℕ) (g : Result Clause Fault) : Type 0 where
  pub answer : Read Found
  pub says : Says (clause_run st ts f d i) (n - i) answer
  pub means : MeansFound g answer

pub record MeantClauses (st : Setup) (ts : List Token) (n : ℕ) (f : List ℕ) (d i : ℕ) (g : Result Counted Fault) : Type 0 where
  pub answer : Read Kept
  pub says : Says (clauses_run st ts f d none i) (suc (n - i)) answer
  pub means : MeansKept g answer
