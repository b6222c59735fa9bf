-- Where a clause begins behind a field name, and how a boost behind it is bounded.
use Rattle.std.specs.Prelude.{◌≡◌, Result, Ok, Err, ℕ, ◌+◌, ◌≤◌, List}
use Rattle.rules.specs.Numbers.{Read, refused, faulty, long_field}
use Rattle.rules.specs.Lexing.{Token}
use Rattle.rules.specs.Setup.{Setup}
use Rattle.rules.specs.Parsing.{Found, clause_at, body_at}
use Rattle.row.specs.Row.{tokens_of, name_from}
use Rattle.clauses.specs.Measured.{place_at, Fielded, Tuned}
use Rattle.names.specs.Refusals.{located}
use Rattle.names.specs.declared.refusal.Fault.{Fault}
use Rattle.clauses.specs.declared.kinds.Clause.{Clause}
use Rattle.clauses.specs.declared.start.Start.{Start}

-- the clause at i, in the field `from`, is the body at i', in the field `from'`
pub record Started (room : List ℕ) (n i from analyzer from' analyzer' i' : ℕ) : Type 0 where
  pub low : i ≤ i'
  pub high : i' ≤ i + 2
  pub place : place_at (tokens_of room n) i ≤ place_at (tokens_of room n) i'
  pub fielded : (default : List ℕ) → Fielded room n default from → Fielded room n default from'
  pub tuned : (st : Setup) (o : ℕ) (default : List ℕ) → Tuned st o room n default from analyzer → Tuned st o room n default from' analyzer'
  pub goes : (st : Setup) (sub : List ℕ → ℕ → ℕ → Read Found) (default : List ℕ) (d : ℕ)
      → clause_at st (tokens_of room n) sub (name_from room default from) d i ≡ body_at st (tokens_of room n) sub (name_from room default from') d i'

abbrev pub Starts : List ℕ → ℕ → ℕ → ℕ → ℕ → Result Start Fault → Type 0
Starts room n i from analyzer (Err e) =
    ((st : Setup) (sub : List ℕ → ℕ → ℕ → Read Found) (f : List ℕ) (d : ℕ) → clause_at st (tokens_of room n) sub f d i ≡ refused (faulty long_field i)) × (e ≡ located (faulty long_field i))
Starts room n i from analyzer (Ok s) = Started room n i from analyzer s.from s.analyzer s.i

-- a boost adds seven bytes at most, and the clause ends at i or behind the boost
abbrev pub WithinBoost : List Token → ℕ → ℕ → ℕ → Result Clause Fault → Type 0
WithinBoost ts n i len (Err e) = 0 ≤ e.place
WithinBoost ts n i len (Ok c) = (i ≤ c.next) × (c.next ≤ n) × (place_at ts i ≤ place_at ts c.next) × (c.len ≤ len + 7)
