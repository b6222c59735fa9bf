-- What one round asks for and leaves: a query at the end of the room, its rewriting at the front.
use Rattle.std.specs.Prelude.{◌≡◌, ℕ, ◌≤◌, ◌<◌, List, Bool, true, false, Option, Some, None, length, drop}
use Rattle.rules.specs.Query.{Query, Clauses}
use Rattle.rules.specs.Stored.{encodes}
use Rattle.rules.specs.Checked.{Is, Are}
use Rattle.rules.specs.Rewriting.{is_dead, live, rewrite_each, clause_count, clause_counts, bulk, bulks}
use Rattle.places.specs.Within.{Stands}

-- the query from `at` on, and a byte of space before it for each of its clauses
pub record Room (at : ℕ) (room : List ℕ) : Type 0 where
  pub query : Query
  pub is : Is (drop at room) query
  pub fits : clause_count query ≤ at
  pub small : bulk query < 65536

-- the clauses of a Boolean
pub record Rooms (at : ℕ) (room : List ℕ) : Type 0 where
  pub clauses : Clauses
  pub are : Are (drop at room) clauses
  pub low : at ≤ length room
  pub fits : clause_counts clauses ≤ at
  pub small : bulks clauses < 65536

-- the clauses after their own rounds: those that live stand at the front, and none ends the Boolean
pub record Went (strict : Bool) (w : ℕ) (room room' : List ℕ) (cs : Clauses) : Type 0 where
  pub stands : Stands 0 room w (encodes (live (rewrite_each strict cs))) room'
  pub alive : is_dead (rewrite_each strict cs) ≡ false

abbrev pub Rewritten : Bool → List ℕ → Option ℕ → List ℕ → Clauses → Type 0
Rewritten strict room None room' cs = is_dead (rewrite_each strict cs) ≡ true
Rewritten strict room (Some w) room' cs = Went strict w room room' cs
