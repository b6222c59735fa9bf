-- What the last step of a round finds in the room: a query or clauses that had their own round, a few bytes behind the front.
use Rattle.std.specs.Prelude.{ℕ, ◌+◌, ◌-◌, ◌≤◌, ◌<◌, List, length, take, drop}
use Rattle.rules.specs.Query.{Word, Kind, Query, phrase, Clauses, none, clause}
use Rattle.rules.specs.Checked.{Is, Are}
use Rattle.rules.specs.Rewriting.{bulks}
use Rattle.places.specs.Within.{within}

-- a query of n bytes stands at a, and as many bytes are to go before it
pub record Inner (a n : ℕ) (room : List ℕ) : Type 0 where
  pub query : Query
  pub is : Is (take n (drop a room)) query
  pub fits : a + n ≤ length room
  pub small : a + n < 65536

-- a phrase from `at` on
pub record Phrase (at : ℕ) (room : List ℕ) : Type 0 where
  pub field : List ℕ
  pub words : List Word
  pub is : Is (drop at room) (phrase field words)
  pub low : at ≤ length room
  pub small : length room - at < 65536

-- clauses from 8 up to `end`, and a byte of space behind them for each
pub record Live (end m : ℕ) (room : List ℕ) : Type 0 where
  pub clauses : Clauses
  pub are : Are (within 8 end room) clauses
  pub low : 8 ≤ end
  pub high : end ≤ length room
  pub fits : 8 + bulks clauses ≤ length room
  pub small : 8 + bulks clauses < 65536
  pub least : m < 65536

-- one clause alone, from 8 up to `end`
pub record Lone (end : ℕ) (room : List ℕ) : Type 0 where
  pub kind : Kind
  pub query : Query
  pub are : Are (within 8 end room) (clause kind query none)
  pub low : 8 ≤ end
  pub fits : end ≤ length room
  pub small : end < 65536
