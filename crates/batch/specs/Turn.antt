-- A query's turn, by the column of its bits in the table.
use Rattle.std.specs.Prelude.{ℕ, ◌≤◌, ◌<◌, List, [], length, get_or, Result}
use Rattle.rules.specs.Numbers.{selection_depth, select_all_room, queries_most, Read}
use Rattle.rules.specs.Bytes.{Bytes, each}
use Rattle.rules.specs.Lists.{Entry, record_of}
use Rattle.names.specs.Refusals.{answered}
use Rattle.names.specs.declared.refusal.Refusal.{Refusal}
use Rattle.matching.specs.declared.level.Level.{Level}
use Rattle.matching.specs.Truth.{Truth}
use Rattle.batch.specs.Bits.{bit_at}
use Rattle.batch.specs.Ask.{kept, row_at}

-- the bits j of the table are the truths of the query s
pub record Column (s l table : List ℕ) (j : ℕ) : Type 0 where
  pub at : (r : ℕ) → r < kept → r < length (each record_of l) → Truth s (get_or (each record_of l) r []) (bit_at (row_at table r) j)

-- the query as it is asked: the bytes of its slice, and its column
pub record Asks (s l table : List ℕ) (j : ℕ) : Type 0 where
  pub bytes : Bytes s
  pub column : Column s l table j

-- the table, the bit, and the row for open Booleans
pub record Lent (table : List ℕ) (j : ℕ) (row : List Level) : Type 0 where
  pub long : select_all_room ≤ length table
  pub bits : j < queries_most
  pub deep : selection_depth ≤ length row

-- how many records a list has
abbrev pub records_in : Read (List (List Entry)) → Result ℕ Refusal
records_in o = answered (length {A = List Entry}) o
