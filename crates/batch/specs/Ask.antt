-- One record asked of all queries, and the table of answers for the first records.
use Rattle.std.specs.Prelude.{◌≡◌, ℕ, ◌+◌, ◌-◌, ◌*◌, ◌≤◌, ◌<◌, List, [], true, length, get_or, take, drop, Result}
use Rattle.rules.specs.Numbers.{list_most, selection_depth, queries_most}
use Rattle.rules.specs.Bytes.{of_big, every, each}
use Rattle.names.specs.declared.refusal.Refusal.{Refusal}
use Rattle.matching.specs.declared.level.Level.{Level}
use Rattle.rules.specs.Reading.{number_of, read_for_selection}
use Rattle.rules.specs.Lists.{Entry, is_entry, is_record, entry_of, record_of}
use Rattle.entries.specs.Slots.{Before}
use Rattle.matching.specs.Truth.{Truth}
use Rattle.batch.specs.Bits.{bit_at}
use Rattle.batch.specs.Cut.{queries_of, Cuts}
use Rattle.batch.specs.Plan.{Planned}

-- a query that selection takes
abbrev pub Sound : List ℕ → Type 0
Sound s = number_of (read_for_selection s) ≡ 0

-- the queries of a slice, each with what is found of it
pub record Queries (s : List ℕ) (many : ℕ) (faults : List (Result (Unit {0}) Refusal)) (masks : List ℕ) : Type 0 where
  pub cuts : Cuts s many
  pub planned : Planned (queries_of s) many faults masks
  pub long : length faults ≡ queries_most

-- a record of a list, whose entries stand from `from` on, and the rows for it
pub record Ready (rec : List ℕ) (from : ℕ) (slots : List ℕ) (row : List Level) : Type 0 where
  pub entries : every is_entry rec ≡ true
  pub fits : from + length rec ≤ list_most
  pub before : Before slots from
  pub deep : selection_depth ≤ length row

-- the bits of the first n of the queries are their truths of es
pub record Told (qs : List (List ℕ)) (n : ℕ) (es : List Entry) (bits : ℕ) : Type 0 where
  pub at : (i : ℕ) → i < n → Sound (get_or qs i []) → Truth (get_or qs i []) es (bit_at bits (n - 1 - i))

pub record Asked (s : List ℕ) (many : ℕ) (rec : List ℕ) (from : ℕ) (slots : List ℕ) (bits : ℕ) : Type 0 where
  pub told : Told (queries_of s) many (each entry_of rec) bits
  pub before : Before slots (from + length rec)

-- ---- the table: eight bytes for each of the first 2,048 records

abbrev pub kept : ℕ
kept = 2048

abbrev pub row_at : List ℕ → ℕ → ℕ
row_at table r = of_big (take 8 (drop (8 * r) table))

-- as far as the n-th of them
pub record Table (qs : List (List ℕ)) (many : ℕ) (l : List ℕ) (n : ℕ) (table : List ℕ) : Type 0 where
  pub at : (r : ℕ) → r < n → r < length (each record_of l) → Told qs many (get_or (each record_of l) r []) (row_at table r)

-- a list that was checked, and how many records it has
pub record Records (l : List ℕ) (n : ℕ) : Type 0 where
  pub count : n ≡ length (each record_of l)
  pub records : every is_record l ≡ true
  pub long : length l ≤ list_most
