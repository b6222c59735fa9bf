-- What the call answers, by its numbers and the bytes that it leaves; and what is known on the way there.
use Rattle.std.specs.Prelude.{◌≡◌, ℕ, ◌*◌, ◌≤◌, ◌<◌, List, [], ◌++◌, length, get_or, drop, Result, Ok}
use Rattle.rules.specs.Numbers.{list_most, queries_most}
use Rattle.names.specs.Refusals.{checked}
use Rattle.names.specs.declared.refusal.Refusal.{Refusal}
use Rattle.rules.specs.Reading.{read_for_selection}
use Rattle.rules.specs.Batch.{AllLeft, turns, select_all_left}
use Rattle.batch.specs.Cut.{queries_of}
use Rattle.batch.specs.Ask.{kept, Table}

abbrev pub all_left : ℕ → ℕ → ℕ → List ℕ → List ℕ → List ℕ → AllLeft
all_left refusal written count answers rows room = record {
  answer = record { refusal = refusal; written = written; count = count; rounds = 0; place = 0 };
  answers = answers;
  rows = rows;
  room = room;
}

-- bounds, for a caller that narrows the numbers
pub record Few (written count : ℕ) : Type 0 where
  pub bytes : written ≤ queries_most * (4 * list_most)
  pub queries : count ≤ queries_most

-- the faults of the queries; the table where the list is sound
pub record Prepared (s : List ℕ) (many : ℕ) (faults : List (Result (Unit {0}) Refusal)) (l : List ℕ) (records : Result ℕ Refusal) (table : List ℕ) : Type 0 where
  pub long : length faults ≡ queries_most
  pub known : (i : ℕ) → i < many → get_or faults i (Ok tt) ≡ checked (read_for_selection (get_or (queries_of s) i []))
  pub holds : (n : ℕ) → records ≡ Ok n → Table (queries_of s) many l kept table

-- after all turns
pub record Turned (s : List ℕ) (many : ℕ) (l answers rows : List ℕ) (w : ℕ) (answers' rows' : List ℕ) : Type 0 where
  pub written : w ≡ (turns (queries_of s) l rows).written
  pub output : rows' ≡ (turns (queries_of s) l rows).rows
  pub told : answers' ≡ (turns (queries_of s) l rows).told ++ drop (length (turns (queries_of s) l rows).told) answers
  pub few : w ≤ many * (4 * list_most)

pub record Answered (s l answers rows room : List ℕ) (refusal written count : ℕ) (answers' rows' room' : List ℕ) : Type 0 where
  pub is : all_left refusal written count answers' rows' room' ≡ select_all_left s l answers rows room
  pub few : Few written count
