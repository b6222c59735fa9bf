-- What a selection answers, and what it leaves in the rows and in the room.
use Rattle.std.specs.Prelude.{◌≡◌, ℕ, ◌*◌, ◌/◌, ◌≤◌, Bool, cond, List, [], ◌∷◌, ◌++◌, length, drop, leb, Result, Ok, Err}
use Rattle.rules.specs.Numbers.{list_most, long_answer, Read, got, refused, need, and_then}
use Rattle.rules.specs.Bytes.{big}
use Rattle.rules.specs.Answers.{Answer, selected, row_bytes, select_left}
use Rattle.names.specs.Refusals.{numbered, answered}
use Rattle.names.specs.declared.refusal.Refusal.{Refusal}

-- the numbers that were selected; none where the selection is refused
abbrev pub listed : Read (List ℕ) → List ℕ
listed (got ns) = ns
listed (refused r) = []

-- with room for n numbers: 18 comes after all other refusals
abbrev pub within : ℕ → Read (List ℕ) → Read (List ℕ)
within n o = and_then o (λ ns. need (leb (length ns) n) long_answer (got ns))

-- ---- rows of either kind

-- one number, and all numbers, as the rows hold them
abbrev pub coded : Bool → ℕ → List ℕ
coded in_bytes n = cond in_bytes (big 4 n) (n ∷ [])

abbrev pub rows_of : Bool → List ℕ → List ℕ
rows_of in_bytes ns = cond in_bytes (row_bytes ns) ns

-- which of the two are filled
abbrev pub filled : Bool → List ℕ → List ℕ → List ℕ
filled in_bytes rows bytes = cond in_bytes bytes rows

-- ---- rows of numbers

abbrev pub answer_of : Read (List ℕ) → Result ℕ Refusal
answer_of o = answered length o

abbrev pub rows_after : Read (List ℕ) → List ℕ → List ℕ
rows_after (refused r) before = before
rows_after (got ns) before = ns ++ drop (length ns) before

pub record Selects (s l before after : List ℕ) (r : Result ℕ Refusal) : Type 0 where
  pub answer : r ≡ answer_of (within (length before) (selected s l))
  pub rows : after ≡ rows_after (within (length before) (selected s l)) before

-- ---- rows of bytes

-- the paper's number and values for each case of the answer
abbrev pub told : Result ℕ Refusal → Answer
told (Err r) = record { refusal = numbered r; written = 0; count = 0; rounds = 0; place = 0 }
told (Ok n) = record { refusal = 0; written = 4 * n; count = n; rounds = 0; place = 0 }

-- the answer's case, its numbers, what the rows and the room hold afterwards; and a bound on the count, for a caller that narrows it
pub record SelectsBytes (s l rows room rows-after room_after : List ℕ) (r : Result ℕ Refusal) : Type 0 where
  pub is : r ≡ answer_of (within (length rows / 4) (selected s l))
  pub answer : told r ≡ (select_left s l rows room).answer
  pub output : rows-after ≡ (select_left s l rows room).output
  pub cleared : room_after ≡ (select_left s l rows room).room
  pub few : (told r).count ≤ list_most
