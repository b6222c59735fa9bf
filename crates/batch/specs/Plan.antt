-- What is found once of each query: its fault, and by a bit in each mask which entries it can want, whether it can want a number, and what it says of a
-- record in which it wants nothing.
use Rattle.std.specs.Prelude.{◌≡◌, ℕ, ◌+◌, ◌-◌, ◌*◌, ◌%◌, ◌^◌, ◌≤◌, ◌<◌, List, [], Bool, false, not, length, get_or, eqb, Result, Ok}
use Rattle.rules.specs.Bytes.{some}
use Rattle.names.specs.Refusals.{checked}
use Rattle.names.specs.declared.refusal.Refusal.{Refusal}
use Rattle.rules.specs.Reading.{read_for_selection}
use Rattle.rules.specs.Lists.{Entry}
use Rattle.rules.specs.Matching.{bit}
use Rattle.entries.specs.Slots.{slots_many, hash_of}
use Rattle.wanted.specs.Wanted.{calls_by}
use Rattle.wanted.specs.Marks.{is_marked}
use Rattle.matching.specs.Truth.{Truth}
use Rattle.batch.specs.declared.plan.Said.{Said}
use Rattle.batch.specs.Bits.{bit_at}

-- ---- one query

-- r is the truth of every record of which no entry passes the tests: w for hashes, v for numbers
unfoldable pub Else : List ℕ → (ℕ → Bool) → Bool → Bool → Type 0
Else s w v r = (es : List Entry) → some (calls_by hash_of w (λ f. v)) es ≡ false → Truth s es r

-- of a sound query: what it can want is marked
pub record Saying (s : List ℕ) (fault : Result (Unit {0}) Refusal) (wanted : List ℕ) (r : Said) : Type 0 where
  pub many : length wanted ≡ slots_many
  pub else : fault ≡ Ok tt → Else s (is_marked wanted) r.ranges r.bare

-- ---- the masks: one for each slot, one for numbers, and one for the records without a wanted entry

abbrev pub masks_many : ℕ
masks_many = 514

abbrev pub numbers_at : ℕ
numbers_at = 512

abbrev pub bare_at : ℕ
bare_at = 513

-- a bit more in each of the slots' masks
pub record PushedWords (before wanted after : List ℕ) : Type 0 where
  pub many : length after ≡ masks_many
  pub words : (i : ℕ) → i < slots_many → get_or after i 0 ≡ get_or before i 0 * 2 + bit (not (eqb (get_or wanted i 0) 0))
  pub others : (i : ℕ) → slots_many ≤ i → get_or after i 0 ≡ get_or before i 0

-- and in the other two
pub record Pushed (before wanted : List ℕ) (r : Said) (after : List ℕ) : Type 0 where
  pub many : length after ≡ masks_many
  pub words : (i : ℕ) → i < slots_many → get_or after i 0 ≡ get_or before i 0 * 2 + bit (not (eqb (get_or wanted i 0) 0))
  pub numbers : get_or after numbers_at 0 ≡ get_or before numbers_at 0 * 2 + bit r.ranges
  pub bare : get_or after bare_at 0 ≡ get_or before bare_at 0 * 2 + bit r.bare

-- a query whose bits were pushed
pub record Planning (s : List ℕ) (fault : Result (Unit {0}) Refusal) (before after : List ℕ) : Type 0 where
  pub wanted : List ℕ
  pub said : Said
  pub saying : Saying s fault wanted said
  pub pushed : Pushed before wanted said after

-- the tests of the query that has the bit j
abbrev pub wanted_by : List ℕ → ℕ → ℕ → Bool
wanted_by masks j n = bit_at (get_or masks (n % slots_many) 0) j

abbrev pub numbers_by : List ℕ → ℕ → Bool
numbers_by masks j = bit_at (get_or masks numbers_at 0) j

abbrev pub bare_by : List ℕ → ℕ → Bool
bare_by masks j = bit_at (get_or masks bare_at 0) j

-- ---- all queries

pub record Known (s : List ℕ) (fault : Result (Unit {0}) Refusal) (masks : List ℕ) (j : ℕ) : Type 0 where
  pub is : fault ≡ checked (read_for_selection s)
  pub else : fault ≡ Ok tt → Else s (wanted_by masks j) (numbers_by masks j) (bare_by masks j)

-- the first n of them; the last has the bit 0
pub record Planned (qs : List (List ℕ)) (n : ℕ) (faults : List (Result (Unit {0}) Refusal)) (masks : List ℕ) : Type 0 where
  pub many : length masks ≡ masks_many
  pub below : (i : ℕ) → get_or masks i 0 < 2 ^ n
  pub known : (i : ℕ) → i < n → Known (get_or qs i []) (get_or faults i (Ok tt)) masks (n - 1 - i)
