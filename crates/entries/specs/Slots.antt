-- Slots: where in a list the entries of a record stand, by a hash of the field and the text. Any function of the two would do: a hash that two
-- entries share costs time and changes no answer.
use Rattle.std.specs.Prelude.{◌≡◌, ℕ, ◌+◌, ◌-◌, ◌*◌, ◌/◌, ◌%◌, ◌≤◌, ◌<◌, List, Bool, true, cond, ◌⊎◌, length, get_or, drop, set, leb}
use Rattle.rules.specs.Bytes.{of_big, each, some}
use Rattle.rules.specs.Lists.{Entry, place, value, is_entry, entry_of}
use Rattle.rules.specs.Matching.{is_here, has_term}

-- ---- the hash

-- the last four bytes of a text, or the first, the middle and the last of a shorter one: at 0 of one, 1 of two, 2 of three
abbrev pub tail_of : List ℕ → ℕ
tail_of t =
    cond (leb 4 (length t)) (of_big (drop (length t - 4) t)) ((get_or t 0 0 * 256 + get_or t (length t / 2) 0) * 256 + get_or t (length t / 2 + length t / 3) 0)

-- the first byte of a field, and how long both are
abbrev pub shape_of : List ℕ → List ℕ → ℕ
shape_of f t = (length t % 256 * 256 + length f % 256) * 256 + get_or f 0 0

unfoldable pub hash_of : List ℕ → List ℕ → ℕ
hash_of f t = (tail_of t * 0x3504_f335 + shape_of f t * 0x5ebc_a6b5) / 0x1_0000_0000 % 65536

-- ---- the slots

abbrev pub slots_many : ℕ
slots_many = 512

abbrev pub slot_of : List ℕ → List ℕ → ℕ
slot_of f t = hash_of f t % slots_many

-- each holds a place before n
pub record Before (slots : List ℕ) (n : ℕ) : Type 0 where
  pub many : length slots ≡ slots_many
  pub below : (i : ℕ) → get_or slots i 0 < n

-- an entry of the record stands k bytes from its front
pub record Stands (rec : List ℕ) (k : ℕ) : Type 0 where
  pub fits : k ≤ length rec
  pub sound : is_entry (drop k rec) ≡ true
  pub among : (P : Entry → Bool) → P (entry_of (drop k rec)) ≡ true → some P (each entry_of rec) ≡ true

-- p is the last place of the record, whose front is at `from` in the list: entries that differ share the slot
abbrev pub Crowded : ℕ → ℕ → List ℕ → Type 0
Crowded p from rec = p + 1 ≡ from + length rec

-- a place that is not before the record is such a one, or an entry of it stands there
pub record Standing (slots : List ℕ) (from : ℕ) (rec : List ℕ) : Type 0 where
  pub many : length slots ≡ slots_many
  pub stands : (i : ℕ) → from ≤ get_or slots i 0 → Crowded (get_or slots i 0) from rec ⊎ Stands rec (get_or slots i 0 - from)

-- an entry with this field and this text is found by the slots
pub record Found (slots : List ℕ) (from : ℕ) (rec f t : List ℕ) : Type 0 where
  pub later : from ≤ get_or slots (slot_of f t) 0
  pub is : Crowded (get_or slots (slot_of f t) 0) from rec ⊎ (is_here f t (entry_of (drop (get_or slots (slot_of f t) 0 - from) rec)) ≡ true)

-- after a field and a text that stand at `at`: they have the slot alone, they are found already, or others share it
pub data Lands (slots : List ℕ) (from : ℕ) (rec : List ℕ) (at : ℕ) (f t : List ℕ) : List ℕ → Type 0 where
  alone : {after : List ℕ} → get_or slots (slot_of f t) 0 < from → after ≡ set slots (slot_of f t) at → Lands slots from rec at f t after
  again : {after : List ℕ} → Found slots from rec f t → after ≡ slots → Lands slots from rec at f t after
  crowd : {after : List ℕ} (p : ℕ) → Crowded p from rec → from ≤ p → after ≡ set slots (slot_of f t) p → Lands slots from rec at f t after

-- after an entry
abbrev pub NotedBy : List ℕ → ℕ → List ℕ → ℕ → Entry → List ℕ → Type 0
NotedBy slots from rec at (place f y t) after = Lands slots from rec at f t after
NotedBy slots from rec at (value n f x) after = after ≡ slots

-- The entries of the record are noted: each is found by them, so that a place before `from` says that none of them has the hash.
pub record Noted (slots : List ℕ) (from : ℕ) (rec : List ℕ) : Type 0 where
  pub standing : Standing slots from rec
  pub notes : (f t : List ℕ) → has_term (each entry_of rec) f t ≡ true → Found slots from rec f t

-- where there are slots at all
abbrev pub Told : List ℕ → ℕ → List ℕ → Type 0
Told slots from rec = 0 < length slots → Noted slots from rec
