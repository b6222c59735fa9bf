-- The row of what a query wants, and what it means that everything which the query's bytes can want is marked in it.
use Rattle.std.specs.Prelude.{◌≡◌, ℕ, ◌+◌, ◌/◌, ◌%◌, ◌≤◌, List, ◌∷◌, Bool, true, false, ◌||◌, ◌⊎◌, length, get_or, drop, eqb}
use Rattle.rules.specs.Numbers.{field_most, field_tag, text_tag, word_tag}
use Rattle.rules.specs.Bytes.{body_of, rest_of, is_part}
use Rattle.entries.specs.Slots.{slots_many, hash_of}

-- ---- the row

abbrev pub several : ℕ
several = 255

abbrev pub print_of : ℕ → ℕ
print_of n = n / slots_many + 1

abbrev pub is_marked : List ℕ → ℕ → Bool
is_marked w n = eqb (get_or w (n % slots_many) 0) (print_of n) || eqb (get_or w (n % slots_many) 0) several

-- what was marked stays marked
pub record Kept (before after : List ℕ) : Type 0 where
  pub many : length after ≡ slots_many
  pub stays : (n : ℕ) → is_marked before n ≡ true → is_marked after n ≡ true

pub record Marked (before : List ℕ) (n : ℕ) (after : List ℕ) : Type 0 where
  pub kept : Kept before after
  pub is : is_marked after n ≡ true

-- ---- what stands at a place of a query's bytes

-- behind a field, the text of a term, or the first word of a phrase, with this hash
pub record Word (f t : List ℕ) (n : ℕ) : Type 0 where
  pub text : List ℕ
  pub found : ((is_part text_tag t ≡ true) × (body_of t ≡ text)) ⊎ ((is_part text_tag t ≡ false) × (is_part word_tag t ≡ true) × (4 ≤ length (body_of t)) × (drop 4 (body_of t) ≡ text))
  pub hash : hash_of f text ≡ n

-- behind a field, neither
abbrev pub Other : List ℕ → Type 0
Other t = (is_part text_tag t ≡ false) × (is_part word_tag t ≡ false)

pub record Behind (before f t after : List ℕ) (r : Bool) : Type 0 where
  pub kept : Kept before after
  pub words : (n : ℕ) → Word f t n → is_marked after n ≡ true
  pub others : Other t → r ≡ true

-- a field, and behind it a word with this hash, or neither
abbrev pub FieldAt : List ℕ → Type 0
FieldAt s = (is_part field_tag s ≡ true) × (length (body_of s) ≤ field_most)

abbrev pub WordAt : ℕ → List ℕ → Type 0
WordAt n s = FieldAt s × Word (body_of s) (rest_of s) n

abbrev pub OtherAt : List ℕ → Type 0
OtherAt s = FieldAt s × Other (rest_of s)

pub record Looked (before s after : List ℕ) (r : Bool) : Type 0 where
  pub kept : Kept before after
  pub words : (n : ℕ) → WordAt n s → is_marked after n ≡ true
  pub others : OtherAt s → r ≡ true

-- ---- the whole query

-- at some place of s
pub data Somewhere (P : List ℕ → Type 0) : List ℕ → Type 0 where
  here : {x : ℕ} {s : List ℕ} → P (x ∷ s) → Somewhere P (x ∷ s)
  later : {x : ℕ} {s : List ℕ} → Somewhere P s → Somewhere P (x ∷ s)

pub record Marks (s wanted : List ℕ) (r : Bool) : Type 0 where
  pub many : length wanted ≡ slots_many
  pub words : (n : ℕ) → Somewhere (WordAt n) s → is_marked wanted n ≡ true
  pub others : Somewhere OtherAt s → r ≡ true
