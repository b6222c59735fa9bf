-- The entries of a setup in arrays, and the analyzers noted at field names.
use Rattle.std.specs.Prelude.{◌≡◌, ℕ, ◌≤◌, ◌<◌, List, Bool, true, Option, Some, None, length}
use Rattle.rules.specs.Numbers.{got, refused, bad_setup}
use Rattle.rules.specs.Bytes.{is_text, all}
use Rattle.rules.specs.Setup.{FieldEntry, is_field_entry, analyzer_among, entries_in, read_setup}
use Rattle.rules.specs.Parsing.{text_at}
use Rattle.fields.specs.Fields.{row_text, array_entries}
use Rattle.row.specs.Row.{tokens_of}
use Rattle.clauses.specs.Measured.{Rowed, is_named, note_at}

-- the row holds the name where the answer b is that the name is ASCII
pub record RowPut (s : List ℕ) (b : Bool) (row : List ℕ) : Type 0 where
  pub full : length row ≡ 32
  pub told : b ≡ is_text s
  pub held : b ≡ true → row_text (length s) row ≡ s

-- entries that break a rule: the setup is refused, whatever else it has
abbrev pub Broken : List ℕ → Type 0
Broken fields = (o a : ℕ) (f : List ℕ) → read_setup o a f fields ≡ refused bad_setup

-- what the arrays hold of the entries' bytes: all of them, where they keep the rules
abbrev pub Entered : List ℕ → List (List ℕ) → List ℕ → List ℕ → Option ℕ → Type 0
Entered fields names lengths analyzers (Some count) =
    (entries_in (length fields) fields ≡ got (array_entries names lengths analyzers count)) × (all is_field_entry (array_entries names lengths analyzers count) ≡ true)
    × (length (array_entries names lengths analyzers count) ≡ count) × (count ≤ 8)
Entered fields names lengths analyzers None = Broken fields

-- the tokens are as they were, and each field name has its field's analyzer
pub record Noted (n : ℕ) (entries : List FieldEntry) (default : ℕ) (before after : List ℕ) : Type 0 where
  pub rowed : Rowed after n
  pub tokens : tokens_of after n ≡ tokens_of before n
  pub notes : (k : ℕ) → k < n → is_named (tokens_of after n) k ≡ true → note_at after k ≡ analyzer_among default entries (text_at (tokens_of after n) k)
