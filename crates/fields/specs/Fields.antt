-- The analyzers of fields as arrays hold them: names in rows of 32 bytes, and beside them their lengths and their analyzers.
-- Every value of the arrays means something: a count above 8 counts as 8, a length above 32 as 32.
use Rattle.std.specs.Prelude.{ℕ, zero, suc, min, List, [], ◌∷◌, ◌++◌, get_or}
use Rattle.rules.specs.Numbers.{entries_most, field_most}
use Rattle.rules.specs.Setup.{FieldEntry, field_entry}

-- the first n bytes of a row
unfoldable pub row_text : ℕ → List ℕ → List ℕ
row_text zero r = []
row_text (suc n) r = row_text n r ++ (get_or r n 0 ∷ [])

unfoldable pub entry_at : List (List ℕ) → List ℕ → List ℕ → ℕ → FieldEntry
entry_at names lengths analyzers k = field_entry (get_or analyzers k 0) (row_text (min (get_or lengths k 0) field_most) (get_or names k []))

-- the first n entries
unfoldable pub entries_to : List (List ℕ) → List ℕ → List ℕ → ℕ → List FieldEntry
entries_to names lengths analyzers zero = []
entries_to names lengths analyzers (suc k) = entries_to names lengths analyzers k ++ (entry_at names lengths analyzers k ∷ [])

unfoldable pub array_entries : List (List ℕ) → List ℕ → List ℕ → ℕ → List FieldEntry
array_entries names lengths analyzers count = entries_to names lengths analyzers (min count entries_most)
