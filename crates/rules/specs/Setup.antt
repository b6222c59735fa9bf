-- The setup, and the analyzer of a field. Section 'What is ported'.
use Rattle.std.specs.Prelude.{ℕ, zero, suc, List, [], ◌∷◌, Bool, ◌&&◌, cond, length, take, drop, leb}
use Rattle.rules.specs.Numbers.{Read, got, refused, need, on_read, and_then, bad_setup, entries_most, and_operator, whitespace_analyzer, english_analyzer}
use Rattle.rules.specs.Bytes.{same, is_empty, is_field, all}
use Rattle.rules.specs.Analysis.{between}

-- an analyzer and the name of the field that has it
pub data FieldEntry : Type 0 where
  field_entry : ℕ → List ℕ → FieldEntry

pub record Setup : Type 0 where
  pub operator : ℕ
  pub analyzer : ℕ
  pub field : List ℕ
  pub entries : List FieldEntry

abbrev pub is_analyzer : ℕ → Bool
is_analyzer a = between whitespace_analyzer english_analyzer a

abbrev pub is_field_entry : FieldEntry → Bool
is_field_entry (field_entry a name) = is_analyzer a && is_field name

unfoldable pub is_setup : Setup → Bool
is_setup s =
    leb s.operator and_operator
    && (is_analyzer s.analyzer
    && (is_field s.field
    && (leb (length s.entries) entries_most && all is_field_entry s.entries)))

-- a later entry for the same name replaces the earlier
unfoldable pub analyzer_among : ℕ → List FieldEntry → List ℕ → ℕ
analyzer_among a [] f = a
analyzer_among a (field_entry b name ∷ es) f = analyzer_among (cond (same name f) b a) es f

abbrev pub analyzer_of : Setup → List ℕ → ℕ
analyzer_of s f = analyzer_among s.analyzer s.entries f

-- ---- as bytes: for each entry its analyzer, the length of its name, its name

-- the entries in s; `more` reads what follows the first
unfoldable pub entries_step : (List ℕ → Read (List FieldEntry)) → List ℕ → Read (List FieldEntry)
entries_step more [] = got []
entries_step more (a ∷ []) = refused bad_setup
entries_step more (a ∷ n ∷ s) =
    let these = on_read (λ es. field_entry a (take n s) ∷ es) (more (drop n s)) in
    need (leb n (length s)) bad_setup these

-- k bounds their number
unfoldable pub entries_in : ℕ → List ℕ → Read (List FieldEntry)
entries_in zero s = need (is_empty s) bad_setup (got [])
entries_in (suc k) s = entries_step (λ t. entries_in k t) s

unfoldable pub setup_with : ℕ → ℕ → List ℕ → List FieldEntry → Read Setup
setup_with o a f es =
    let s : Setup = record { operator = o; analyzer = a; field = f; entries = es } in
    need (is_setup s) bad_setup (got s)

-- the setup of a call, or refusal 3
unfoldable pub read_setup : ℕ → ℕ → List ℕ → List ℕ → Read Setup
read_setup o a f es = and_then (entries_in (length es) es) (setup_with o a f)
