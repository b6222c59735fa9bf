-- Names in rows, and the analyzer that the last entry of a name gives. Assumes nothing.
use mathlib.Core.Path.{◌≡◌, refl, sym, ap, ◌∙◌}
use mathlib.Core.Bool.{Bool, ◌&&◌, cond}
use mathlib.Core.List.{List, [], ◌∷◌, ◌++◌}
use Prim.Native.Nat.{ℕ, zero, suc, ◌-◌, ◌≤◌, ◌<◌, min}
use native.Mathlib.Omega.{arith}
use lib.ListN.{length, get_or, take}
use lib.Seq.{take-suc}
use lib.Dec.{eqb}
use lib.Pointwise.{pointwise}
use Rattle.rules.specs.Bytes.{same}
use Rattle.rules.specs.Setup.{FieldEntry, field_entry, analyzer_among}
use Rattle.fields.specs.Fields.{row_text, entry_at, entries_to}

-- ---- equal texts

same_pointwise : (s t : List ℕ) → same s t ≡ pointwise eqb s t
unfolding same
same_pointwise [] [] = refl
same_pointwise [] (y ∷ t) = refl
same_pointwise (x ∷ s) [] = refl
same_pointwise (x ∷ s) (y ∷ t) = ap (λ (b : Bool). eqb x y && b) (same_pointwise s t)

-- ---- rows

-- a row that has so many bytes
pub row_take : (n : ℕ) (r : List ℕ) → n ≤ length r → row_text n r ≡ take n r
unfolding row_text
row_take zero r h = refl
row_take (suc n) r h = rw (row_take n r (omega arith)) (sym (take-suc r n 0 h))

-- ---- entries

among_last : (d b : ℕ) (name f : List ℕ) (es : List FieldEntry) →
    analyzer_among d (es ++ (field_entry b name ∷ [])) f ≡ cond (same name f) b (analyzer_among d es f)
unfolding analyzer_among
among_last d b name f [] = refl
among_last d b name f (field_entry x y ∷ es) = among_last (cond (same y f) x d) b name f es

module _ (names : List (List ℕ)) (lengths analyzers : List ℕ) (d : ℕ) (f : List ℕ) where
  unfoldable pub among_to : ℕ → ℕ
  among_to k = analyzer_among d (entries_to names lengths analyzers k) f

  pub among_none : among_to 0 ≡ d
  unfolding among_to entries_to analyzer_among
  among_none = refl

  last : (k : ℕ) → among_to (suc k) ≡ cond (same (row_text (min (get_or lengths k 0) 32) (get_or names k [])) f) (get_or analyzers k 0) (among_to k)
  unfolding among_to entries_to entry_at
  last k = among_last d (get_or analyzers k 0) (row_text (min (get_or lengths k 0) 32) (get_or names k [])) f (entries_to names lengths analyzers k)

  -- by the last of k entries: its name is the row's first bytes, and the code's test is b
  module _ (k : ℕ) (p : 0 < k) {n : ℕ} (e : n ≡ min (get_or lengths (k - 1) 0) 32) (w : n ≤ length (get_or names (k - 1) [])) {b : Bool} (t : b ≡ pointwise eqb (take n (get_or names (k - 1) [])) f) where
    pub among_last_one : among_to k ≡ cond b (get_or analyzers (k - 1) 0) (among_to (k - 1))
    among_last_one =
        let z : k ≡ suc (k - 1) = omega arith in
        let r : row_text (min (get_or lengths (k - 1) 0) 32) (get_or names (k - 1) []) ≡ take n (get_or names (k - 1) []) = rw (← e) (row_take n (get_or names (k - 1) []) w) in
        ap among_to z ∙ last (k - 1) ∙ rw (r, t, same_pointwise)
