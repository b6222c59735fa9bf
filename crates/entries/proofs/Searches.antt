-- A row of parts, gone through from the left: whether P is true of some of them, or of all, is decided by those that are left.
use mathlib.Core.Path.{◌≡◌, refl, sym, ap, ◌∙◌}
use Prim.Native.Nat.{ℕ, ◌≤◌, ◌<◌}
use mathlib.Core.List.{List}
use mathlib.Core.Bool.{Bool, true, false, not}
use lib.ListN.{length}
use denote.Ref.{Bor}
use Rattle.rules.specs.Lists.{Entry, is_entry, entry_of}
use Rattle.entries.specs.Search.{Tests}
use Rattle.rules.specs.Bytes.{is_empty, rest_of, every, each, some, all}
use Rattle.rules.proofs.Stored.Parts.{more_empty, less_empty}
use Rattle.rules.proofs.Stored.Rows.{first, others, some_done, some_yes, some_no, all_done, all_yes, all_no}

-- of some, which stops where P is true; of all, which stops where P is false
abbrev pub ask : {A : Type 0} → Bool → (A → Bool) → List A → Bool
ask true P xs = some P xs
ask false P xs = all P xs

module _ {A : Type 0} (g : List ℕ → A) (P : A → Bool) (s : List ℕ) where
  ask_done : (v : Bool) → is_empty s ≡ true → ask v P (each g s) ≡ not v
  ask_done true e = some_done g P s e
  ask_done false e = all_done g P s e

  ask_stop : (v : Bool) → is_empty s ≡ false → P (g s) ≡ v → ask v P (each g s) ≡ v
  ask_stop true e h = some_yes g P s e h
  ask_stop false e h = all_no g P s e h

  ask_next : (v : Bool) → is_empty s ≡ false → P (g s) ≡ not v → ask v P (each g s) ≡ ask v P (each g (rest_of s))
  ask_next true e h = some_no g P s e h
  ask_next false e h = all_yes g P s e h

-- each part is sound, and g reads it
pub record Left {A : Type 0} (sound : List ℕ → Bool) (g : List ℕ → A) (v : Bool) (P : A → Bool) (row s : List ℕ) : Type 0 where
  pub good : every sound s ≡ true
  pub decides : ask v P (each g row) ≡ ask v P (each g s)

module _ {A : Type 0} {sound : List ℕ → Bool} {g : List ℕ → A} {v : Bool} {P : A → Bool} where
  pub left_all : {row : List ℕ} → every sound row ≡ true → Left sound g v P row row
  left_all h = record { good = h; decides = refl }

  module _ {row s : List ℕ} (L : Left sound g v P row s) where
    pub left_none : length s ≤ 0 → not v ≡ ask v P (each g row)
    left_none h = sym (L.decides ∙ ask_done g P s v (less_empty s h))

    module _ (more : 0 < length s) where
      pub left_first : sound s ≡ true
      left_first = first sound s (more_empty s more) L.good

      pub left_stop : P (g s) ≡ v → v ≡ ask v P (each g row)
      left_stop h = sym (L.decides ∙ ask_stop g P s v (more_empty s more) h)

      pub left_next : {u : List ℕ} → P (g s) ≡ not v → u ≡ rest_of s → Left sound g v P row u
      left_next h k = rw k (record { good = others sound s (more_empty s more) L.good; decides = L.decides ∙ ask_next g P s v (more_empty s more) h })

-- The same of a record whose entries are tested, whatever P the test answers for.
pub record Tested (post : Bor (List ℕ) → Bool → Type 0) (row s : List ℕ) : Type 0 where
  pub good : every is_entry s ≡ true
  pub left : (P : Entry → Bool) → Tests post P → Left is_entry entry_of true P row s

module _ {post : Bor (List ℕ) → Bool → Type 0} where
  pub tested_all : {row : List ℕ} → every is_entry row ≡ true → Tested post row row
  tested_all h = record { good = h; left = λ P T. left_all h }

  module _ {row s : List ℕ} (L : Tested post row s) where
    pub tested_none : length s ≤ 0 → (P : Entry → Bool) → Tests post P → false ≡ some P (each entry_of row)
    tested_none h P T = left_none (L.left P T) h

    module _ (more : 0 < length s) where
      pub tested_first : is_entry s ≡ true
      tested_first = first is_entry s (more_empty s more) L.good

      module _ (e : Bor (List ℕ)) (is : e.now ≡ s) where
        pub tested_stop : post e true → (P : Entry → Bool) → Tests post P → true ≡ some P (each entry_of row)
        tested_stop h P T = left_stop (L.left P T) more (sym (T e true (rw is tested_first) h ∙ ap (λ (x : List ℕ). P (entry_of x)) is))

        pub tested_next : post e false → {u : List ℕ} → u ≡ rest_of s → Tested post row u
        tested_next h k = record {
          good = rw k (others is_entry s (more_empty s more) L.good);
          left = λ P T. left_next (L.left P T) more (sym (T e false (rw is tested_first) h ∙ ap (λ (x : List ℕ). P (entry_of x)) is)) k;
        }
