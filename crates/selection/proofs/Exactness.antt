-- What a caller has from the two calls' contracts: a selection that is not refused lists exactly the records for which its query is true, rising, each once;
-- and whether a record is chosen depends on it and the query alone. The laws of lists stand in `rules`; here they are said of what the calls write.
use mathlib.Core.Path.{◌≡◌, refl, sym, ap, ◌∙◌, subst}
use mathlib.Core.Logic.{◌↔◌}
use Prim.Native.Nat.{ℕ, ◌*◌, ◌/◌, ◌<◌}
use mathlib.Core.List.{List, [], ◌++◌, Memᴰ}
use mathlib.Core.Bool.{Bool, true, false}
use lib.ListN.{length, get_or, take, drop}
use lib.Seq.{take_at}
use lib.Dec.{leb}
use native.Mathlib.Omega.{arith}
use borrow.Author.Tests.{le-leb}
use Rattle.rules.specs.Numbers.{Read, got, refused, need, long_answer}
use Rattle.rules.specs.Query.{Query}
use Rattle.rules.specs.Reading.{read_for_selection}
use Rattle.rules.specs.Lists.{Entry, read_list}
use Rattle.rules.specs.Answers.{selected, row_bytes, select_left, call}
use Rattle.rules.specs.Matching.{IsChosen, RisingFrom}
use Rattle.rules.proofs.Choosing.Choices.{exact, rising, alone, selection}
use Rattle.std.specs.Prelude.{Result, Ok, Err}
use Rattle.names.specs.declared.refusal.Refusal.{Refusal}
use Rattle.selection.specs.Select.{within, answer_of, rows_after, Selects, SelectsBytes}
use Rattle.selection.proofs.Selections.{length_rows, fits_bytes}

-- the numbers ns are those of the records that the query of s is true of, and no other, rising, each once
pub record Exactly (s l ns : List ℕ) : Type 0 where
  pub query : Query
  pub records : List (List Entry)
  pub query_read : read_for_selection s ≡ got query
  pub list_read : read_list l ≡ got records
  pub these : (k : ℕ) → Memᴰ k ns ↔ IsChosen query records k
  pub in_order : RisingFrom 0 ns

pub selected_exactly : (s l ns : List ℕ) → selected s l ≡ got ns → Exactly s l ns
selected_exactly s l ns e =
    let S = selection s l ns e in
    record {
      query = S.query;
      records = S.records;
      query_read = S.query_read;
      list_read = S.list_read;
      these = λ k. subst (λ (is : List ℕ). Memᴰ k is ↔ IsChosen S.query S.records k) (sym S.listed) (exact S.query S.records k);
      in_order = subst (RisingFrom 0) (sym S.listed) (rising S.query S.records);
    }

-- ---- by the answer

-- an answer of k records, with room for m: they were selected
record Answered (s l : List ℕ) (m k : ℕ) : Type 0 where
  numbers : List ℕ
  are : selected s l ≡ got numbers
  many : length numbers ≡ k
  fits : leb (length numbers) m ≡ true

same_count : {m k : ℕ} → ◌≡◌ {A = Result ℕ Refusal} (Ok m) (Ok k) → m ≡ k
same_count h = cc

not_refused : {A : Type 0} {r : Refusal} {k : ℕ} → ◌≡◌ {A = Result ℕ Refusal} (Ok k) (Err r) → A
not_refused h = cc

answered : (s l : List ℕ) (m k : ℕ) → Ok k ≡ answer_of (within m (selected s l)) → Answered s l m k
answered s l m k e = go (selected s l) refl e
  where
    fit : (ns : List ℕ) → selected s l ≡ got ns → (b : Bool) → leb (length ns) m ≡ b → Ok k ≡ answer_of (need b long_answer (got ns)) → Answered s l m k
    fit ns f true g h = record { numbers = ns; are = f; many = sym (same_count h); fits = g }
    fit ns f false g h = not_refused h

    go : (o : Read (List ℕ)) → selected s l ≡ o → Ok k ≡ answer_of (within m o) → Answered s l m k
    go (refused r) f h = not_refused h
    go (got ns) f h = fit ns f (leb (length ns) m) refl h

-- ---- rows of numbers

rows_first : {s l before after : List ℕ} {k : ℕ} → Selects s l before after (Ok k) → selected s l ≡ got (take k after)
rows_first {s} {l} {before} {after} {k} S =
    let A = answered s l (length before) k S.answer in
    let w : within (length before) (selected s l) ≡ got A.numbers = ap (within (length before)) A.are ∙ rw A.fits in
    let e = S.rows ∙ ap (λ (o : Read (List ℕ)). rows_after o before) w in
    A.are ∙ ap got (sym (ap (take k) e ∙ take_at A.numbers (drop (length A.numbers) before) k A.many))

pub selects_exactly : {s l before after : List ℕ} {k : ℕ} → Selects s l before after (Ok k) → Exactly s l (take k after)
selects_exactly {s} {l} {after = after} {k} S = selected_exactly s l (take k after) (rows_first S)

-- two lists that hold the same record, at i of the one and at j of the other
pub selects_alone : {s l m before after before' after' : List ℕ} {k n : ℕ}
    → Selects s l before after (Ok k) → Selects s m before' after' (Ok n)
    → (rs ts : List (List Entry)) (i j : ℕ) → read_list l ≡ got rs → read_list m ≡ got ts → i < length rs → j < length ts → get_or rs i [] ≡ get_or ts j []
    → Memᴰ i (take k after) ↔ Memᴰ j (take n after')
selects_alone {s} {l} {m} {after = after} {after' = after'} {k} {n} S T rs ts i j =
    alone s l m (take k after) (take n after') rs ts i j (rows_first S) (rows_first T)

-- ---- rows of bytes: four for each number

pub record ExactlyBytes (s l after : List ℕ) (k : ℕ) : Type 0 where
  pub numbers : List ℕ
  pub are : selected s l ≡ got numbers
  pub many : length numbers ≡ k
  pub written : take (4 * k) after ≡ row_bytes numbers
  pub exactly : Exactly s l numbers

pub selects_bytes_exactly : {s l rows room after room' : List ℕ} {k : ℕ} → SelectsBytes s l rows room after room' (Ok k) → ExactlyBytes s l after k
unfolding select_left call
selects_bytes_exactly {s} {l} {rows} {room} {after} {k = k} S =
    let A = answered s l (length rows / 4) k S.is in
    let ns = A.numbers in
    let m = A.many in
    let fits : leb (length (row_bytes ns)) (length rows) ≡ true = le-leb (length (row_bytes ns)) (length rows) (fits_bytes ns (length rows) A.fits) in
    let e : after ≡ row_bytes ns ++ drop (length (row_bytes ns)) rows = S.output ∙ rw (le-leb 0 (length room) (omega arith), A.are, fits) in
    record {
      numbers = ns;
      are = A.are;
      many = m;
      written = ap (take (4 * k)) e ∙ take_at (row_bytes ns) (drop (length (row_bytes ns)) rows) (4 * k) (omega (arith, length_rows ns));
      exactly = selected_exactly s l ns A.are;
    }

pub selects_bytes_alone : {s l m after after' : List ℕ} {k n : ℕ} (S : ExactlyBytes s l after k) (T : ExactlyBytes s m after' n)
    → (rs ts : List (List Entry)) (i j : ℕ) → read_list l ≡ got rs → read_list m ≡ got ts → i < length rs → j < length ts → get_or rs i [] ≡ get_or ts j []
    → Memᴰ i S.numbers ↔ Memᴰ j T.numbers
selects_bytes_alone {s} {l} {m} S T rs ts i j = alone s l m S.numbers T.numbers rs ts i j S.are T.are
