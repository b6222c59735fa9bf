-- A record asked of all queries: which of them want something of it, their answers bit after bit, and the table as it fills.
use mathlib.Core.Path.{◌≡◌, refl, sym, ap, ◌∙◌}
use mathlib.Core.Logic.{◌⊎◌, inl, inr}
use Prim.Native.Nat.{ℕ, ◌+◌, ◌-◌, ◌*◌, ◌%◌, ◌≤◌, ◌<◌}
use mathlib.Core.List.{List, []}
use mathlib.Core.Bool.{Bool, true, false, ◌||◌}
use native.Mathlib.Omega.{arith}
use lib.ListN.{length, get_or, take, drop}
use lib.Dec.{eqb}
use lib.Bits.{bit_or}
use borrow.Author.Tests.{eqb-true, eqb-false}
use Rattle.rules.specs.Bytes.{big, of_big, rest_of, every, each, some}
use Rattle.std.specs.Prelude.{Result, Ok}
use Rattle.names.specs.Refusals.{checked}
use Rattle.names.specs.declared.refusal.Refusal.{Refusal}
use Rattle.selection.proofs.Selections.{passes}
use Rattle.rules.specs.Reading.{read_for_selection}
use Rattle.rules.specs.Lists.{Entry, place, value, is_entry, entry_of, record_of}
use Rattle.rules.specs.Matching.{bit}
use Rattle.rules.proofs.Bools.{clash, split, or_assoc, or_false}
use Rattle.rules.proofs.Stored.Bigs.{read_big, length_big}
use Rattle.rules.proofs.Stored.Parts.{less_empty, more_empty}
use Rattle.rules.proofs.Stored.Rows.{first, others, each_done, each_next}
use Rattle.numbers.specs.Laid.{Put}
use Rattle.numbers.proofs.Laying.{before_laid, there_laid}
use Rattle.places.proofs.Standing.{kept_same}
use Rattle.entries.specs.Slots.{hash_of, slots_many}
use Rattle.entries.specs.Entry.{is_place, field_of, text_of}
use Rattle.wanted.specs.Wanted.{calls_by}
use Rattle.matching.specs.Truth.{Truth}
use Rattle.batch.specs.Bits.{bit_at}
use Rattle.batch.specs.Plan.{Else, numbers_at, wanted_by, numbers_by, bare_by, Known}
use Rattle.batch.specs.Ask.{Sound, Told, row_at, Table}
use Rattle.batch.proofs.Pushing.{bit_next, bit_first, bit_none, bit_or_lem}

-- ---- which queries want something

-- the queries that want an entry
abbrev pub calling : List ℕ → ℕ → Entry → Bool
calling masks j e = calls_by hash_of (wanted_by masks j) (λ f. numbers_by masks j) e

module _ (masks : List ℕ) where
  pub wants_number : (x : Entry) → is_place x ≡ false → (j : ℕ) → bit_at (get_or masks numbers_at 0) j ≡ calling masks j x
  wants_number (place f y t) h j = clash refl h
  wants_number (value n f b) h j = refl

  pub wants_text : (x : Entry) {f t : List ℕ} {n : ℕ} → is_place x ≡ true → f ≡ field_of x → t ≡ text_of x → n ≡ hash_of f t
      → (j : ℕ) → bit_at (get_or masks (n % slots_many) 0) j ≡ calling masks j x
  wants_text (place g y u) h ef et en j = rw (en, ef, et)
  wants_text (value k g b) h ef et en j = clash h refl

-- the entries of rec up to those of e
pub record Calling (masks rec e : List ℕ) (any : ℕ) : Type 0 where
  pub good : every is_entry e ≡ true
  pub decides : (j : ℕ) → (bit_at any j || some (calling masks j) (each entry_of e)) ≡ some (calling masks j) (each entry_of rec)

pub calling_start : {masks rec : List ℕ} → every is_entry rec ≡ true → Calling masks rec rec 0
calling_start h = record { good = h; decides = λ j. rw (bit_none j) }

module _ {masks rec e : List ℕ} {any : ℕ} (C : Calling masks rec e any) where
  module _ (more : 0 < length e) where
    pub calling_first : is_entry e ≡ true
    calling_first = first is_entry e (more_empty e more) C.good

    pub calling_next : {u : List ℕ} (w : ℕ) → ((j : ℕ) → bit_at w j ≡ calling masks j (entry_of e)) → u ≡ rest_of e → Calling masks rec u (bit_or any w)
    unfolding some
    calling_next {u} w f k = record {
      good = rw k (others is_entry e (more_empty e more) C.good);
      decides = λ j.
          let n : some (calling masks j) (each entry_of e) ≡ (bit_at w j || some (calling masks j) (each entry_of u)) =
          ap (some (calling masks j)) (each_next entry_of e (more_empty e more)) ∙ rw (f j, k) in
          ap (λ (b : Bool). b || some (calling masks j) (each entry_of u)) (bit_or_lem any w j)
          ∙ sym (or_assoc (bit_at any j) (bit_at w j) (some (calling masks j) (each entry_of u)))
          ∙ ap (λ (b : Bool). bit_at any j || b) (sym n) ∙ C.decides j;
    }

  pub calling_end : length e ≤ 0 → (j : ℕ) → bit_at any j ≡ some (calling masks j) (each entry_of rec)
  unfolding some
  calling_end h j = sym (or_false (bit_at any j)) ∙ ap (λ (l : List Entry). bit_at any j || some (calling masks j) l) (sym (each_done entry_of e (less_empty e h))) ∙ C.decides j

-- ---- the answers, bit after bit

pub told_none : {qs : List (List ℕ)} {es : List Entry} → Told qs 0 es 0
told_none = record { at = λ i h. absurd (omega arith) }

pub told_next : {qs : List (List ℕ)} {n : ℕ} {es : List Entry} {bits : ℕ} → Told qs n es bits → (fault : Result (Unit {0}) Refusal) (y : Bool) {q : List ℕ} {more : ℕ} → q ≡ get_or qs n []
    → fault ≡ checked (read_for_selection q) → (fault ≡ Ok tt → Truth q es y) → more ≡ bits * 2 + bit y → Told qs (n + 1) es more
told_next {qs} {n} {es} {bits} T fault y {q} {more} e f g m = record { at = λ i h s. go i h s (split (eqb i n)) }
  where
    go : (i : ℕ) → i < n + 1 → Sound (get_or qs i []) → (eqb i n ≡ true) ⊎ (eqb i n ≡ false) → Truth (get_or qs i []) es (bit_at more (n + 1 - 1 - i))
    go i h s (inl z) =
        let k : i ≡ n = eqb-true i n z in
        let c : n + 1 - 1 - n ≡ 0 = omega arith in
        rw (m, k, c, bit_first bits y, ← e) (g (f ∙ ap (λ (s : List ℕ). checked (read_for_selection s)) (e ∙ ap (λ (x : ℕ). get_or qs x []) (sym k)) ∙ passes (read_for_selection (get_or qs i [])) s))
    go i h s (inr z) =
        let c : n + 1 - 1 - i ≡ n - 1 - i + 1 = omega (arith, eqb-false i n z) in
        rw (m, c, bit_next bits y (n - 1 - i)) (T.at i (omega (arith, eqb-false i n z)) s)

pub told_all : {qs : List (List ℕ)} {n many : ℕ} {es : List Entry} {bits : ℕ} → Told qs n es bits → n ≤ many → many ≤ n → Told qs many es bits
told_all {n = n} {many} T h k = let e : n ≡ many = omega arith in rw (← e) T

-- a query that wants nothing of the record
pub uncalled : {s masks : List ℕ} {fault : Result (Unit {0}) Refusal} {j : ℕ} (es : List Entry) → Known s fault masks j → fault ≡ Ok tt → (any : ℕ) → bit_at any j ≡ some (calling masks j) es
    → {w b : Bool} → w ≡ bit_at any j → b ≡ bare_by masks j → w ≡ false → Truth s es b
unfolding Else
uncalled es K z any c ew eb h = rw eb (K.else z es (sym c ∙ sym ew ∙ h))

-- ---- the table

row_put : (table : List ℕ) (i bits : ℕ) {table' : List ℕ} {p : ℕ} → 8 * i + 8 ≤ length table → bits < 18446744073709551616 → Put table (8 * i) (big 8 bits) p table' → row_at table' i ≡ bits
row_put table i bits {table'} fits h P =
    let n : length (big 8 bits) ≡ 8 = length_big 8 bits in
    ap of_big (ap (λ (k : ℕ). take k (drop (8 * i) table')) (sym n) ∙ ap (λ (t : List ℕ). take (length (big 8 bits)) (drop (8 * i) t)) P.bytes
    ∙ there_laid table (8 * i) (big 8 bits) (omega arith)) ∙ read_big 8 bits h

row_kept : (table : List ℕ) (i r bits : ℕ) {table' : List ℕ} {p : ℕ} → r < i → 8 * i + 8 ≤ length table → Put table (8 * i) (big 8 bits) p table' → row_at table' r ≡ row_at table r
row_kept table i r bits {table'} h fits P =
    ap of_big (kept_same table' table (8 * r) 8 (8 * i) (omega arith) (ap (take (8 * i)) P.bytes ∙ before_laid table (8 * i) (big 8 bits) (omega (arith, length_big 8 bits))))

module _ {qs : List (List ℕ)} {many : ℕ} {l : List ℕ} where
  pub table_none : (table : List ℕ) → Table qs many l 0 table
  table_none table = record { at = λ r h. absurd (omega arith) }

  pub table_next : {table table' : List ℕ} {i bits p : ℕ} → Table qs many l i table → 8 * i + 8 ≤ length table → bits < 18446744073709551616
      → Put table (8 * i) (big 8 bits) p table' → Told qs many (get_or (each record_of l) i []) bits → Table qs many l (i + 1) table'
  table_next {table} {table'} {i} {bits} T fits b P A = record { at = λ r h k. go r h k (split (eqb r i)) }
    where
      go : (r : ℕ) → r < i + 1 → r < length (each record_of l) → (eqb r i ≡ true) ⊎ (eqb r i ≡ false) → Told qs many (get_or (each record_of l) r []) (row_at table' r)
      go r h k (inl z) = let e : r ≡ i = eqb-true r i z in rw (e, row_put table i bits fits b P) A
      go r h k (inr z) = rw (row_kept table i r bits (omega (arith, eqb-false r i z)) fits P) (T.at r (omega (arith, eqb-false r i z)) k)

  pub table_most : {table : List ℕ} {i n : ℕ} → Table qs many l i table → ((r : ℕ) → r < n → r < length (each record_of l) → r < i) → Table qs many l n table
  table_most T f = record { at = λ r k e. T.at r (f r k e) e }
