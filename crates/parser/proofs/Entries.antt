-- The entries of a setup, read one after the other into arrays. Assumes nothing.
use mathlib.Core.Path.{◌≡◌, refl, sym, ap, ◌∙◌}
use mathlib.Core.Logic.{◌⊎◌, inl, inr, ⊎_elim}
use mathlib.Core.Bool.{Bool, true, false, ◌&&◌}
use Prim.Native.Nat.{ℕ, zero, suc, ◌+◌, ◌-◌, ◌*◌, ◌≤◌, ◌<◌, min}
use Rattle.std.specs.Prelude.{Some}
use mathlib.Core.List.{List, [], ◌∷◌, ◌++◌, append_assoc, append-nil}
use native.Mathlib.Decide.{ℕ_discrete}
use native.Mathlib.Omega.{arith}
use native.Mathlib.Numerals.{add-one}
use lib.Dec.{leb}
use lib.ListN.{length, take, drop, get_or, set, length-append, length-drop, length-set, drop_of_length-le}
use lib.Seq.{get_or-set_same, get_or-set_other, take-suc, take-length, length-take-le}
use borrow.Author.Tests.{le-leb, lt-leb, leb-true}
use Rattle.rules.specs.Numbers.{Read, got, refused, need, on_read, bad_setup}
use Rattle.rules.specs.Bytes.{is_text, all, is_field}
use Rattle.rules.specs.Setup.{FieldEntry, field_entry, is_analyzer, is_field_entry, is_setup, entries_step, entries_in, setup_with, read_setup}
use Rattle.rules.proofs.Bools.{clash, both, and_l, and_r, and_no_l, and_no_r}
use Rattle.rules.proofs.Stored.Parts.{text_step}
use Rattle.fields.specs.Fields.{row_text, entry_at, entries_to, array_entries}
use Rattle.parser.specs.Noted.{RowPut, Broken, Entered}

-- ---- rows

row_set : (r : List ℕ) (j x k : ℕ) → k ≤ j → row_text k (set r j x) ≡ row_text k r
unfolding row_text
row_set r j x zero h = refl
row_set r j x (suc k) h = rw (row_set r j x k (omega arith), get_or-set_other r j k x 0 (λ e. omega arith))

row_turn : (r s : List ℕ) (k x : ℕ) → k < length r → k < length s → x ≡ get_or s k 0 → row_text k r ≡ take k s → row_text (k + 1) (set r k x) ≡ take (k + 1) s
unfolding row_text
row_turn r s k x h l e p =
    rw add-one (rw (row_set r k x k (omega arith), get_or-set_same r k x 0 h, p, e) (sym (take-suc s k 0 l)))

row_start : (r s : List ℕ) → row_text 0 r ≡ take 0 s
unfolding row_text
row_start r s = refl

row_end : (r s : List ℕ) (k : ℕ) → k ≤ length s → length s ≤ k → row_text k r ≡ take k s → row_text (length s) r ≡ s
row_end r s k h l e = let n : k ≡ length s = omega arith in ap (λ (x : ℕ). row_text x r) (sym n) ∙ e ∙ ap (λ (x : ℕ). take x s) n ∙ take-length s

-- ---- reading

-- what was read is all right, or the setup is refused
entries_or : (k : ℕ) (s : List ℕ) → ((es : List FieldEntry) × (entries_in k s ≡ got es)) ⊎ (entries_in k s ≡ refused bad_setup)
unfolding entries_in entries_step
entries_or zero [] = inl ([], refl)
entries_or zero (c ∷ s) = inr refl
entries_or (suc k) [] = inl ([], refl)
entries_or (suc k) (a ∷ []) = inr refl
entries_or (suc k) (a ∷ n ∷ s) = by (leb n (length s)) (entries_or k (drop n s))
  where
    by : (b : Bool) → ((es : List FieldEntry) × (entries_in k (drop n s) ≡ got es)) ⊎ (entries_in k (drop n s) ≡ refused bad_setup)
        → ((es : List FieldEntry) × (need b bad_setup (on_read (λ es. field_entry a (take n s) ∷ es) (entries_in k (drop n s))) ≡ got es))
        ⊎ (need b bad_setup (on_read (λ es. field_entry a (take n s) ∷ es) (entries_in k (drop n s))) ≡ refused bad_setup)
    by false o = inr refl
    by true (inl (es, e)) = inl (field_entry a (take n s) ∷ es, rw e)
    by true (inr e) = inr (rw e)

none_left : (s : List ℕ) → length s ≡ 0 → s ≡ []
none_left [] h = refl
none_left (c ∷ s) h = absurd (omega arith)

entries_none : (k : ℕ) (s : List ℕ) → s ≡ [] → entries_in k s ≡ got []
unfolding entries_in entries_step
entries_none zero s e = rw e
entries_none (suc k) s e = rw e

entries_cut : (k : ℕ) (s : List ℕ) → 0 < k → 0 < length s → length s < 2 → entries_in k s ≡ refused bad_setup
unfolding entries_in entries_step
entries_cut zero s h l m = absurd (omega arith)
entries_cut (suc k) [] h l m = absurd (omega arith)
entries_cut (suc k) (a ∷ []) h l m = refl
entries_cut (suc k) (a ∷ b ∷ s) h l m = absurd (omega arith)

entries_short : (k a n : ℕ) (s : List ℕ) → length s < n → entries_in (suc k) (a ∷ n ∷ s) ≡ refused bad_setup
unfolding entries_in entries_step
entries_short k a n s h = rw (lt-leb n (length s) h)

entries_one : (k a n : ℕ) (s : List ℕ) → n ≤ length s → entries_in (suc k) (a ∷ n ∷ s) ≡ on_read (λ es. field_entry a (take n s) ∷ es) (entries_in k (drop n s))
unfolding entries_in entries_step
entries_one k a n s h = rw (le-leb n (length s) h)

-- the head of an entry, and what stands behind it
pub two_first : (s : List ℕ) → 2 ≤ length s → s ≡ get_or s 0 0 ∷ get_or s 1 0 ∷ take (length s - 2) (drop 2 s)
two_first [] h = absurd (omega arith)
two_first (a ∷ []) h = absurd (omega arith)
two_first (a ∷ b ∷ s) h = let e : length (a ∷ b ∷ s) - 2 ≡ length s = omega arith in ap (λ (t : List ℕ). a ∷ b ∷ t) (sym (ap (λ (k : ℕ). take k s) e ∙ take-length s))

-- ---- a setup that is refused

entries_bad : (o a : ℕ) (f fields : List ℕ) → entries_in (length fields) fields ≡ refused bad_setup → read_setup o a f fields ≡ refused bad_setup
unfolding read_setup
entries_bad o a f fields e = rw e

setup_many : (o a : ℕ) (f : List ℕ) (es : List FieldEntry) → 8 < length es → setup_with o a f es ≡ refused bad_setup
unfolding setup_with is_setup
setup_many o a f es h =
    rw (and_no_r (leb o 1) (and_no_r (is_analyzer a) (and_no_r (is_field f) (and_no_l (all is_field_entry es) (lt-leb (length es) 8 h)))))

setup_broken : (o a : ℕ) (f : List ℕ) (es : List FieldEntry) → all is_field_entry es ≡ false → setup_with o a f es ≡ refused bad_setup
unfolding setup_with is_setup
setup_broken o a f es h = rw (and_no_r (leb o 1) (and_no_r (is_analyzer a) (and_no_r (is_field f) (and_no_r (leb (length es) 8) h))))

all_append : (P : FieldEntry → Bool) (es fs : List FieldEntry) → all P es ≡ true → all P (es ++ fs) ≡ all P fs
unfolding all
all_append P [] fs h = refl
all_append P (e ∷ es) fs h = let x = and_l' (P e) (all P es) h in rw x.0 (all_append P es fs x.1)
  where
    and_l' : (a b : Bool) → a && b ≡ true → (a ≡ true) × (b ≡ true)
    and_l' true true h = (refl, refl)
    and_l' true false h = (refl, h)
    and_l' false b h = clash h refl

all_two : (P : FieldEntry → Bool) (e : FieldEntry) (fs : List FieldEntry) → P e ≡ false → all P (e ∷ fs) ≡ false
unfolding all
all_two P e fs h = rw h

all_last : (P : FieldEntry → Bool) (es : List FieldEntry) (e : FieldEntry) → all P es ≡ true → P e ≡ true → all P (es ++ (e ∷ [])) ≡ true
unfolding all
all_last P es e h k = all_append P es (e ∷ []) h ∙ both k refl

-- ---- the arrays after one more entry

module _ (names : List (List ℕ)) (lengths analyzers : List ℕ) (count : ℕ) (row : List ℕ) (len a : ℕ) where
  to_set : (k : ℕ) → k ≤ count → entries_to (set names count row) (set lengths count len) (set analyzers count a) k ≡ entries_to names lengths analyzers k
  unfolding entries_to entry_at
  to_set zero h = refl
  to_set (suc k) h =
      rw (to_set k (omega arith), get_or-set_other names count k row [] (λ e. omega arith), get_or-set_other lengths count k len 0 (λ e. omega arith), get_or-set_other analyzers count k a 0 (λ e. omega arith))

  set_one : count < length names → count < length lengths → count < length analyzers → len ≤ 32 → (name : List ℕ) → row_text len row ≡ name
      → entries_to (set names count row) (set lengths count len) (set analyzers count a) (count + 1) ≡ entries_to names lengths analyzers count ++ (field_entry a name ∷ [])
  unfolding entries_to entry_at
  set_one h i j l name e =
      let m : min len 32 ≡ len = omega arith in
      rw add-one (rw (to_set count (omega arith), get_or-set_same names count row [] h, get_or-set_same lengths count len 0 i, get_or-set_same analyzers count a 0 j, m, e))

row_lengths : (names : List (List ℕ)) (row : List ℕ) (count k : ℕ) → count < length names → length row ≡ 32 → length (get_or names k []) ≡ 32
    → length (get_or (set names count row) k []) ≡ 32
row_lengths names row count k h l e = by (ℕ_discrete k count)
  where
    by : Dec (k ≡ count) → length (get_or (set names count row) k []) ≡ 32
    by (yes q) = rw (q, get_or-set_same names count row [] h) l
    by (no n) = rw (get_or-set_other names count k row [] n) e

text_nil : (s : List ℕ) (i : ℕ) → length s ≤ i → is_text (drop i s) ≡ true
unfolding is_text
text_nil s i h = rw (drop_of_length-le s h)

-- the first bytes of a name laid in a row, each ASCII
pub record Testing (s row : List ℕ) (i : ℕ) : Type 0 where
  pub full : length row ≡ 32
  pub text : row_text i row ≡ take i s
  pub rest : is_text s ≡ is_text (drop i s)

pub testing_starts : (s row : List ℕ) → length row ≡ 32 → Testing s row 0
testing_starts s row l = record { full = l; text = row_start row s; rest = refl }

module _ {s row : List ℕ} {i : ℕ} (T : Testing s row i) where
  pub testing_turn : (x : ℕ) → length s ≤ 32 → i < length s → x ≡ get_or s i 0 → x ≤ 127 → Testing s (set row i x) (i + 1)
  testing_turn x m l e a = record {
    full = rw length-set T.full;
    text = row_turn row s i x (omega (arith, T.full)) l e T.text;
    rest = T.rest ∙ text_step s i l ∙ rw (← e, le-leb x 0x7f a, add-one);
  }

  pub testing_stops : i < length s → 127 < get_or s i 0 → RowPut s false row
  testing_stops l a = record {
    full = T.full;
    told = sym (T.rest ∙ text_step s i l ∙ and_no_l (is_text (drop (suc i) s)) (lt-leb (get_or s i 0) 0x7f a));
    held = λ e. clash e refl;
  }

  pub testing_ends : i ≤ length s → length s ≤ i → RowPut s true row
  testing_ends h l = record {
    full = T.full;
    told = sym (T.rest ∙ text_nil s i l);
    held = λ e. row_end row s i h l T.text;
  }

-- ---- the loop

-- `rest` is what is not read yet, and the entries before it stand in the arrays
pub record Entering (fields rest : List ℕ) (names : List (List ℕ)) (lengths analyzers : List ℕ) (count : ℕ) : Type 0 where
  pub twice : 2 * count + length rest ≤ length fields
  pub few : count ≤ 8
  pub reads : entries_in (length fields) fields ≡ on_read (λ more. entries_to names lengths analyzers count ++ more) (entries_in (length fields - count) rest)
  pub good : all is_field_entry (entries_to names lengths analyzers count) ≡ true
  pub counted : length (entries_to names lengths analyzers count) ≡ count
  pub eight : (length names ≡ 8) × (length lengths ≡ 8) × (length analyzers ≡ 8)
  pub rows : (k : ℕ) → k < 8 → length (get_or names k []) ≡ 32

on_same : (r : Read (List FieldEntry)) → r ≡ on_read (λ rest. rest) r
on_same (got es) = refl
on_same (refused x) = refl

pub entering_starts : (fields : List ℕ) (names : List (List ℕ)) (lengths analyzers : List ℕ) → (length names ≡ 8) × (length lengths ≡ 8) × (length analyzers ≡ 8) × ((k : ℕ) → k < 8 → length (get_or names k []) ≡ 32)
    → Entering fields fields names lengths analyzers 0
unfolding entries_to all
entering_starts fields names lengths analyzers h = record {
  twice = omega arith;
  few = omega arith;
  reads = ap (λ (k : ℕ). entries_in k fields) (omega arith) ∙ on_same _;
  good = refl;
  counted = refl;
  eight = (h.0, h.1, h.2);
  rows = h.3;
}

module _ {fields rest : List ℕ} {names : List (List ℕ)} {lengths analyzers : List ℕ} {count : ℕ} (E : Entering fields rest names lengths analyzers count) where
  to_array : array_entries names lengths analyzers count ≡ entries_to names lengths analyzers count
  unfolding array_entries
  to_array = let e : min count 8 ≡ count = omega (arith, E.few) in ap (entries_to names lengths analyzers) e

  pub entering_ends : length rest ≡ 0 → Entered fields names lengths analyzers (Some count)
  entering_ends h =
      rw to_array (
        E.reads ∙ rw (entries_none (length fields - count) rest (none_left rest h)) (ap got (append-nil (entries_to names lengths analyzers count))),
        E.good,
        E.counted,
        E.few,
      )

  rest_refused : entries_in (length fields - count) rest ≡ refused bad_setup → Broken fields
  rest_refused e o a f = entries_bad o a f fields (E.reads ∙ rw e)

  pub entering_cut : 0 < length rest → length rest < 2 → Broken fields
  entering_cut h l = rest_refused (entries_cut (length fields - count) rest (omega (arith, E.twice)) h l)

  module _ (a len : ℕ) (tail : List ℕ) (here : rest ≡ a ∷ len ∷ tail) where
    long : length rest ≡ 2 + length tail
    long = ap length here ∙ omega arith

    some_fuel : length fields - count ≡ suc (length fields - count - 1)
    some_fuel = omega (arith, E.twice, long)

    pub entering_short : length tail < len → Broken fields
    entering_short m = rest_refused (ap (λ (k : ℕ). entries_in k rest) some_fuel ∙ ap (entries_in _) here ∙ entries_short (length fields - count - 1) a len tail m)

    module _ (m : len ≤ length tail) where
      one : entries_in (length fields - count) rest ≡ on_read (λ more. field_entry a (take len tail) ∷ more) (entries_in (length fields - (count + 1)) (drop len tail))
      one =
          let x : length fields - count - 1 ≡ length fields - (count + 1) = omega arith in
          ap (λ (k : ℕ). entries_in k rest) some_fuel ∙ ap (entries_in _) here ∙ entries_one (length fields - count - 1) a len tail m
          ∙ ap (λ (k : ℕ). on_read (λ more. field_entry a (take len tail) ∷ more) (entries_in k (drop len tail))) x

      whole : {r : Read (List FieldEntry)} → entries_in (length fields - (count + 1)) (drop len tail) ≡ r
          → entries_in (length fields) fields ≡ on_read (λ more. entries_to names lengths analyzers count ++ more) (on_read (λ more. field_entry a (take len tail) ∷ more) r)
      whole e =
          E.reads ∙ ap (on_read (λ more. entries_to names lengths analyzers count ++ more)) one
          ∙ ap (λ (r : Read (List FieldEntry)). on_read (λ more. entries_to names lengths analyzers count ++ more) (on_read (λ more. field_entry a (take len tail) ∷ more) r)) e

      by_rest : ((more : List FieldEntry) → (o b : ℕ) (f : List ℕ) → setup_with o b f (entries_to names lengths analyzers count ++ field_entry a (take len tail) ∷ more) ≡ refused bad_setup)
          → Broken fields
      unfolding read_setup
      by_rest g o b f =
          ⊎_elim
          (λ (more, e). rw (whole e) (g more o b f))
          (λ e. entries_bad o b f fields (whole e))
          (entries_or (length fields - (count + 1)) (drop len tail))

      pub entering_many : count ≡ 8 → Broken fields
      entering_many c = by_rest (λ more o b f. setup_many o b f _ (omega (arith, length-append (entries_to names lengths analyzers count) (field_entry a (take len tail) ∷ more), E.counted)))

      pub entering_broken : (name : List ℕ) → name ≡ take len tail → is_field_entry (field_entry a name) ≡ false → Broken fields
      entering_broken name en w =
          let w' : is_field_entry (field_entry a (take len tail)) ≡ false = rw (← en) w in
          by_rest (λ more o b f. setup_broken o b f _ (all_append is_field_entry (entries_to names lengths analyzers count) (field_entry a (take len tail) ∷ more) E.good ∙ all_two is_field_entry (field_entry a (take len tail)) more w'))

      on_on : (r : Read (List FieldEntry)) → on_read (λ more. entries_to names lengths analyzers count ++ more) (on_read (λ more. field_entry a (take len tail) ∷ more) r)
          ≡ on_read (λ more. (entries_to names lengths analyzers count ++ (field_entry a (take len tail) ∷ [])) ++ more) r
      on_on (got more) = ap got (sym (append_assoc (entries_to names lengths analyzers count) (field_entry a (take len tail) ∷ []) more))
      on_on (refused x) = refl

      on_rest : (count ≡ 8 → ⊥) → is_field_entry (field_entry a (take len tail)) ≡ true → len ≤ 32
          → (row : List ℕ) → length row ≡ 32 → row_text (length (take len tail)) row ≡ take len tail
          → Entering fields (drop len tail) (set names count row) (set lengths count len) (set analyzers count a) (count + 1)
      on_rest c w short row full e =
          let nl : length (take len tail) ≡ len = length-take-le len tail m in
          let z = set_one names lengths analyzers count row len a (omega (arith, E.few, E.eight.0)) (omega (arith, E.few, E.eight.1)) (omega (arith, E.few, E.eight.2)) short (take len tail) (ap (λ (k : ℕ). row_text k row) (sym nl) ∙ e) in
          record {
            twice = omega (arith, E.twice, long, length-drop len tail);
            few = omega (arith, E.few);
            reads = E.reads ∙ ap (on_read (λ more. entries_to names lengths analyzers count ++ more)) one ∙ on_on (entries_in (length fields - (count + 1)) (drop len tail)) ∙ ap (λ (x : List FieldEntry). on_read (λ more. x ++ more) (entries_in (length fields - (count + 1)) (drop len tail))) (sym z);
            good = ap (all is_field_entry) z ∙ all_last is_field_entry (entries_to names lengths analyzers count) (field_entry a (take len tail)) E.good w;
            counted = ap length z ∙ length-append (entries_to names lengths analyzers count) (field_entry a (take len tail) ∷ []) ∙ omega (arith, E.counted);
            eight = (rw length-set E.eight.0, rw length-set E.eight.1, rw length-set E.eight.2);
            rows = λ k h. row_lengths names row count k (omega (arith, E.few, E.eight.0)) full (E.rows k h);
          }

      pub entering_on : (name after : List ℕ) → name ≡ take len tail → after ≡ drop len tail → (count ≡ 8 → ⊥) → is_field_entry (field_entry a name) ≡ true → len ≤ 32
          → (row : List ℕ) → length row ≡ 32 → row_text (length name) row ≡ name
          → Entering fields after (set names count row) (set lengths count len) (set analyzers count a) (count + 1)
      entering_on name after en ea c w' short row full e' =
          let w : is_field_entry (field_entry a (take len tail)) ≡ true = rw (← en) w' in
          let e : row_text (length (take len tail)) row ≡ take len tail = rw (← en) e' in
          rw ea (on_rest c w short row full e)

-- ---- an entry by its head and its name

module _ (a len : ℕ) (name : List ℕ) (l : length name ≡ len) where
  pub head_broken : (leb len 32 && is_analyzer a) ≡ false → is_field_entry (field_entry a name) ≡ false
  head_broken h = rw l (by (leb len 32) (is_analyzer a) h)
    where
      by : (x y : Bool) → x && y ≡ false → y && (x && is_text name) ≡ false
      by true y e = and_no_l (is_text name) e
      by false y e = and_no_r y refl

  pub name_broken : is_text name ≡ false → is_field_entry (field_entry a name) ≡ false
  name_broken h = and_no_r (is_analyzer a) (and_no_r (leb (length name) 32) h)

  pub entry_good : (leb len 32 && is_analyzer a) ≡ true → is_text name ≡ true → is_field_entry (field_entry a name) ≡ true
  entry_good h t = both (and_r (leb len 32) (is_analyzer a) h) (both {a = leb (length name) 32} (rw l (and_l (leb len 32) (is_analyzer a) h)) t)

pub head_short : (a len : ℕ) → (leb len 32 && is_analyzer a) ≡ true → len ≤ 32
head_short a len h = leb-true len 32 (and_l (leb len 32) (is_analyzer a) h)
