-- From what selection's parts say to its own contracts: what was checked, one record after the other, and rows as they fill.
use mathlib.Core.Path.{◌≡◌, refl, sym, ap, ◌∙◌, subst}
use Prim.Native.Nat.{ℕ, zero, suc, ◌+◌, ◌-◌, ◌*◌, ◌/◌, ◌≤◌, ◌<◌}
use mathlib.Core.List.{List, [], ◌∷◌, ◌++◌, append-nil, append_assoc}
use mathlib.Core.Bool.{Bool, true, false, cond}
use native.Mathlib.Omega.{arith}
use native.Mathlib.Numerals.{add-one}
use lib.ListN.{length, get_or, take, drop, set, replicate, length-append, length-drop, length-replicate, take-append-drop}
use lib.Seq.{take_at, drop_at, drop-drop, set_split}
use lib.Dec.{leb}
use borrow.Author.Tests.{le-leb, leb-true}
use Rattle.rules.specs.Numbers.{record_tag, list_most, selection_bytes, selection_depth, Refusal, long_answer, Read, got, refused, number, on_read, and_then}
use Rattle.rules.specs.Bytes.{Bytes, big, body_of, rest_of, whole_of, is_part, every, each, some}
use Rattle.rules.specs.Query.{Query}
use Rattle.rules.specs.Reading.{number_of, read_for_selection}
use Rattle.rules.specs.Checked.{Is}
use Rattle.rules.specs.Lists.{Entry, is_entry, entry_of, is_record, record_of, read_list}
use Rattle.rules.specs.Matching.{bit, matches, chosen_from, chosen}
use Rattle.rules.specs.Answers.{Left, zeros, leave, fitting, call, selected, row_bytes, rows_reply, select_left}
use Rattle.rules.proofs.Bools.{alike, and_l, and_r}
use Rattle.rules.proofs.Stored.Refusals.{number_got, number_some}
use Rattle.rules.proofs.Stored.Bigs.{length_big}
use Rattle.rules.proofs.Stored.Parts.{part_is, less_empty, more_empty, rest_shorter, length_whole}
use Rattle.rules.proofs.Stored.Rows.{first, others, each_done, each_next, Row, done, next, row}
use Rattle.rules.proofs.Stored.Accepted.{Accepted, accepted, Listed, listed as list_accepted}
use Rattle.rules.proofs.Choosing.Choices.{selection, selected_is, chosen_few}
use Rattle.numbers.specs.Laid.{laid, Put}
use Rattle.std.specs.Int.{from_bool as bool_byte}
use Rattle.std.specs.Prelude.{Result, Ok, Err, Option, Some, None}
use Rattle.selection.specs.declared.ask.Plan.{Plan}
use Rattle.names.specs.Refusals.{numbered, coded as code_of, checked}
use Rattle.names.specs.declared.refusal.Refusal.{Refusal as Code}
use Rattle.names.specs.declared.refusal.Refusal.TheVariants as code
use Rattle.selection.specs.declared.ask.Question.{Question}
use Rattle.selection.specs.Ask.{Planned, Prepared, Begun, Asked, Ready as RecordReady}
use Rattle.entries.specs.Slots.{slots_many, hash_of, Before}
use Rattle.wanted.specs.Wanted.{calls_by}
use Rattle.wanted.specs.Marks.{is_marked, Marks}
use Rattle.wanted.proofs.Occurring.{unwanted_empty}
use Rattle.matching.specs.Truth.{Truth, StoredFor}
use Rattle.selection.specs.Select.{listed, within, coded, rows_of, answer_of, rows_after, Selects, SelectsBytes}
use Rattle.names.proofs.Refusals.{numbered_coded}

-- ---- what was checked

pub record Ready (s l : List ℕ) : Type 0 where
  pub query : Accepted selection_bytes selection_depth s
  pub list : Listed l
  pub picks : selected s l ≡ got (chosen query.query (each record_of l))

pub ready : (s l : List ℕ) → Bytes s → number_of (selected s l) ≡ 0 → Ready s l
ready s l B e =
    let g = number_got (selected s l) e in
    let S = selection s l g.0 g.1 in
    let A = accepted selection_bytes selection_depth s 0 B (sym (ap number_of S.query_read)) refl in
    let L = list_accepted l 0 (sym (ap number_of S.list_read)) refl in
    record { query = A; list = L; picks = selected_is s l A.query (each record_of l) A.read L.read }

module _ {s l : List ℕ} (R : Ready s l) where
  pub stored_for : StoredFor s
  stored_for = record { stored = record { query = R.query.query; is = R.query.is }; deep = R.query.deep; short = R.query.long }

  pub numbers : listed (selected s l) ≡ chosen R.query.query (each record_of l)
  numbers = ap listed R.picks

ok_same : {m n : ℕ} → m ≡ n → ◌≡◌ {A = Result ℕ Code} (Ok m) (Ok n)
ok_same e = cc

err_same : {c d : Code} → c ≡ d → ◌≡◌ {A = Result ℕ Code} (Err c) (Err d)
err_same e = cc

-- what a check says
module _ {A : Type 0} where
  pub sound : (o : Read A) {u : Unit {0}} → Ok u ≡ checked o → number_of o ≡ 0
  sound (got a) e = refl
  sound (refused r) e = cc

  pub passes : (o : Read A) → number_of o ≡ 0 → checked o ≡ Ok tt
  passes (got a) e = refl
  passes (refused r) e = absurd (number_some r e)

  pub unsound : (o : Read A) {c : Code} → Err c ≡ checked o → (r : Refusal) × (o ≡ refused r) × (c ≡ code_of r)
  unsound (got a) e = cc
  unsound (refused r) e = (r, refl, cc)

-- the order of the refusals
pub no_query : (s l : List ℕ) {c : Code} → Err c ≡ checked (read_for_selection s) → Err c ≡ checked (selected s l)
unfolding selected
no_query s l e = go (read_for_selection s) e
  where
    go : (o : Read Query) {c : Code} → Err c ≡ checked o → Err c ≡ checked (and_then o (λ q. on_read (chosen q) (read_list l)))
    go (got q) e = cc
    go (refused r) e = e

pub then_list : (s l : List ℕ) {u : Unit {0}} {x : Result (Unit {0}) Code} → Ok u ≡ checked (read_for_selection s) → x ≡ checked (read_list l) → x ≡ checked (selected s l)
unfolding selected
then_list s l {x = x} e k = go (read_for_selection s) e
  where
    listing : (q : Query) (o : Read (List (List Entry))) → checked (on_read (chosen q) o) ≡ checked o
    listing q (got rs) = refl
    listing q (refused r) = refl

    go : (o : Read Query) {u : Unit {0}} → Ok u ≡ checked o → x ≡ checked (and_then o (λ q. on_read (chosen q) (read_list l)))
    go (got q) e = k ∙ sym (listing q (read_list l))
    go (refused r) e = cc

-- ---- one record after the other

pub record_whole : (t : List ℕ) → is_record t ≡ true → whole_of t ≡ true
unfolding is_record
record_whole t h = (part_is record_tag t (and_l (is_part record_tag t) _ h)).0

pub record_entries : (t : List ℕ) → is_record t ≡ true → every is_entry (body_of t) ≡ true
unfolding is_record
record_entries t h = and_r (is_part record_tag t) (every is_entry (body_of t)) h

module _ (t : List ℕ) (more : 0 < length t) (h : every is_record t ≡ true) where
  pub first_record : is_record t ≡ true
  first_record = first is_record t (more_empty t more) h

  pub other_records : every is_record (rest_of t) ≡ true
  other_records = others is_record t (more_empty t more) h

pub no_records : (t : List ℕ) → length t ≤ 0 → each record_of t ≡ []
no_records t h = each_done record_of t (less_empty t h)

pub one_record : (t : List ℕ) {u : List ℕ} → 0 < length t → u ≡ rest_of t → each record_of t ≡ record_of t ∷ each record_of u
one_record t h e = each_next record_of t (more_empty t h) ∙ rw e

-- what is chosen of the records from t on, whichever query s has
module _ (s t : List ℕ) {b u : List ℕ} (y : Bool) (more : 0 < length t) (eb : b ≡ body_of t) (eu : u ≡ rest_of t) (T : Truth s (each entry_of b) y) where
  pub chosen_next : (x : Query) → Is s x → (i : ℕ)
      → chosen_from i x (each record_of t) ≡ cond y (i ∷ chosen_from (i + 1) x (each record_of u)) (chosen_from (i + 1) x (each record_of u))
  unfolding chosen_from record_of Truth
  chosen_next x i k =
      let m : matches (record_of t) x ≡ y = sym (T x i ∙ ap (λ (l : List ℕ). matches (each entry_of l) x) eb) in
      ap (chosen_from k x) (one_record t more eu) ∙ rw m

pub chosen_none : (t : List ℕ) → length t ≤ 0 → (x : Query) (i : ℕ) → chosen_from i x (each record_of t) ≡ []
unfolding chosen_from
chosen_none t h x i = ap (chosen_from i x) (no_records t h)

-- there are no more records than bytes
pub records_few : (l : List ℕ) → every is_record l ≡ true → length (each record_of l) ≤ length l
records_few l h = go (row is_record l h)
  where
    go : {t : List ℕ} → Row is_record t → length (each record_of t) ≤ length t
    go done = let e = ap length (each_done record_of [] refl) in omega arith
    go (next {x = x} {s = t} h r) =
        let e = ap length (each_next record_of (x ∷ t) refl) in
        let i = go r in
        omega (arith, rest_shorter (x ∷ t) (omega arith))

module _ {s l : List ℕ} (R : Ready s l) where
  pub listed_few : length (listed (selected s l)) ≤ length (each record_of l)
  listed_few = rw (numbers R) (chosen_few R.query.query 0 (each record_of l))

  pub listed_most : length (listed (selected s l)) ≤ list_most
  listed_most = let k = R.list.long in omega (arith, listed_few, records_few l R.list.records)

-- ---- a record in which nothing is wanted

pub bare_truth : {s w : List ℕ} {r : Bool} (bare : Bool) → Marks s w r → Truth s [] bare → (es : List Entry)
    → some (calls_by hash_of (is_marked w) (λ f. r)) es ≡ false → Truth s es bare
unfolding Truth
bare_truth bare M T es z q i = T q i ∙ sym (unwanted_empty M q i es z)

-- ---- slots before a record

-- where the entries of the record at t, in the list l, begin
abbrev pub front : List ℕ → List ℕ → ℕ
front l t = length l - length t + 3

pub zeros_at : (n i : ℕ) → get_or (replicate {A = ℕ} n 0) i 0 ≡ 0
zeros_at zero i = refl
zeros_at (suc n) zero = refl
zeros_at (suc n) (suc i) = zeros_at n i

pub before_all : (l : List ℕ) → Before (replicate slots_many 0) (front l l)
before_all l = record { many = length-replicate {A = ℕ} slots_many 0; below = λ i. omega (arith, zeros_at slots_many i) }

pub before_more : {slots : List ℕ} {n m : ℕ} → Before slots n → n ≤ m → Before slots m
before_more B h = record { many = B.many; below = λ i. omega (arith, B.below i) }

module _ (l t : List ℕ) {b : List ℕ} (eb : b ≡ body_of t) (w : whole_of t ≡ true) (within : length t ≤ length l) where
  pub record_fits : length l ≤ list_most → front l t + length b ≤ list_most
  record_fits h = let k = ap length eb in omega (arith, length_whole t w)

  pub before_next : {slots u : List ℕ} → u ≡ rest_of t → Before slots (front l t + length b) → Before slots (front l u)
  before_next eu B = let k = ap length eb in let j = ap length eu in before_more B (omega (arith, length_whole t w))

planned_same : {p q : Plan} → Some p ≡ Some q → p ≡ q
planned_same h = cc

pub planned_some : {s w : List ℕ} (p : Plan) → Marks s w p.ranges → Truth s [] p.bare → length w ≡ slots_many → Planned s w (Some p)
planned_some {s} {w} p M T h = record {
  many = h;
  marks = λ q e. subst (λ (x : Plan). Marks s w x.ranges) (planned_same e) M;
  bare = λ q e. subst (λ (x : Plan). Truth s [] x.bare) (planned_same e) T;
}

pub planned_none : {s w : List ℕ} {o : Option Plan} → o ≡ None → length w ≡ slots_many → Planned s w o
planned_none e h = rw e (record { many = h; marks = λ p z. cc; bare = λ p z. cc })

-- a query that is asked from record to record: the entries of the next one begin at n
pub record Going (s : List ℕ) (n : ℕ) (q : Question) : Type 0 where
  pub prepared : Prepared q
  pub query : q.query.now ≡ s
  pub before : Before q.slots n

pub going_start : (l : List ℕ) {s : List ℕ} {q : Question} → Begun s q → Going s (front l l) q
going_start l B = record { prepared = B.prepared; query = B.query; before = rw B.zeros (before_all l) }

module _ {s rec : List ℕ} {n : ℕ} {q new : Question} {y : Bool} (G : Going s n q) (A : Asked q rec n new y) where
  pub going_truth : Truth s (each entry_of rec) y
  going_truth = rw G.query at A.truth

  pub going_next : {m : ℕ} → (Before new.slots (n + length rec) → Before new.slots m) → Going s m new
  going_next h = record { prepared = A.prepared; query = A.query ∙ G.query; before = h A.before }

-- the record at t in the list
pub ready_record : {s l : List ℕ} (t : List ℕ) {b slots : List ℕ} → Ready s l → 0 < length t → every is_record t ≡ true → b ≡ body_of t → length t ≤ length l → Before slots (front l t)
    → RecordReady slots b (front l t)
ready_record {l = l} t R more h eb w B = record {
  entries = rw eb (record_entries t (first_record t more h));
  fits = record_fits l t eb (record_whole t (first_record t more h)) w R.list.long;
  before = B;
}

-- ---- counting

-- a Boolean as a number
pub byte_bit : (y : Bool) {k : ℕ} → k ≡ bool_byte y → k ≡ bit y
byte_bit true e = e
byte_bit false e = e

pub byte_few : (y : Bool) {k : ℕ} → k ≡ bool_byte y → k ≤ 1
byte_few true e = omega arith
byte_few false e = omega arith

pub count_next : (n N i : ℕ) (y : Bool) {k : ℕ} (all more : List ℕ) → all ≡ cond y (i ∷ more) more → k ≡ bit y → n + length all ≡ N → n + k + length more ≡ N
count_next n N i true all more e f h = let l = ap length e in omega arith
count_next n N i false all more e f h = let l = ap length e in omega arith

-- ---- rows as they fill: each number goes in as `code` writes it

unfoldable pub flat : (ℕ → List ℕ) → List ℕ → List ℕ
flat code [] = []
flat code (n ∷ ns) = code n ++ flat code ns

flat_append : (code : ℕ → List ℕ) (ms ns : List ℕ) → flat code (ms ++ ns) ≡ flat code ms ++ flat code ns
unfolding flat
flat_append code [] ns = refl
flat_append code (m ∷ ms) ns = ap {B = List ℕ} (λ l. code m ++ l) (flat_append code ms ns) ∙ sym (append_assoc (code m) (flat code ms) (flat code ns))

flat_one : (ns : List ℕ) → flat (λ n. n ∷ []) ns ≡ ns
unfolding flat
flat_one [] = refl
flat_one (n ∷ ns) = ap {B = List ℕ} (λ l. n ∷ l) (flat_one ns)

flat_four : (ns : List ℕ) → flat (big 4) ns ≡ row_bytes ns
unfolding flat row_bytes
flat_four [] = refl
flat_four (n ∷ ns) = ap {B = List ℕ} (λ l. big 4 n ++ l) (flat_four ns)

pub flat_rows : (in_bytes : Bool) (ns : List ℕ) → flat (coded in_bytes) ns ≡ rows_of in_bytes ns
flat_rows true ns = flat_four ns
flat_rows false ns = flat_one ns

-- laid behind what was written before
pub laid_behind : (front before : List ℕ) (w : ℕ) (bs : List ℕ) → length front ≡ w
    → laid (front ++ drop w before) w bs ≡ (front ++ bs) ++ drop (w + length bs) before
unfolding laid
laid_behind front before w bs e =
    let out = front ++ drop w before in
    let d : drop (w + length bs) out ≡ drop (w + length bs) before =
    (sym (drop-drop (length bs) w out) ∙ ap (drop (length bs)) (drop_at front (drop w before) w e) ∙ drop-drop (length bs) w before) in
    rw (take_at front (drop w before) w e, d)

-- `done` is written, and what is chosen is that with what is still to come
pub record Filling (code : ℕ → List ℕ) (all more before after : List ℕ) (w : ℕ) : Type 0 where
  pub done : List ℕ
  pub whole : all ≡ done ++ more
  pub place : length (flat code done) ≡ w
  pub row : after ≡ flat code done ++ drop w before

module _ (code : ℕ → List ℕ) {all more before after : List ℕ} {w : ℕ} (F : Filling code all more before after w) where
  below : length (flat code all) ≤ length before → w + length (flat code more) ≤ length before
  below fits =
      let p = F.place in
      let e = ap (λ (l : List ℕ). length (flat code l)) F.whole in
      omega (arith, ap length (flat_append code F.done more), length-append (flat code F.done) (flat code more))

  fill_length : length (flat code all) ≤ length before → length after ≡ length before
  fill_length fits =
      let p = F.place in
      omega (arith, below fits, ap length F.row, length-append (flat code F.done) (drop w before), length-drop w before)

  fill_room : length (flat code all) ≤ length before → (i : ℕ) (y : Bool) (later : List ℕ) → more ≡ cond y (i ∷ later) later
      → w + length (cond y (code i) []) ≤ length after
  unfolding flat
  fill_room fits i true later e =
      let k = ap (λ (l : List ℕ). length (flat code l)) e in
      omega (arith, below fits, fill_length fits, length-append (code i) (flat code later))
  fill_room fits i false later e = omega (arith, below fits, fill_length fits)

  -- the numbers ds, written as bs
  fill_more : (ds bs later new : List ℕ) (v : ℕ) → flat code ds ≡ bs → more ≡ ds ++ later → Put after w bs v new → Filling code all later before new v
  fill_more ds bs later new v f m P =
      let g : flat code (F.done ++ ds) ≡ flat code F.done ++ bs = flat_append code F.done ds ∙ ap {B = List ℕ} (λ l. flat code F.done ++ l) f in
      record {
        done = F.done ++ ds;
        whole = F.whole ∙ ap {B = List ℕ} (λ l. F.done ++ l) m ∙ sym (append_assoc F.done ds later);
        place = ap length g ∙ length-append (flat code F.done) bs ∙ ap (λ (k : ℕ). k + length bs) F.place ∙ sym P.place;
        row =
            P.bytes ∙ ap (λ (l : List ℕ). laid l w bs) F.row ∙ laid_behind (flat code F.done) before w bs F.place
            ∙ ap {B = List ℕ} (λ l. l ++ drop (w + length bs) before) (sym g) ∙ ap {B = List ℕ} (λ k. flat code (F.done ++ ds) ++ drop k before) (sym P.place);
      }

  fill_next : (i : ℕ) (y : Bool) (later new : List ℕ) (v : ℕ) → more ≡ cond y (i ∷ later) later → Put after w (cond y (code i) []) v new
      → Filling code all later before new v
  unfolding flat
  fill_next i true later new v e P = fill_more (i ∷ []) (code i) later new v (append-nil (code i)) e P
  fill_next i false later new v e P = fill_more [] [] later new v refl e P

-- the loop over the records of l: those from t on, the first of which is i, are still to come
pub record Filled (code : ℕ → List ℕ) (s l t before after : List ℕ) (w i : ℕ) : Type 0 where
  pub records : every is_record t ≡ true
  pub left : i + length t ≤ length l
  pub filling : (x : Query) → Is s x → Filling code (chosen x (each record_of l)) (chosen_from i x (each record_of t)) before after w

module _ (code : ℕ → List ℕ) {s l : List ℕ} (R : Ready s l) where
  pub filled_start : (before : List ℕ) → Filled code s l l before before 0 0
  unfolding flat
  filled_start before = record {
    records = R.list.records;
    left = omega arith;
    filling = λ x p. record { done = []; whole = refl; place = refl; row = refl };
  }

  module _ {t before after : List ℕ} {w i : ℕ} (F : Filled code s l t before after w i) where
    of_query : Filling code (listed (selected s l)) (chosen_from i R.query.query (each record_of t)) before after w
    of_query = rw (numbers R) (F.filling R.query.query R.query.is)

    pub filled_length : length (flat code (listed (selected s l))) ≤ length before → length after ≡ length before
    filled_length fits = fill_length code of_query fits

    module _ (more : 0 < length t) {b u : List ℕ} (y : Bool) (eb : b ≡ body_of t) (eu : u ≡ rest_of t) (T : Truth s (each entry_of b) y) where
      pub filled_room : length (flat code (listed (selected s l))) ≤ length before → w + length (cond y (code i) []) ≤ length after
      filled_room fits =
          fill_room code of_query fits i y (chosen_from (i + 1) R.query.query (each record_of u))
          (chosen_next s t y more eb eu T R.query.query R.query.is i)

      pub filled_next : {new : List ℕ} {v : ℕ} → Put after w (cond y (code i) []) v new → Filled code s l u before new v (i + 1)
      filled_next {new} {v} P = record {
        records = rw eu (other_records t more F.records);
        left = let k = F.left in let e = ap length eu in omega (arith, rest_shorter t more);
        filling = λ x p.
            fill_next code (F.filling x p) i y (chosen_from (i + 1) x (each record_of u)) new v (chosen_next s t y more eb eu T x p i) P;
      }

    module _ (over : length t ≤ 0) where
      at_end : Filling code (listed (selected s l)) [] before after w
      at_end = rw (chosen_none t over R.query.query i) at of_query

      written : listed (selected s l) ≡ at_end.done
      written = at_end.whole ∙ append-nil at_end.done

      pub filled_count : w ≡ length (flat code (listed (selected s l)))
      filled_count = sym (ap (λ (l : List ℕ). length (flat code l)) written ∙ at_end.place)

      pub filled_end : after ≡ flat code (listed (selected s l)) ++ drop w before
      filled_end = at_end.row ∙ ap {B = List ℕ} (λ l. flat code l ++ drop w before) (sym written)

-- ---- one number into the rows

pub no_put : (out : List ℕ) (w : ℕ) → Put out w [] w out
unfolding laid
no_put out w =
    let z : w + 0 ≡ w = omega arith in
    record { place = sym z; bytes = sym (rw (append-nil (take w out), z) (take-append-drop w out)) }

pub one_put : (out : List ℕ) (w i : ℕ) → w < length out → Put out w (i ∷ []) (w + 1) (set out w i)
unfolding laid
one_put out w i h = record {
  place = refl;
  bytes = set_split out w i h ∙ rw (add-one w) (sym (append_assoc (take w out) (i ∷ []) (drop (suc w) out)));
}

-- ---- the answers

module _ (s l : List ℕ) where
  pub refuse : (before : List ℕ) {c : Code} → Err c ≡ checked (selected s l) → Selects s l before before (Err c)
  refuse before {c} e =
      let r = unsound (selected s l) e in
      record {
        answer = err_same r.2 ∙ sym (ap (λ (o : Read (List ℕ)). answer_of (within (length before) o)) r.1);
        rows = sym (ap (λ (o : Read (List ℕ)). rows_after (within (length before) o) before) r.1);
      }

  module _ (z : number_of (selected s l) ≡ 0) where
    is_got : selected s l ≡ got (listed (selected s l))
    is_got = let g = number_got (selected s l) z in rw g.1

    within_yes : (n : ℕ) → leb (length (listed (selected s l))) n ≡ true → within n (selected s l) ≡ got (listed (selected s l))
    within_yes n h = ap (within n) is_got ∙ rw h

    within_no : (n : ℕ) → leb (length (listed (selected s l))) n ≡ false → within n (selected s l) ≡ refused long_answer
    within_no n h = ap (within n) is_got ∙ rw h

    pub no_room : (before : List ℕ) → leb (length (listed (selected s l))) (length before) ≡ false → Selects s l before before (Err code.LongAnswer)
    no_room before h = let e = within_no (length before) h in record { answer = sym (ap answer_of e); rows = sym (ap (λ (o : Read (List ℕ)). rows_after o before) e) }

    pub choose : (before after : List ℕ) (n : ℕ) → leb (length (listed (selected s l))) (length before) ≡ true → n ≡ length (listed (selected s l))
        → after ≡ listed (selected s l) ++ drop n before → Selects s l before after (Ok n)
    choose before after n h en ea =
        let e = within_yes (length before) h in
        record {
          answer = ok_same en ∙ sym (ap answer_of e);
          rows = ea ∙ ap {B = List ℕ} (λ k. listed (selected s l) ++ drop k before) en ∙ sym (ap (λ (o : Read (List ℕ)). rows_after o before) e);
        }

-- ---- the answers in bytes

pub length_rows : (ns : List ℕ) → length (row_bytes ns) ≡ 4 * length ns
unfolding row_bytes
length_rows [] = refl
length_rows (n ∷ ns) = length-append (big 4 n) (row_bytes ns) ∙ (let i = length_rows ns in omega (arith, length_big 4 n))

fits_alike : (ns : List ℕ) (n : ℕ) → leb (length (row_bytes ns)) n ≡ leb (length ns) (n / 4)
fits_alike ns n =
    alike (leb (length (row_bytes ns)) n) (leb (length ns) (n / 4))
    (λ h. let k = leb-true (length (row_bytes ns)) n h in le-leb (length ns) (n / 4) (omega (arith, length_rows ns)))
    (λ h. let k = leb-true (length ns) (n / 4) h in le-leb (length (row_bytes ns)) n (omega (arith, length_rows ns)))

pub fits_bytes : (ns : List ℕ) (n : ℕ) → leb (length ns) (n / 4) ≡ true → length (row_bytes ns) ≤ n
fits_bytes ns n h = leb-true (length (row_bytes ns)) n (fits_alike ns n ∙ h)

module _ (s l rows room : List ℕ) where
  no_room_asked : select_left s l rows room ≡ leave (and_then (on_read rows_reply (selected s l)) (fitting (length rows))) rows room
  unfolding select_left call
  no_room_asked = rw (le-leb 0 (length room) (omega arith))

  left_by : (o : Read (List ℕ)) → selected s l ≡ o → select_left s l rows room ≡ leave (and_then (on_read rows_reply o) (fitting (length rows))) rows room
  left_by o e = no_room_asked ∙ ap (λ (o : Read (List ℕ)). leave (and_then (on_read rows_reply o) (fitting (length rows))) rows room) e

  module _ {after : List ℕ} (clean : after ≡ zeros room) where
    pub refuse_bytes : {c : Code} → Err c ≡ checked (selected s l) → SelectsBytes s l rows room rows after (Err c)
    refuse_bytes {c} e =
        let r = unsound (selected s l) e in
        let L = left_by (refused r.0) r.1 in
        let k : numbered c ≡ number r.0 = ap numbered r.2 ∙ numbered_coded r.0 in
        record {
          is = err_same r.2 ∙ sym (ap (λ (o : Read (List ℕ)). answer_of (within (length rows / 4) o)) r.1);
          answer = rw k (sym (ap (λ (x : Left). x.answer) L));
          output = sym (ap (λ (x : Left). x.output) L);
          cleared = clean ∙ sym (ap (λ (x : Left). x.room) L);
          few = omega arith;
        }

    module _ (z : number_of (selected s l) ≡ 0) where
      left_got : select_left s l rows room ≡ leave (fitting (length rows) (rows_reply (listed (selected s l)))) rows room
      left_got = left_by (got (listed (selected s l))) (is_got s l z)

      pub no_room_bytes : leb (length (listed (selected s l))) (length rows / 4) ≡ false → SelectsBytes s l rows room rows after (Err code.LongAnswer)
      no_room_bytes h =
          let L : select_left s l rows room ≡ leave (refused long_answer) rows room = left_got ∙ rw (fits_alike (listed (selected s l)) (length rows), h) in
          record {
            is = sym (ap answer_of (within_no s l z (length rows / 4) h));
            answer = sym (ap (λ (x : Left). x.answer) L);
            output = sym (ap (λ (x : Left). x.output) L);
            cleared = clean ∙ sym (ap (λ (x : Left). x.room) L);
            few = omega arith;
          }

      pub choose_bytes : (new : List ℕ) (w : ℕ) → leb (length (listed (selected s l))) (length rows / 4) ≡ true → length (listed (selected s l)) ≤ list_most
          → w ≡ length (row_bytes (listed (selected s l))) → new ≡ row_bytes (listed (selected s l)) ++ drop w rows
          → SelectsBytes s l rows room new after (Ok (w / 4))
      choose_bytes new w h f ew en =
          let ns = listed (selected s l) in
          let n : w / 4 ≡ length ns = omega (arith, length_rows ns) in
          let m : 4 * length ns ≡ length (row_bytes ns) = sym (length_rows ns) in
          let L : select_left s l rows room ≡ leave (got (rows_reply ns)) rows room = left_got ∙ rw (fits_alike ns (length rows), h) in
          record {
            is = ok_same n ∙ sym (ap answer_of (within_yes s l z (length rows / 4) h));
            answer = rw (n, m) (sym (ap (λ (x : Left). x.answer) L));
            output = en ∙ ap {B = List ℕ} (λ k. row_bytes ns ++ drop k rows) ew ∙ sym (ap (λ (x : Left). x.output) L);
            cleared = clean ∙ sym (ap (λ (x : Left). x.room) L);
            few = rw n f;
          }
