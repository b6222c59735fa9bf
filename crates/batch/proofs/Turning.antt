-- A query's turn, and the turns one after the other.
use mathlib.Core.Path.{◌≡◌, refl, sym, ap, ◌∙◌}
use Prim.Native.Nat.{ℕ, suc, ◌+◌, ◌-◌, ◌*◌, ◌/◌, ◌≤◌, ◌<◌}
use mathlib.Core.List.{List, [], ◌∷◌, ◌++◌, append_assoc, append-nil}
use mathlib.Core.Bool.{Bool, true, false}
use native.Mathlib.Omega.{arith}
use native.Mathlib.Numerals.{add-one}
use lib.ListN.{length, get_or, take, drop, length-append, length-drop, take-append-drop}
use lib.Seq.{drop-drop, drop-cons, drop-length, length-take-le, take-append-add, drop-append-add}
use lib.Dec.{leb}
use borrow.Author.Tests.{leb-true}
use Rattle.rules.specs.Numbers.{Read, got, refused, need, long_answer, list_most}
use Rattle.rules.specs.Bytes.{big, each}
use Rattle.rules.specs.Answers.{Answer, Left, select_left}
use Rattle.rules.specs.Batch.{Turns, told_of, turns}
use Rattle.rules.proofs.Stored.Bigs.{length_big}
use Rattle.numbers.specs.Laid.{laid, Put}
use Rattle.numbers.proofs.Laying.{put_then}
use Rattle.std.specs.Prelude.{Result, Ok, Err}
use Rattle.std.specs.Result.{result_unwrap_or}
use Rattle.names.specs.Refusals.{checked}
use Rattle.rules.specs.Lists.{Entry, record_of, read_list}
use Rattle.rules.proofs.Stored.Accepted.{Listed, listed}
use Rattle.names.specs.declared.refusal.Refusal.{Refusal}
use Rattle.selection.specs.Select.{within, answer_of, told, SelectsBytes}
use Rattle.selection.proofs.Selections.{laid_behind, sound}
use Rattle.batch.specs.Cut.{queries_of, Cuts}
use Rattle.batch.specs.Ask.{Sound, kept, Table}
use Rattle.batch.specs.Turn.{Column, records_in}
use Rattle.batch.specs.All.{Turned}

-- ---- what one turn takes

told_long : (a : Answer) → length (told_of a) ≡ 8
told_long a = length-append (big 4 a.refusal) (big 4 a.count) ∙ omega (arith, length_big 4 a.refusal, length_big 4 a.count)

within_written : (n : ℕ) (o : Read (List ℕ)) → (told (answer_of (within n o))).written ≤ 4 * n
within_written n (refused r) = omega arith
within_written n (got ns) = go (leb (length ns) n) refl
  where
    go : (b : Bool) → leb (length ns) n ≡ b → (told (answer_of (need b long_answer (got ns)))).written ≤ 4 * n
    go true h = omega (arith, leb-true (length ns) n h)
    go false h = omega arith

pub told_written : (r : Result ℕ Refusal) → (told r).written ≡ 4 * (told r).count
told_written (Err c) = refl
told_written (Ok n) = refl

pub chosen_few : {s : Result ℕ Refusal} {n : ℕ} → s ≡ Ok n → (told s).count ≤ list_most → n ≤ list_most
chosen_few e h = rw e at h

-- how many records were chosen, none where the query is refused
pub unwrapped : (r : Result ℕ Refusal) {n : ℕ} → n ≡ result_unwrap_or r 0 → n ≡ (told r).count
unwrapped (Err c) e = e
unwrapped (Ok n) e = e

-- what is known of a list by how many records it has
pub list_err : (o : Read (List (List Entry))) {c : Refusal} → Err c ≡ records_in o → Err c ≡ checked o
list_err (got rs) e = cc
list_err (refused x) e = cc

pub list_ok : (o : Read (List (List Entry))) {n : ℕ} → Ok n ≡ records_in o → Ok tt ≡ checked o
list_ok (got rs) e = refl
list_ok (refused x) e = cc

pub refused_list : (o : Read (List (List Entry))) {c : Refusal} → Err c ≡ checked o → Err c ≡ records_in o
refused_list (got rs) e = cc
refused_list (refused x) e = cc

module _ (l : List ℕ) {n : ℕ} (e : Ok n ≡ records_in (read_list l)) where
  pub list_sound : Listed l
  list_sound = listed l 0 (sym (sound (read_list l) (list_ok (read_list l) e))) refl

  pub list_count : n ≡ length (each record_of l)
  list_count = let p = e ∙ ap records_in list_sound.read in cc

pub counted_list : (l : List ℕ) {n : ℕ} {u : Unit {0}} → Ok u ≡ checked (read_list l) → n ≡ length (each record_of l) → Ok n ≡ records_in (read_list l)
counted_list l e k = let L = listed l 0 (sym (sound (read_list l) e)) refl in rw (k, L.read)

-- a refusal and a count, laid one behind the other
pub tell_put : (a : Answer) {out out₁ out₂ : List ℕ} {at p q x y : ℕ} → a.refusal ≡ x → a.count ≡ y → Put out at (big 4 x) p out₁ → Put out₁ p (big 4 y) q out₂
    → at + 8 ≤ length out → Put out at (told_of a) q out₂
tell_put a {x = x} {y = y} e f P Q fits = rw (e, f) (put_then P Q (omega (arith, length_big 4 x, length_big 4 y)))

module _ {s l rows rows' : List ℕ} {r : Result ℕ Refusal} (S : SelectsBytes s l rows [] rows' [] r) where
  pub turn_fits : (told r).written ≤ length rows
  turn_fits = rw S.is (let k = within_written (length rows / 4) (Rattle.rules.specs.Answers.selected s l) in omega arith)

  one_turn : (qs : List (List ℕ)) → turns (s ∷ qs) l rows ≡ record {
    told = told_of (told r) ++ (turns qs l (drop (told r).written rows')).told;
    rows = take (told r).written rows' ++ (turns qs l (drop (told r).written rows')).rows;
    written = (told r).written + (turns qs l (drop (told r).written rows')).written;
  }
  unfolding turns
  one_turn qs = rw (← S.answer, ← S.output)

-- a column of the table
pub column : (s : List ℕ) {l table : List ℕ} {many : ℕ} → Table (queries_of s) many l kept table → (i : ℕ) → i < many → Sound (get_or (queries_of s) i [])
    → Column (get_or (queries_of s) i []) l table (many - 1 - i)
column s T i h z = record { at = λ r k e. (T.at r k e).at i h z }

-- rows that were lent from w on
pub lent_rest : (rows new : List ℕ) (w : ℕ) → w ≤ length rows → take w rows ++ (new ++ drop (length rows - w) (drop w rows)) ≡ take w rows ++ new
lent_rest rows new w h =
    let e : w + (length rows - w) ≡ length rows = omega arith in
    let z : drop (length rows - w) (drop w rows) ≡ [] = drop-drop (length rows - w) w rows ∙ rw e (drop-length rows) in
    ap {B = List ℕ} (λ l. take w rows ++ (new ++ l)) z ∙ ap {B = List ℕ} (λ l. take w rows ++ l) (append-nil new)

-- ---- turn after turn

-- the queries of s before the i-th had their turns: their rows are the first w bytes, what is told of them the first a
pub record Turning (qs : List (List ℕ)) (l answers rows : List ℕ) (i w a : ℕ) (answers' rows' : List ℕ) : Type 0 where
  pub done : List ℕ
  pub long : length done ≡ a
  pub place : a ≡ 8 * i
  pub placed : answers' ≡ done ++ drop a answers
  pub told : (turns qs l rows).told ≡ done ++ (turns (drop i qs) l (drop w rows')).told
  pub output : (turns qs l rows).rows ≡ take w rows' ++ (turns (drop i qs) l (drop w rows')).rows
  pub written : (turns qs l rows).written ≡ w + (turns (drop i qs) l (drop w rows')).written
  pub within : w ≤ length rows'
  pub same : length rows' ≡ length rows
  pub few : w ≤ i * (4 * list_most)

pub turning_start : (qs : List (List ℕ)) (l answers rows : List ℕ) → Turning qs l answers rows 0 0 0 answers rows
turning_start qs l answers rows = record {
  done = [];
  long = refl;
  place = refl;
  placed = refl;
  told = refl;
  output = refl;
  written = omega arith;
  within = omega arith;
  same = refl;
  few = omega arith;
}

module _ {qs : List (List ℕ)} {l answers rows answers' rows' : List ℕ} {i w a : ℕ} (T : Turning qs l answers rows i w a answers' rows') where
  module _ (more : i < length qs) {q new : List ℕ} {r : Result ℕ Refusal} (e : q ≡ get_or qs i []) (S : SelectsBytes q l (drop w rows') [] new [] r)
      (ln : length new ≡ length (drop w rows')) where
    n : ℕ
    n = (told r).written

    step : turns (drop i qs) l (drop w rows') ≡ record {
      told = told_of (told r) ++ (turns (drop (i + 1) qs) l (drop (told r).written new)).told;
      rows = take (told r).written new ++ (turns (drop (i + 1) qs) l (drop (told r).written new)).rows;
      written = (told r).written + (turns (drop (i + 1) qs) l (drop (told r).written new)).written;
    }
    step =
        ap (λ (x : List (List ℕ)). turns x l (drop w rows')) (drop-cons qs i [] more ∙ ap {B = List (List ℕ)} (λ p. p ∷ drop (suc i) qs) (sym e))
        ∙ rw (add-one i) (one_turn S (drop (suc i) qs))

    pub turning_next : {answers'' rows'' : List ℕ} {b v : ℕ} → rows'' ≡ take w rows' ++ new → Put answers' a (told_of (told r)) b answers'' → v ≡ w + (told r).written
        → (told r).count ≤ list_most → 8 * i + 8 ≤ length answers → Turning qs l answers rows (i + 1) v b answers'' rows''
    unfolding laid
    turning_next {answers''} {rows''} {b} {v} er P ev few fits =
        let lw : length (take w rows') ≡ w = length-take-le w rows' T.within in
        let la : length (told_of (told r)) ≡ 8 = told_long (told r) in
        let lr = length-drop w rows' in
        let tv : take v rows'' ≡ take w rows' ++ take (told r).written new =
        rw (er, ev) (ap (λ (k : ℕ). take (k + (told r).written) (take w rows' ++ new)) (sym lw) ∙ take-append-add (take w rows') new (told r).written) in
        let dv : drop v rows'' ≡ drop (told r).written new =
        rw (er, ev) (ap (λ (k : ℕ). drop (k + (told r).written) (take w rows' ++ new)) (sym lw) ∙ drop-append-add (take w rows') new (told r).written) in
        record {
          done = T.done ++ told_of (told r);
          long = length-append T.done (told_of (told r)) ∙ (let x = P.place in let y = T.long in omega arith);
          place = let x = P.place in let y = T.place in omega arith;
          placed =
              P.bytes ∙ ap (λ (x : List ℕ). laid x a (told_of (told r))) T.placed ∙ laid_behind T.done answers a (told_of (told r)) T.long
              ∙ ap (λ (k : ℕ). (T.done ++ told_of (told r)) ++ drop k answers) (sym P.place);
          told = T.told ∙ ap (λ (t : Turns). T.done ++ t.told) step ∙ sym (append_assoc T.done (told_of (told r)) _) ∙ rw dv;
          output = T.output ∙ ap (λ (t : Turns). take w rows' ++ t.rows) step ∙ sym (append_assoc (take w rows') (take (told r).written new) _) ∙ rw (tv, dv);
          written = T.written ∙ ap (λ (t : Turns). w + t.written) step ∙ rw dv (omega arith);
          within = let x = ap length er in let y = T.within in omega (arith, length-append (take w rows') new, turn_fits S);
          same = let x = ap length er in let y = T.within in let z = T.same in omega (arith, length-append (take w rows') new);
          few = let x = T.few in omega (arith, told_written r);
        }

pub turning_end : {s l answers rows answers' rows' : List ℕ} {i w a many : ℕ} → Cuts s many → Turning (queries_of s) l answers rows i w a answers' rows'
    → many ≤ i → i ≤ many → Turned s many l answers rows w answers' rows'
unfolding turns
turning_end {s} {l} {answers} {rows} {answers'} {rows'} {i} {w} {a} {many} C T h k =
    let c = C.count in
    let z : drop i (queries_of s) ≡ [] = (let e : i ≡ length (queries_of s) = omega arith in rw e (drop-length (queries_of s))) in
    let none : turns (drop i (queries_of s)) l (drop w rows') ≡ record { told = []; rows = drop w rows'; written = 0 } =
    ap (λ (x : List (List ℕ)). turns x l (drop w rows')) z in
    let d : (turns (queries_of s) l rows).told ≡ T.done = T.told ∙ ap (λ (t : Turns). T.done ++ t.told) none ∙ append-nil T.done in
    record {
      written = sym (T.written ∙ ap (λ (t : Turns). w + t.written) none ∙ omega arith);
      output = sym (T.output ∙ ap (λ (t : Turns). take w rows' ++ t.rows) none ∙ take-append-drop w rows');
      told = T.placed ∙ ap (λ (k : ℕ). T.done ++ drop k answers) (sym T.long) ∙ ap (λ (x : List ℕ). x ++ drop (length x) answers) (sym d);
      few = let x = T.few in let e : i ≡ many = omega arith in rw (← e) x;
    }
