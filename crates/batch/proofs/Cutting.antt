-- A slice of queries, gone through one after the other.
use mathlib.Core.Path.{◌≡◌, refl, sym, ap, ◌∙◌}
use Prim.Native.Nat.{ℕ, suc, ◌+◌, ◌-◌, ◌≤◌, ◌<◌}
use mathlib.Core.List.{List, [], ◌∷◌, ◌++◌, append-nil, append_assoc}
use mathlib.Core.Bool.{Bool, true, false}
use native.Mathlib.Omega.{arith}
use native.Mathlib.Numerals.{add-one}
use lib.ListN.{length, get_or, take, drop, length-append}
use lib.Seq.{drop-cons, drop-drop}
use lib.Dec.{leb}
use borrow.Author.Tests.{le-leb, lt-leb, leb-true}
use Rattle.rules.specs.Numbers.{Read, got, refused, need, on_read, and_then, many_queries, queries_most}
use Rattle.rules.specs.Bytes.{is_empty, of_big}
use Rattle.rules.specs.Batch.{first_query, other_queries, is_first, cut, read_queries}
use Rattle.rules.proofs.Bools.{and_no_l, alike}
use Rattle.rules.proofs.Stored.Parts.{less_empty, more_empty, cut_from}
use Rattle.rules.proofs.Stored.Refusals.{got_same}
use Rattle.rules.proofs.Stored.Cutting.{cut_done, cut_bad, cut_next, front, Front, others_shorter}
use Rattle.std.specs.Prelude.{Result, Ok, Err}
use Rattle.names.specs.declared.refusal.Refusal.{Refusal}
use Rattle.names.specs.declared.refusal.Refusal.TheVariants as code
use Rattle.batch.specs.Cut.{cut_as, queries_of, Cuts}

-- ---- the query at the front

module _ (s : List ℕ) where
  pub first_short : length s < 2 → false ≡ is_first s
  unfolding is_first
  first_short h = sym (and_no_l _ (lt-leb 2 (length s) h))

  pub first_told : {n : ℕ} → n ≡ of_big (take 2 s) → 2 ≤ length s → leb n (length s - 2) ≡ is_first s
  unfolding is_first
  first_told {n} e h =
      let k = of_big (take 2 s) in
      rw (le-leb 2 (length s) h, e)
      (alike (leb k (length s - 2)) (leb (2 + k) (length s))
      (λ z. le-leb (2 + k) (length s) (omega (arith, leb-true k (length s - 2) z)))
      (λ z. le-leb k (length s - 2) (omega (arith, leb-true (2 + k) (length s) z))))

  pub first_is : {n : ℕ} → n ≡ of_big (take 2 s) → take (2 + n - 2) (drop 2 s) ≡ first_query s
  unfolding first_query
  first_is {n} e = let z : 2 + n - 2 ≡ n = omega arith in rw (z, e)

  pub others_are : {n : ℕ} → n ≡ of_big (take 2 s) → take (length s - (2 + n)) (drop (2 + n) s) ≡ other_queries s
  unfolding other_queries
  others_are {n} e = cut_from (2 + n) s ∙ sym (drop-drop n 2 s) ∙ ap (λ (k : ℕ). drop k (drop 2 s)) e

-- ---- counting them

-- of the slice s, n are done and t is left
pub record Counted (s t : List ℕ) (n : ℕ) : Type 0 where
  pub done : List (List ℕ)
  pub count : n ≡ length done
  pub whole : cut s ≡ on_read (λ qs. done ++ qs) (cut t)
  pub left : n + length t ≤ length s

on_on : (a b : List (List ℕ)) (r : Read (List (List ℕ))) → on_read (λ qs. a ++ qs) (on_read (λ qs. b ++ qs) r) ≡ on_read (λ qs. (a ++ b) ++ qs) r
on_on a b (got qs) = ap got (sym (append_assoc a b qs))
on_on a b (refused r) = refl

pub counted_start : (s : List ℕ) → Counted s s 0
counted_start s = record { done = []; count = refl; whole = go (cut s); left = omega arith }
  where
    go : (r : Read (List (List ℕ))) → r ≡ on_read (λ qs. [] ++ qs) r
    go (got qs) = refl
    go (refused r) = refl

module _ {s t : List ℕ} {n : ℕ} (C : Counted s t n) where
  module _ (more : 0 < length t) where
    pub counted_next : {u : List ℕ} → is_first t ≡ true → u ≡ other_queries t → Counted s u (n + 1)
    counted_next {u} h e = record {
      done = C.done ++ (first_query t ∷ []);
      count = let k = C.count in omega (arith, length-append C.done (first_query t ∷ []));
      whole =
          C.whole ∙ ap (on_read (λ (qs : List (List ℕ)). C.done ++ qs)) (cut_next t (more_empty t more) h ∙ ap (λ (l : List ℕ). on_read (λ qs. first_query t ∷ qs) (cut l)) (sym e))
          ∙ on_on C.done (first_query t ∷ []) (cut u);
      left = let k = C.left in let l = ap length e in omega (arith, others_shorter t more);
    }

    pub counted_bad : is_first t ≡ false → Err code.MalformedQuery ≡ cut_as (read_queries s)
    unfolding read_queries
    counted_bad h = rw (C.whole, cut_bad t (more_empty t more) h)

  module _ (over : length t ≤ 0) where
    counted_all : cut s ≡ got C.done
    counted_all = C.whole ∙ rw (cut_done t (less_empty t over)) (ap got (append-nil C.done))

    pub counted_many : queries_most < n → Err code.ManyQueries ≡ cut_as (read_queries s)
    unfolding read_queries
    counted_many h = rw (counted_all, lt-leb (length C.done) queries_most (let k = C.count in omega arith))

    pub counted_few : n ≤ queries_most → Ok n ≡ cut_as (read_queries s)
    unfolding read_queries
    counted_few h = let k = C.count in rw (counted_all, le-leb (length C.done) queries_most (omega arith)) (ap (λ (m : ℕ). let x : Result ℕ Refusal = Ok m in x) k)

-- ---- what was cut, by what the cut answered

pub cuts : (s : List ℕ) {r : Result ℕ Refusal} (n : ℕ) → r ≡ cut_as (read_queries s) → r ≡ Ok n → Cuts s n
unfolding read_queries queries_of
cuts s n e h = go (cut s) refl (sym h ∙ e)
  where
    by : (qs : List (List ℕ)) (b : Bool) → leb (length qs) queries_most ≡ b → cut s ≡ got qs → Ok n ≡ cut_as (need b many_queries (got qs)) → Cuts s n
    by qs true l p e =
        let k : n ≡ length qs = cc in
        record { is = rw p; count = rw p k; few = omega (arith, leb-true (length qs) queries_most l) }
    by qs false l p e = absurd (let z : ◌≡◌ {A = ℕ} 0 1 = cc in omega arith)

    go : (o : Read (List (List ℕ))) → cut s ≡ o → Ok n ≡ cut_as (and_then o (λ qs. need (leb (length qs) queries_most) many_queries (got qs))) → Cuts s n
    go (got qs) p e = by qs (leb (length qs) queries_most) refl p e
    go (refused x) p e = absurd (let z : ◌≡◌ {A = ℕ} 0 1 = cc in omega arith)

-- ---- one after the other

-- of the queries of s, those from i on are in t
pub record Queue (s t : List ℕ) (i : ℕ) : Type 0 where
  pub is : cut t ≡ got (drop i (queries_of s))

pub queue_start : {s : List ℕ} {n : ℕ} → Cuts s n → Queue s s 0
queue_start C = record { is = C.is }

module _ {s t : List ℕ} {i n : ℕ} (C : Cuts s n) (Q : Queue s t i) (more : i < n) where
  at_front : drop i (queries_of s) ≡ get_or (queries_of s) i [] ∷ drop (suc i) (queries_of s)
  at_front = let k = C.count in drop-cons (queries_of s) i [] (omega arith)

  queue_some : is_empty t ≡ false
  queue_some = go t Q.is
    where
      go : (t : List ℕ) → cut t ≡ got (drop i (queries_of s)) → is_empty t ≡ false
      go [] e = absurd (let z : ◌≡◌ {A = List (List ℕ)} [] (get_or (queries_of s) i [] ∷ drop (suc i) (queries_of s)) = got_same (sym (cut_done [] refl) ∙ e) ∙ at_front in let l = ap length z in omega arith)
      go (x ∷ t) e = refl

  fronted : Front t (drop i (queries_of s))
  fronted = front t (drop i (queries_of s)) queue_some Q.is

  pub queue_first : is_first t ≡ true
  queue_first = fronted.is

  both_fronts : first_query t ∷ fronted.others ≡ get_or (queries_of s) i [] ∷ drop (suc i) (queries_of s)
  both_fronts = sym fronted.split ∙ at_front

  pub queue_query : {q : List ℕ} → q ≡ first_query t → q ≡ get_or (queries_of s) i []
  queue_query e = e ∙ (let z = both_fronts in cc)

  pub queue_next : {u : List ℕ} → u ≡ other_queries t → Queue s u (i + 1)
  queue_next {u} e = record {
    is = let z = both_fronts in let o : fronted.others ≡ drop (suc i) (queries_of s) = cc in
        ap cut e ∙ fronted.rest ∙ ap got (o ∙ ap (λ (k : ℕ). drop k (queries_of s)) (sym (add-one i)));
  }
