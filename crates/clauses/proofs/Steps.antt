-- The clauses of a query, a turn at a time, whatever the fuel. Assumes nothing.
use mathlib.Core.Path.{◌≡◌, refl, sym, subst, ◌∙◌}
use mathlib.Core.Bool.{true, false}
use Prim.Native.Nat.{ℕ, zero, suc, ◌+◌, ◌-◌, ◌*◌, ◌≤◌, ◌<◌}
use mathlib.Core.List.{List}
use Rattle.std.specs.Prelude.{Result, Ok, Err}
use native.Mathlib.Decide.{dec_lt}
use native.Mathlib.Omega.{arith}
use lib.Dec.{ltb}
use borrow.Author.Tests.{lt-ltb}
use Rattle.rules.specs.Numbers.{Refusal, faulty, Read, got, refused, and_then}
use Rattle.rules.specs.Query.{Clauses, none, clause}
use Rattle.rules.specs.Lexing.{Token}
use Rattle.rules.specs.Setup.{Setup}
use Rattle.rules.specs.Parsing.{Made, nothing, made, found, Kept, kept, stops_at, Conjunction, Modifier, add_clause, parse_clauses}
use Rattle.clauses.specs.Joining.{Leads}
use Rattle.counted.specs.Kinds.{is_kept, count_of, bytes_of, made_length, with_made, Sums}
use Rattle.row.specs.Row.{tokens_of}
use Rattle.clauses.specs.Measured.{Says, place_at, Rowed, clause_run, clauses_run, MeansFound, WithinClause, MeantClause, MeantClauses}
use Rattle.names.specs.declared.refusal.Fault.{Fault}
use Rattle.clauses.specs.declared.kinds.Clause.{Clause}
use Rattle.clauses.proofs.Rows.{place_near, place_step_two, place_most_lem}

-- ---- what was read before a clause

pub lead_place : {room : List ℕ} {n : ℕ} (R : Rowed room n) {i k : ℕ} → (i ≤ k) × (k ≤ i + 2) → place_at (tokens_of room n) i ≤ place_at (tokens_of room n) k
lead_place {room} {n} R {i} {k} h = by (dec_lt (i + 1) k)
  where
    by : Dec (i + 1 < k) → place_at (tokens_of room n) i ≤ place_at (tokens_of room n) k
    by (yes l) = let e : k ≡ i + 2 = omega arith in rw e (place_step_two R i)
    by (no l) = place_near R i k h.0 (omega arith)

pub added_is : (o : ℕ) (c : Conjunction) (m : Modifier) (more : Clauses → ℕ → Read Kept) (cs : Clauses) (q : Made) (next : ℕ)
    → add_clause o c m more cs (found q next) ≡ more (with_made o c m cs q) next
unfolding add_clause
added_is o c m more cs nothing next = refl
added_is o c m more cs (made q) next = refl

module _ (st : Setup) (ts : List Token) (f : List ℕ) (d : ℕ) (cs : Clauses) (i : ℕ) where
  pub step_end : (n : ℕ) → stops_at ts i ≡ true → Says (clauses_run st ts f d cs i) (suc n) (got (kept cs i))
  unfolding parse_clauses
  step_end n e zero h = absurd (omega arith)
  step_end n e (suc k) h = rw e

  module _ {c : Conjunction} {m : Modifier} {k : ℕ} (goes : stops_at ts i ≡ false) (L : Leads ts cs i c m k) where
    pub run_is : (x : ℕ) → clauses_run st ts f d cs i (suc x)
        ≡ and_then (clause_run st ts f d k x) (add_clause st.operator c m (λ ds h. parse_clauses st ts x f d ds h) cs)
    unfolding parse_clauses
    run_is x = rw (goes, L.joins, L.modifies, ← L.next)

    module _ (n : ℕ) (l : i < n) (low : i ≤ k) where
      pub step_refused : {x : Refusal} → Says (clause_run st ts f d k) (n - k) (refused x) → Says (clauses_run st ts f d cs i) (suc (n - i)) (refused x)
      step_refused s zero h = absurd (omega arith)
      step_refused s (suc y) h = run_is y ∙ rw (s y (omega arith))

      pub step_found : {q : Made} {next : ℕ} → Says (clause_run st ts f d k) (n - k) (got (found q next)) → k < next → {R : Read Kept}
          → Says (clauses_run st ts f d (with_made st.operator c m cs q) next) (suc (n - next)) R
          → Says (clauses_run st ts f d cs i) (suc (n - i)) R
      step_found s g r zero h = absurd (omega arith)
      step_found {q} {next} s g r (suc y) h = run_is y ∙ rw (s y (omega arith)) (added_is _ _ _ _ cs q next ∙ r y (omega arith))

-- ---- the loop of a query

pub record Bounds (ts : List Token) (n at i count bytes : ℕ) : Type 0 where
  pub from : at ≤ i
  pub upto : i ≤ n
  pub place : place_at ts at ≤ place_at ts i
  pub size : bytes ≤ 63 * (place_at ts i - place_at ts at)
  pub least : 3 * count ≤ bytes

pub bounds_start : (ts : List Token) (n at : ℕ) → at ≤ n → Bounds ts n at at 0 0
bounds_start ts n at h = record { from = omega arith; upto = h; place = omega arith; size = omega arith; least = omega arith }

pub bounds_on : {room : List ℕ} {n : ℕ} (R : Rowed room n) (at i k count bytes count' bytes' : ℕ) (g : Clause) → Bounds (tokens_of room n) n at i count bytes → (i ≤ k) × (k ≤ i + 2)
    → WithinClause (tokens_of room n) n k (Ok g) → (bytes' ≤ bytes + g.len + 3) × (3 * count ≤ bytes → 3 * count' ≤ bytes') → Bounds (tokens_of room n) n at g.next count' bytes'
bounds_on R at i k count bytes count' bytes' g B L W h =
    let p = lead_place R L in
    record {
      from = omega (arith, B.from, L.0, W.0);
      upto = W.1;
      place = omega (arith, B.place, W.2);
      size = omega (arith, B.place, B.size, W.2, W.3, h.0);
      least = h.1 B.least;
    }

pub bounds_small : {room : List ℕ} {n : ℕ} (R : Rowed room n) {at i count bytes : ℕ} → Bounds (tokens_of room n) n at i count bytes → (bytes ≤ 64512) × (count ≤ 64512)
bounds_small R {i = i} B = (omega (arith, B.size, place_most_lem R i), omega (arith, B.size, place_most_lem R i, B.least))

pub clause_small : {room : List ℕ} {n : ℕ} (R : Rowed room n) {k : ℕ} {g : Clause} → WithinClause (tokens_of room n) n k (Ok g) → g.len ≤ 64512
clause_small R {g = g} W = omega (arith, W.3, place_most_lem R g.next)

-- acc is kept so far, and what follows from here on is what follows from the start
pub record Turn (st : Setup) (ts : List Token) (n : ℕ) (f : List ℕ) (d at i count tag bytes : ℕ) : Type 0 where
  pub acc : Clauses
  pub sums : Sums acc count tag bytes
  pub says : (R : Read Kept) → Says (clauses_run st ts f d acc i) (suc (n - i)) R → Says (clauses_run st ts f d none at) (suc (n - at)) R

pub turn_start : (st : Setup) (ts : List Token) (n : ℕ) (f : List ℕ) (d at : ℕ) → Turn st ts n f d at at 0 0 0
unfolding count_of bytes_of
turn_start st ts n f d at = record { acc = none; sums = record { counted = refl; last = refl; size = refl }; says = λ R s. s }

pub kept_counted : (cs : Clauses) {count tag bytes : ℕ} → Sums cs count tag bytes → is_kept cs ≡ ltb 0 count
unfolding count_of
kept_counted none s = rw s.counted
kept_counted (clause k q cs) {count} s = sym (lt-ltb 0 count (omega (arith, s.counted)))

module _ {st : Setup} {ts : List Token} {n : ℕ} {f : List ℕ} {d at i count tag bytes : ℕ} (T : Turn st ts n f d at i count tag bytes) where
  pub turn_end : stops_at ts i ≡ true → MeantClauses st ts n f d at (Ok (record { sum = record { count = count; tag = tag; bytes = bytes }; next = i }))
  turn_end e = record {
    answer = got (kept T.acc i);
    says = T.says (got (kept T.acc i)) (step_end st ts f d T.acc i (n - i) e);
    means = (T.acc, refl, T.sums);
  }

  module _ (goes : stops_at ts i ≡ false) (l : i < n) (c : Conjunction) (m : Modifier) (k : ℕ) (low : i ≤ k) (L : (cs : Clauses) → is_kept cs ≡ ltb 0 count → Leads ts cs i c m k) where
    lead : Leads ts T.acc i c m k
    lead = L T.acc (kept_counted T.acc T.sums)

    pub turn_refused : {e : Fault} {g : Result Clause Fault} → g ≡ Err e → MeantClause st ts n f d k g → MeantClauses st ts n f d at (Err e)
    turn_refused {e} {g} E M = by (subst (λ (g : Result Clause Fault). MeansFound g M.answer) E M.means)
      where
        by : MeansFound (Err e) M.answer → MeantClauses st ts n f d at (Err e)
        by (x, a, b) = record {
          answer = refused (faulty x e.place);
          says = T.says (refused (faulty x e.place)) (step_refused st ts f d T.acc i goes lead n l low (λ y h. M.says y h ∙ a));
          means = (x, refl, b);
        }

    pub turn_found : {a : Clause} {count' tag' bytes' : ℕ} {g : Result Clause Fault} → g ≡ Ok a → MeantClause st ts n f d k g → k < a.next
        → ((cs : Clauses) (q : Made) → Sums cs count tag bytes → a.len ≡ made_length q → Sums (with_made st.operator c m cs q) count' tag' bytes')
        → Turn st ts n f d at a.next count' tag' bytes'
    turn_found {a} {count'} {tag'} {bytes'} E M h S = by (subst (λ (g : Result Clause Fault). MeansFound g M.answer) E M.means)
      where
        by : MeansFound (Ok a) M.answer → Turn st ts n f d at a.next count' tag' bytes'
        by (q, x, b) = record {
          acc = with_made st.operator c m T.acc q;
          sums = S T.acc q T.sums b;
          says = λ R s. T.says R (step_found st ts f d T.acc i goes lead n l low (λ y z. M.says y z ∙ x) h s);
        }
