-- More fuel changes nothing that was read: a query's clauses, and a clause. Assumes nothing.
use mathlib.Core.Path.{◌≡◌, refl, sym, subst, ◌∙◌}
use mathlib.Core.Bool.{Bool, true, false, ◌&&◌, cond}
use Prim.Native.Nat.{ℕ, zero, suc, ◌+◌, ◌-◌}
use mathlib.Core.List.{List}
use lib.ListN.{length}
use lib.Dec.{leb, ltb}
use native.Mathlib.Omega.{arith}
use Rattle.rules.specs.Numbers.{Refusal, Read, got, refused, need, on_read, and_then, faulty, unexpected_end, long_field, many_brackets, field_most}
use Rattle.rules.specs.Query.{Clauses, none}
use Rattle.rules.specs.Lexing.{Token}
use Rattle.rules.specs.Setup.{Setup}
use Rattle.rules.specs.Parsing.{nothing, made, Found, found, Kept, kept, is_at, text_at, stops_at, Conjunction, Modifier, conjunction_at, after_conjunction, modifier_at, after_modifier, add_clause, query_found, bracket_at, body_at, clause_at, parse_clauses}
use Rattle.rules.proofs.Stored.Refusals.{no_got}
use Rattle.clauses.specs.Measured.{clause_run}
use Rattle.clauses.specs.Written.{Eventually}

-- ---- what is read by parts

module _ {A : Type 0} {r : A} where
  cond_up : (b : Bool) {x x' y y' : Read A} → (x ≡ got r → x' ≡ got r) → (y ≡ got r → y' ≡ got r) → cond b x y ≡ got r → cond b x' y' ≡ got r
  cond_up true f g e = f e
  cond_up false f g e = g e

  need_up : (b : Bool) (y : Refusal) {x x' : Read A} → (x ≡ got r → x' ≡ got r) → need b y x ≡ got r → need b y x' ≡ got r
  need_up true y f e = f e
  need_up false y f e = no_got e

then_up : {A B : Type 0} {r : B} (x : Read A) {x' : Read A} {F G : A → Read B} → ((a : A) → x ≡ got a → x' ≡ got a) → ((a : A) → F a ≡ got r → G a ≡ got r)
    → and_then x F ≡ got r → and_then x' G ≡ got r
then_up (refused y) f g e = no_got e
then_up (got a) f g e = rw (f a refl) (g a e)

on_up : {A B : Type 0} (F : A → B) (x : Read A) {x' : Read A} {r : B} → ((a : A) → x ≡ got a → x' ≡ got a) → on_read F x ≡ got r → on_read F x' ≡ got r
on_up F (refused y) f e = no_got e
on_up F (got a) f e = rw (f a refl) e

up_to : {A : Type 0} (run : ℕ → Read A) {r : A} → ((x : ℕ) → run x ≡ got r → run (suc x) ≡ got r) → (k y : ℕ) → run k ≡ got r → run (y + k) ≡ got r
up_to run {r} step k zero e = subst (λ (x : ℕ). run x ≡ got r) (omega arith) e
up_to run {r} step k (suc y) e = subst (λ (x : ℕ). run x ≡ got r) (omega arith) (step (y + k) (up_to run step k y e))

-- ---- a clause, with what reads a query

module _ (st : Setup) (ts : List Token) {sub sub' : List ℕ → ℕ → ℕ → Read Found} (up : (f : List ℕ) (d i : ℕ) (r : Found) → sub f d i ≡ got r → sub' f d i ≡ got r) where
  body_up : (f : List ℕ) (d i : ℕ) {r : Found} → body_at st ts sub f d i ≡ got r → body_at st ts sub' f d i ≡ got r
  unfolding body_at bracket_at
  body_up f d i = cond_up (is_at 1 ts i) (λ e. e) (cond_up (is_at 9 ts i) (need_up (ltb d 24) (faulty many_brackets i) (then_up (sub f (suc d) (i + 1)) (λ a e. up f (suc d) (i + 1) a e) (λ a e. e))) (λ e. e))

  clause_up : (f : List ℕ) (d i : ℕ) {r : Found} → clause_at st ts sub f d i ≡ got r → clause_at st ts sub' f d i ≡ got r
  unfolding clause_at
  clause_up f d i = cond_up (is_at 1 ts i && is_at 3 ts (i + 1)) (need_up (leb (length (text_at ts i)) field_most) (faulty long_field i) (body_up (text_at ts i) d (i + 2))) (body_up f d i)

-- ---- a query's clauses

add_up : (o : ℕ) (c : Conjunction) (m : Modifier) {rest rest' : Clauses → ℕ → Read Kept} (cs : Clauses) {r : Kept} → ((ds : Clauses) (h : ℕ) → rest ds h ≡ got r → rest' ds h ≡ got r)
    → (f : Found) → add_clause o c m rest cs f ≡ got r → add_clause o c m rest' cs f ≡ got r
unfolding add_clause
add_up o c m cs up (found nothing h) e = up _ h e
add_up o c m cs up (found (made q) h) e = up _ h e

module _ (st : Setup) (ts : List Token) where
  -- a turn, and the fuel of what follows
  turn_of : ℕ → List ℕ → ℕ → Clauses → ℕ → Read Kept
  turn_of k f d cs i =
      let c = conjunction_at cs ts i in
      let j = after_conjunction c i in
      let m = modifier_at ts j in
      cond (stops_at ts i) (got (kept cs i)) (and_then (clause_run st ts f d (after_modifier m j) k) (add_clause st.operator c m (λ ds h. parse_clauses st ts k f d ds h) cs))

  none_read : (f : List ℕ) (d : ℕ) (cs : Clauses) (i : ℕ) → parse_clauses st ts zero f d cs i ≡ refused (faulty unexpected_end i)
  unfolding parse_clauses
  none_read f d cs i = refl

  turn_of_lem : (k : ℕ) (f : List ℕ) (d : ℕ) (cs : Clauses) (i : ℕ) → parse_clauses st ts (suc k) f d cs i ≡ turn_of k f d cs i
  unfolding parse_clauses turn_of
  turn_of_lem k f d cs i = refl

  -- one more than k changes nothing
  abbrev Up : ℕ → Type 0
  Up k = (f : List ℕ) (d : ℕ) (cs : Clauses) (i : ℕ) (r : Kept) → parse_clauses st ts k f d cs i ≡ got r → parse_clauses st ts (suc k) f d cs i ≡ got r

  one_up : (k : ℕ) → Up k → (f : List ℕ) (d i : ℕ) {r : Found} → clause_run st ts f d i k ≡ got r → clause_run st ts f d i (suc k) ≡ got r
  one_up k up f d i = clause_up st ts (λ g e h r. on_up query_found (parse_clauses st ts k g e none h) (λ a. up g e none h a)) f d i

  turn_up : (k : ℕ) → Up k → (f : List ℕ) (d : ℕ) (cs : Clauses) (i : ℕ) (r : Kept) → turn_of k f d cs i ≡ got r → turn_of (suc k) f d cs i ≡ got r
  unfolding turn_of
  turn_up k up f d cs i r =
      let c = conjunction_at cs ts i in
      let j = after_conjunction c i in
      let m = modifier_at ts j in
      let l = after_modifier m j in
      cond_up (stops_at ts i) (λ e. e) (then_up (clause_run st ts f d l k) (λ a e. one_up k up f d l e) (λ a. add_up st.operator c m cs (λ ds h. up f d ds h r) a))

  clauses_up : (k : ℕ) → Up k
  clauses_up zero f d cs i r e = no_got (sym (none_read f d cs i) ∙ e)
  clauses_up (suc k) f d cs i r e = turn_of_lem (suc k) f d cs i ∙ turn_up k (clauses_up k) f d cs i r (sym (turn_of_lem k f d cs i) ∙ e)

  pub clause_fuel : (f : List ℕ) (d i k : ℕ) {r : Found} → clause_run st ts f d i k ≡ got r → Eventually (clause_run st ts f d i) (got r)
  clause_fuel f d i k {r} e = (
    k,
    λ x h. subst (λ (y : ℕ). clause_run st ts f d i y ≡ got r) (omega arith) (up_to (clause_run st ts f d i) (λ y. one_up y (clauses_up y) f d i) k (x - k) e),
  )
