-- What a clause leads to: a fault, past it, or into the clauses that it holds. Code has its body q, which was looked at.
use mathlib.Core.Path.{◌≡◌, refl, sym, ap, ◌∙◌}
use Prim.Native.Nat.{ℕ, ◌+◌, ◌-◌, ◌≤◌, ◌<◌}
use mathlib.Core.List.{List}
use mathlib.Core.Bool.{Bool, true, false, not}
use native.Mathlib.Omega.{arith}
use lib.ListN.{length, take, drop}
use lib.Seq.{drop-drop}
use lib.Dec.{eqb}
use borrow.Author.Tests.{eq-eqb, ne_eqb, eqb-false, not-true}
use Rattle.std.specs.Prelude.{Ok, Err}
use Rattle.names.specs.declared.refusal.Refusal.{Refusal}
use Rattle.names.specs.declared.refusal.Refusal.TheVariants.{MalformedQuery}
use Rattle.rules.specs.Numbers.{term_tag, malformed_query, Read, got, refused}
use Rattle.rules.specs.Bytes.{is_empty, tag_of, size_of, body_of, rest_of, whole_of, is_part}
use Rattle.rules.specs.Reading.{is_kind, is_query, term_in, body_in, decode}
use Rattle.rules.proofs.Bools.{and_l, and_four, both}
use Rattle.rules.proofs.Stored.Parts.{more_empty, part_is, whole_le, length_body}
use Rattle.rules.proofs.Stored.Refusals.{need_yes}
use Rattle.rules.proofs.Stored.Steps.{in_term}
use Rattle.stored.specs.declared.read.Held.{Held}
use Rattle.stored.specs.Read.{Verdict, verdict, bad, said_as, is_term, is_clause, is_simple, cut, row_of, held, behind, after, IsFault, Within, HoldsRow, IsLeafRecord, PastClause, IntoClause, LastClause}
use Rattle.stored.proofs.Reader.{clauses_are_bad, clause_after, record_in}
use Rattle.stored.proofs.Opening.{cut_cut}

-- nothing is said behind what is malformed at the end
pub after_bad : {A : Type 0} (o : Read A) (x : Verdict) → after (verdict bad o) x ≡ verdict bad o
after_bad (got a) x = refl
after_bad (refused r) x = refl

-- one sound Term and nothing more is sound
simple_good : (d : ℕ) (q : List ℕ) → is_simple d q ≡ true → verdict (Ok tt) (decode d q) ≡ Ok tt
unfolding term_in
simple_good d q s =
    let c = and_four (not (eqb d 0)) (is_part term_tag q) (is_term (body_of q)) (is_empty (rest_of q)) s in
    let i = part_is term_tag q c.1 in
    let n : d ≡ 0 → ⊥ = eqb-false d 0 (not-true (eqb d 0) c.0) in
    record_in (Ok tt) d q n (both i.0 (ap is_query i.1))
    ∙ ap (λ (b : Bool). verdict (said_as b (Ok tt)) (body_in (decode (d - 1)) (tag_of q) (body_of q))) c.3
    ∙ ap (verdict (Ok tt)) (in_term (decode (d - 1)) (body_of q) (tag_of q) i.1 ∙ need_yes malformed_query _ c.2)

pub clause_bad : (d : ℕ) (t : List ℕ) → 0 < length t → is_clause t ≡ false → IsFault (row_of d t) MalformedQuery
clause_bad d t h k g = clauses_are_bad g (decode d) t (more_empty t h) k

module _ (d : ℕ) (t q : List ℕ) (h : 0 < length t) (ok : is_clause t ≡ true) (eq : q ≡ body_of t) where
  w : whole_of t ≡ true
  w = and_l (whole_of t) (is_kind (tag_of t)) ok

  size : length q ≡ size_of t
  size = ap length eq ∙ length_body t w

  fits : 3 + length q ≤ length t
  fits = omega (arith, size, whole_le t w)

  rest_at : rest_of t ≡ drop (3 + length q) t
  unfolding rest_of
  rest_at = drop-drop (size_of t) 3 t ∙ ap (λ (k : ℕ). drop (3 + k) t) (sym size)

  body_at : q ≡ cut 3 (3 + length q) t
  unfolding body_of
  body_at = let e : size_of t ≡ 3 + length q - 3 = omega (arith, size) in eq ∙ ap (λ (k : ℕ). take k (drop 3 t)) e

  -- the body of the clause, and then the clauses behind it
  first_then : (x : Verdict) → verdict (Ok tt) (decode d q) ≡ x
      → (g : Verdict) → verdict g (row_of d t) ≡ after x (verdict g (row_of d (drop (3 + length q) t)))
  first_then x e g =
      clause_after g (decode d) t (more_empty t h) ok
      ∙ ap (λ (l : List ℕ). after (verdict (Ok tt) (decode d l)) (verdict g (row_of d (rest_of t)))) (sym eq)
      ∙ ap (λ (y : Verdict). after y (verdict g (row_of d (rest_of t)))) e
      ∙ ap (λ (l : List ℕ). after x (verdict g (row_of d l))) rest_at

  pub step_fault : (r : Refusal) → IsFault (decode d q) r → IsFault (row_of d t) r
  step_fault r F g = first_then (Err r) (F (Ok tt)) g

  step_good : verdict (Ok tt) (decode d q) ≡ Ok tt → PastClause d t (3 + length q)
  step_good z = record { some = omega arith; end = fits; is = first_then (Ok tt) z }

  pub step_simple : is_simple d q ≡ true → PastClause d t (3 + length q)
  step_simple s = step_good (simple_good d q s)

  pub step_past : (e : ℕ) → IsLeafRecord d q e → eqb e (length q) ≡ true → PastClause d t (3 + length q)
  step_past e L f = step_good (L.is (Ok tt) ∙ rw f)

  pub step_more : (e : ℕ) → IsLeafRecord d q e → eqb e (length q) ≡ false → IsFault (row_of d t) MalformedQuery
  step_more e L f g = first_then bad (L.is (Ok tt) ∙ rw f) g

  within_clause : (i : Held) → Within q i → Within t (behind 3 i)
  within_clause i W = record {
    some = omega arith;
    order = omega (arith, W.order);
    end = omega (arith, W.end, fits);
    short = omega (arith, W.short);
  }

  inner_at : (i : Held) → i.to ≤ length q → held i q ≡ held (behind 3 i) t
  inner_at i k = ap (held i) body_at ∙ cut_cut 3 (3 + length q) i.from i.to t (omega arith)

  row_inside : (i : Held) (x : Verdict) → HoldsRow d q i → said_as (eqb i.to (length q)) (Ok tt) ≡ x
      → verdict (Ok tt) (decode d q) ≡ verdict x (row_of i.left (held (behind 3 i) t))
  row_inside i x R e =
      R.is (Ok tt) ∙ ap (λ (k : Verdict). verdict k (row_of i.left (held i q))) e ∙ ap (λ (m : List ℕ). verdict x (row_of i.left m)) (inner_at i R.at.end)

  pub step_into : (i : Held) → HoldsRow d q i → i.to ≡ length q → IntoClause d t (behind 3 i)
  step_into i R f =
      let x = row_inside i (Ok tt) R (rw (eq-eqb i.to (length q) f)) in
      record {
        at = within_clause i R.at;
        less = R.less;
        is = λ g. first_then _ x g ∙ ap (λ (k : ℕ). after (verdict (Ok tt) (row_of i.left (held (behind 3 i) t))) (verdict g (row_of d (drop (3 + k) t)))) (sym f);
      }

  pub step_last : (i : Held) → HoldsRow d q i → (i.to ≡ length q → ⊥) → LastClause d t (behind 3 i)
  step_last i R f =
      let x = row_inside i bad R (rw (ne_eqb i.to (length q) f)) in
      record { at = within_clause i R.at; less = R.less; is = λ g. first_then _ x g ∙ after_bad (row_of i.left (held (behind 3 i) t)) _ }
