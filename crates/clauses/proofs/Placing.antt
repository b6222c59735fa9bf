-- What a clause is to hold, by the kind of its first token, and the middle of an output that is lent.
-- Assumes nothing.
use mathlib.Core.Path.{◌≡◌, refl, sym, ap, subst, ◌∙◌}
use mathlib.Core.Logic.{◌⊎◌, inl, inr, ⊎_elim}
use mathlib.Core.Bool.{Bool, true, false, cond}
use Prim.Native.Nat.{ℕ, suc, ◌+◌, ◌-◌, ◌≤◌, ◌<◌}
use mathlib.Core.List.{List, ◌++◌}
use Rattle.std.specs.Prelude.{Result, Ok, Err}
use native.Mathlib.Decide.{dec_lt}
use native.Mathlib.Omega.{arith}
use native.Mathlib.Numerals.{add-one}
use lib.Dec.{ltb}
use lib.ListN.{length, take, drop}
use lib.Seq.{length-take-le}
use borrow.Author.Tests.{eqb-true, le-ltb, lt-ltb}
use Rattle.rules.specs.Numbers.{Refusal, Read, got, refused, need, on_read, and_then, faulty, many_brackets, unexpected_end, unexpected_token}
use Rattle.rules.specs.Query.{Clauses, none}
use Rattle.rules.specs.Lexing.{Token}
use Rattle.rules.specs.Analysis.{tokenize}
use Rattle.rules.specs.Setup.{Setup, analyzer_of}
use Rattle.rules.specs.Parsing.{Made, Found, found, Kept, kept, is_at, text_at, boost_at, plain_at, quoted_at, closed_at, bracket_at, body_at, query_found, query_of, parse_clauses}
use Rattle.rules.proofs.Bools.{clash, split}
use Rattle.rules.proofs.Stored.Refusals.{no_got}
use Rattle.row.specs.Row.{tokens_of, name_from}
use Rattle.numbers.specs.Laid.{laid, Put}
use Rattle.numbers.proofs.Laying.{lent, length_laid}
use Rattle.counted.specs.Kinds.{is_alone, made_length, Sums}
use Rattle.clauses.specs.Leaves.{leaf_of, leaf_at}
use Rattle.clauses.specs.Measured.{clauses_run, MeansKept, MeantClauses}
use Rattle.clauses.specs.Starting.{Started}
use Rattle.clauses.specs.Written.{Eventually, LeafToWrite, BracketToWrite, ClauseToWrite, QueryToWrite}
use Rattle.counted.specs.declared.Counted.{Counted}
use Rattle.names.specs.declared.refusal.Fault.{Fault}
use Rattle.clauses.proofs.Rows.{kind_in_lem}
use Rattle.clauses.proofs.Bodies.{leaf_faulty, leaf_goes, close_fault, close_missing, close_goes}

-- ---- lengths

pub mid_length : (out ys : List ℕ) (a e : ℕ) → a ≤ e → e ≤ length out → length ys ≡ e - a → length (take a out ++ (ys ++ drop (e - a) (drop a out))) ≡ length out
mid_length out ys a e h k l = ap length (lent out ys a e h k l) ∙ length_laid out a ys (omega arith)

-- bounds of it
pub mid_bounds : (out ys : List ℕ) (a e : ℕ) → a ≤ e → e ≤ length out → length ys ≡ e - a → {b : ℕ} → length out ≤ b
    → (e ≤ length (take a out ++ (ys ++ drop (e - a) (drop a out)))) × (length (take a out ++ (ys ++ drop (e - a) (drop a out))) ≤ b)
mid_bounds out ys a e h k l m = let z = mid_length out ys a e h k l in (omega arith, omega arith)

-- ---- a term or a quote

module _ {room : List ℕ} {n : ℕ} {default : List ℕ} {operator from analyzer i at size : ℕ} {st : Setup} {m : Made} {j : ℕ}
    (W : LeafToWrite room n default operator from analyzer i at size st m j) (plain : Bool) (e : plain ≡ is_at 1 (tokens_of room n) i) where
  pub leaf_boost : (f t : List ℕ) → f ≡ name_from room default from → t ≡ text_at (tokens_of room n) i
      → boost_at st (tokens_of room n) (leaf_of plain operator f (tokenize analyzer t)) (i + 1) ≡ got (found m j)
  leaf_boost f t ef et =
      let ts = tokens_of room n in
      let g = name_from room default from in
      let w : leaf_at plain st ts g i ≡ got (found m j) = ap (λ (b : Bool). leaf_at b st ts g i) e ∙ W.is in
      let same : leaf_of plain operator f (tokenize analyzer t) ≡ leaf_of plain st.operator g (tokenize (analyzer_of st g) (text_at ts i)) =
      ap (λ (x : List ℕ). leaf_of plain operator x (tokenize analyzer t)) ef ∙ ap (λ (x : List ℕ). leaf_of plain operator g (tokenize analyzer x)) et
      ∙ ap (λ (o : ℕ). leaf_of plain o g (tokenize analyzer (text_at ts i))) (sym W.tuned.joins)
      ∙ ap (λ (a : ℕ). leaf_of plain st.operator g (tokenize a (text_at ts i))) W.tuned.force in
      ⊎_elim (λ x. no_got (sym (leaf_faulty plain st ts g i x) ∙ w))
      (λ x. ap (λ (y : Made). boost_at st ts y (i + 1)) same ∙ sym (leaf_goes plain st ts g i x) ∙ w)
      (split (is_at 12 ts (i + 1)))

-- ---- a clause

leaf_by : (a b c d : Bool) (P B Q : Read Found) (x y : Refusal) {r : Found} → cond a P (cond b B (cond c Q (cond d (refused x) (refused y)))) ≡ got r → b ≡ false
    → (cond a P Q ≡ got r) × ((a ≡ true) ⊎ (c ≡ true))
leaf_by true b c d P B Q x y w e = (w, inl refl)
leaf_by false true c d P B Q x y w e = clash refl e
leaf_by false false true d P B Q x y w e = (w, inr refl)
leaf_by false false false true P B Q x y w e = no_got w
leaf_by false false false false P B Q x y w e = no_got w

leaf_cond : (b : Bool) (st : Setup) (ts : List Token) (f : List ℕ) (i : ℕ) → leaf_at b st ts f i ≡ cond b (plain_at st ts f i) (quoted_at st ts f i)
leaf_cond true st ts f i = refl
leaf_cond false st ts f i = refl

-- a token has one kind
two_kinds : {A : Type 0} (ts : List Token) (i k l : ℕ) → (k ≡ l → ⊥) → is_at k ts i ≡ true → is_at l ts i ≡ true → A
two_kinds ts i k l n e d = absurd (n (sym (eqb-true _ k e) ∙ eqb-true _ l d))

other_kind : (ts : List Token) (i k l : ℕ) → (k ≡ l → ⊥) → is_at k ts i ≡ true → is_at l ts i ≡ false
other_kind ts i k l n e = ⊎_elim (λ d. two_kinds ts i k l n e d) (λ d. d) (split (is_at l ts i))

module _ {room : List ℕ} {n i from analyzer from' analyzer' i' : ℕ} (S : Started room n i from analyzer from' analyzer' i')
    {default : List ℕ} {operator depth at size : ℕ} {st : Setup} {m : Made} {j : ℕ} (W : ClauseToWrite room n default operator from analyzer depth i at size st m j) where
  us : List Token
  us = tokens_of room n

  g : List ℕ
  g = name_from room default from'

  sub : ℕ → List ℕ → ℕ → ℕ → Read Found
  sub k = λ g e h. on_read query_found (parse_clauses st us k g e none h)

  body_is : (k : ℕ) → W.is.0 ≤ k → body_at st us (sub k) g depth i' ≡ got (found m j)
  unfolding us g sub
  body_is k h = sym (S.goes st _ default depth) ∙ W.is.1 k h

  leaf_is : is_at 9 us i' ≡ false → (k : ℕ) → body_at st us (sub k) g depth i' ≡ got (found m j)
      → (cond (is_at 1 us i') (plain_at st us g i') (quoted_at st us g i') ≡ got (found m j)) × ((is_at 1 us i' ≡ true) ⊎ (is_at 2 us i' ≡ true))
  unfolding body_at
  leaf_is e k w = leaf_by (is_at 1 us i') (is_at 9 us i') (is_at 2 us i') (is_at 0 us i') (plain_at st us g i') (bracket_at st us (sub k) g depth i') (quoted_at st us g i') (faulty unexpected_end i') (faulty unexpected_token i') w e

  pub clause_leaf : is_at 9 (tokens_of room n) i' ≡ false → LeafToWrite room n default operator from' analyzer' i' at size st m j × (i' < n)
  unfolding us g
  clause_leaf e =
      let z = leaf_is e W.is.0 (body_is W.is.0 (omega arith)) in (
        record { tuned = S.tuned st operator default W.tuned; is = leaf_cond (is_at 1 (tokens_of room n) i') st _ _ i' ∙ z.0; fits = W.fits },
        ⊎_elim (λ t. kind_in_lem room n 1 i' (λ y. omega arith) t) (λ t. kind_in_lem room n 2 i' (λ y. omega arith) t) z.1,
      )

  bracket_is : is_at 9 us i' ≡ true → (k : ℕ) → W.is.0 ≤ k
      → need (ltb depth 24) (faulty many_brackets i') (and_then (on_read query_found (parse_clauses st us k g (depth + 1) none (i' + 1))) (closed_at st us)) ≡ got (found m j)
  unfolding body_at bracket_at sub
  bracket_is e k h = rw add-one (rw (other_kind us i' 9 1 (λ z. omega arith) e, e) at (body_is k h))

  pub clause_depth : is_at 9 (tokens_of room n) i' ≡ true → depth < 24
  unfolding us
  clause_depth e = by (dec_lt depth 24)
    where
      by : Dec (depth < 24) → depth < 24
      by (yes l) = l
      by (no m) = no_got (rw (le-ltb depth 24 (omega arith)) at (bracket_is e W.is.0 (omega arith)))

  pub clause_bracket : is_at 9 (tokens_of room n) i' ≡ true → BracketToWrite room n default operator from' analyzer' (depth + 1) (i' + 1) at size st m j
  unfolding us g
  clause_bracket e = record {
    tuned = S.tuned st operator default W.tuned;
    is = (W.is.0, λ k h. rw (lt-ltb depth 24 (clause_depth e)) at (bracket_is e k h));
    fits = W.fits;
  }

-- ---- a query in brackets

module _ {room : List ℕ} {n : ℕ} {default : List ℕ} {operator from analyzer depth i at size : ℕ} {st : Setup} {m : Made} {j : ℕ}
    (W : BracketToWrite room n default operator from analyzer depth i at size st m j)
    {c : Result Counted Fault} (M : MeantClauses st (tokens_of room n) n (name_from room default from) depth i c) where
  answer_is : and_then (on_read query_found M.answer) (closed_at st (tokens_of room n)) ≡ got (found m j)
  answer_is =
      let k = suc (n - i) + W.is.0 in
      ap (λ (o : Read Kept). and_then (on_read query_found o) (closed_at st (tokens_of room n))) (sym (M.says k (omega arith))) ∙ W.is.1 k (omega arith)

  means_as : {c' : Result Counted Fault} → c ≡ c' → MeansKept c' M.answer
  means_as e = subst (λ (x : Result Counted Fault). MeansKept x M.answer) e M.means

  pub bracket_fault : {A : Type 0} {x : Fault} → c ≡ Err x → A
  bracket_fault e = let z = means_as e in no_got (sym (close_fault st (tokens_of room n) M.answer z.1) ∙ answer_is)

  module _ {g : Counted} (e : c ≡ Ok g) where
    pub bracket_kept : Clauses
    bracket_kept = (means_as e).0

    pub bracket_says : Eventually (clauses_run st (tokens_of room n) (name_from room default from) depth none i) (got (kept bracket_kept g.next))
    unfolding bracket_kept
    bracket_says = (suc (n - i), λ k h. M.says k h ∙ (means_as e).1)

    pub bracket_sums : Sums bracket_kept g.sum.count g.sum.tag g.sum.bytes
    unfolding bracket_kept
    bracket_sums = (means_as e).2

    pub bracket_closed : is_at 10 (tokens_of room n) g.next ≡ true
    bracket_closed = ⊎_elim (λ t. t) (λ t. no_got (sym (close_missing st (tokens_of room n) M.answer (means_as e).1 t) ∙ answer_is)) (split (is_at 10 (tokens_of room n) g.next))

    pub bracket_boost : boost_at st (tokens_of room n) (query_of bracket_kept) (g.next + 1) ≡ got (found m j)
    unfolding bracket_kept
    bracket_boost = sym (close_goes st (tokens_of room n) M.answer (means_as e).1 bracket_closed) ∙ answer_is

    -- the query fills its stretch
    pub bracket_query : (alone : Bool) (len : ℕ) → alone ≡ is_alone bracket_kept → len ≡ made_length (query_of bracket_kept)
        → QueryToWrite room n default operator from analyzer depth i alone len st bracket_kept g.next
    bracket_query alone len a l = record { tuned = W.tuned; is = bracket_says; alone_is = a; fills = l }

-- ---- the middle of an output

pub mid_put : (out ys S : List ℕ) (start len : ℕ) → start + len ≤ length out → ys ≡ S → len ≡ length S
    → Put out start S (start + len) (take start out ++ (ys ++ drop (start + len - start) (drop start out)))
mid_put out ys S start len h e l = record {
  place = omega arith;
  bytes = lent out ys start (start + len) (omega arith) h (ap length e ∙ omega arith) ∙ ap (λ (y : List ℕ). laid out start y) e;
}

-- the first len bytes
pub first_length : (out : List ℕ) (len : ℕ) → len ≤ length out → length (take (len - 0) (drop 0 out)) ≡ len
first_length out len h = let e : len - 0 ≡ len = omega arith in ap (λ (x : ℕ). length (take x out)) e ∙ length-take-le len out h
