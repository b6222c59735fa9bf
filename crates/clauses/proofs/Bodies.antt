-- A clause: where it begins, its terms and quotes, a query in brackets, a boost behind it. Assumes nothing.
use mathlib.Core.Path.{◌≡◌, refl, sym, ap, subst, ◌∙◌}
use mathlib.Core.Bool.{Bool, true, false}
use Prim.Native.Nat.{ℕ, ◌+◌, ◌-◌, ◌*◌, ◌≤◌, ◌<◌}
use mathlib.Core.List.{List}
use Rattle.std.specs.Prelude.{Result, Ok, Err}
use native.Mathlib.Decide.{dec_lt}
use native.Mathlib.Omega.{arith}
use native.Mathlib.Numerals.{add-one}
use mathlib.Core.Logic.{◌⊎◌, inl, inr}
use lib.Dec.{leb, eqb}
use lib.ListN.{length}
use borrow.Author.Tests.{eq-eqb, ne_eqb, le-leb, lt-leb, lt-ltb, le-ltb}
use Rattle.rules.specs.Numbers.{Fault, Refusal, moved, faulty, Read, got, refused, need, on_read, and_then, fuzzy_term, sloppy_phrase, open_bracket, bad_numeral, no_numeral, long_numeral, numeral_most, long_field, many_brackets, unexpected_end, unexpected_token, field_most}
use Rattle.rules.specs.Query.{Query, boost, Clauses, none}
use Rattle.rules.specs.Lexing.{Token}
use Rattle.rules.specs.Analysis.{tokenize}
use Rattle.rules.specs.Numerals.{Numeral, bad, infinite, not_number, decimal, is_minus, after_sign, unsigned, bits_of, numeral_bits}
use Rattle.rules.specs.Setup.{Setup, analyzer_of}
use Rattle.rules.specs.Parsing.{Made, nothing, made, Found, found, on_made, Kept, kept, token_of, is_at, text_at, term_of, phrase_of, boost_at, plain_at, quoted_at, closed_at, bracket_at, body_at, clause_at, query_found, query_of, parse_clauses}
use Rattle.rules.proofs.Stored.Refusals.{no_got}
use Rattle.rules.proofs.Stored.Sizes.{length_boost, length_encode}
use Rattle.row.specs.Row.{token_at, tokens_of, name_from}
use Rattle.clauses.specs.Leaves.{leaf_of, leaf_kind, leaf_fault, leaf_at}
use Rattle.counted.specs.Kinds.{made_length}
use Rattle.clauses.specs.Measured.{Says, place_at, Rowed, is_named, note_at, MeansFound, WithinClause, WithinClauses, MeantClause}
use Rattle.clauses.specs.Starting.{Started, WithinBoost}
use Rattle.std.specs.Result.{result_unwrap_or}
use Rattle.names.specs.Refusals.{coded, coded_fault, answered, checked}
use Rattle.names.specs.declared.refusal.Fault.{Fault as Met}
use Rattle.names.specs.declared.refusal.Refusal.{Refusal as code-refusal}
use Rattle.clauses.specs.Written.{bits_in}
use Rattle.clauses.specs.declared.kinds.Clause.{Clause}
use Rattle.counted.specs.declared.Counted.{Counted}
use Rattle.clauses.proofs.Rows.{text_is, named_in, place_up, place_on, place_text}

-- ---- where a clause begins

module _ {room : List ℕ} {n : ℕ} (R : Rowed room n) (i from analyzer : ℕ) where
  pub start_plain : is_named (tokens_of room n) i ≡ false → Started room n i from analyzer from analyzer i
  unfolding clause_at
  start_plain e = record {
    low = omega arith;
    high = omega arith;
    place = omega arith;
    fielded = λ default F. F;
    tuned = λ st o default T. T;
    goes = λ st sub default d. rw e;
  }

  pub start_long : is_named (tokens_of room n) i ≡ true → field_most < length (token_at room i).text
      → (st : Setup) (sub : List ℕ → ℕ → ℕ → Read Found) (f : List ℕ) (d : ℕ) → clause_at st (tokens_of room n) sub f d i ≡ refused (faulty long_field i)
  unfolding clause_at
  start_long e h st sub f d =
      let l : leb (length (text_at (tokens_of room n) i)) field_most ≡ false = rw (text_is room n i (omega (arith, named_in room n i e))) (lt-leb _ _ h) in
      rw (e, l)

  pub start_named : is_named (tokens_of room n) i ≡ true → length (token_at room i).text ≤ field_most → Started room n i from analyzer (i + 1) (note_at room i) (i + 2)
  unfolding clause_at
  start_named e h =
      let m = named_in room n i e in
      let t : text_at (tokens_of room n) i ≡ (token_at room i).text = text_is room n i (omega arith) in
      let l : leb (length (text_at (tokens_of room n) i)) field_most ≡ true = rw t (le-leb _ _ h) in
      let up : place_at (tokens_of room n) (i + 1) ≤ place_at (tokens_of room n) (i + 2) = subst (λ (x : ℕ). place_at (tokens_of room n) (i + 1) ≤ place_at (tokens_of room n) x) (omega arith) (place_up R (i + 1)) in
      record {
        low = omega arith;
        high = omega arith;
        place = omega (arith, place_up R i, up);
        fielded = λ default F. record { upto = omega arith; short = rw add-one h };
        tuned = λ st o default T. record { joins = T.joins; noted = T.noted; force = T.noted i (omega arith) e ∙ rw (add-one, t) };
        goes = λ st sub default d. rw (e, l, add-one i, t);
      }

-- ---- a boost

-- a numeral is refused for a fault, at its start
pub numeral_faulty : (s : List ℕ) {r : Refusal} → numeral_bits s ≡ refused r → (f : Fault) × (r ≡ faulty f 0)
unfolding numeral_bits
numeral_faulty s {r} e = by (leb (length s) numeral_most) (is_minus s) (unsigned (after_sign s)) e
  where
    by : (b minus : Bool) (x : Numeral) → need b (faulty long_numeral 0) (bits_of minus x) ≡ refused r → (f : Fault) × (r ≡ faulty f 0)
    by false minus x e = (long_numeral, cc)
    by true minus bad e = (bad_numeral, cc)
    by true minus infinite e = no_got (sym e)
    by true minus not_number e = no_got (sym e)
    by true minus (decimal d u n) e = no_got (sym e)

pub numeral_refused : (s : List ℕ) (e : code-refusal) → checked (numeral_bits s) ≡ Err e → (f : Fault) × (numeral_bits s ≡ refused (faulty f 0)) × (e ≡ coded_fault f)
numeral_refused s e h = by (numeral_bits s) (λ r k. numeral_faulty s k) h
  where
    by : (o : Read ℕ) → ((r : Refusal) → o ≡ refused r → (f : Fault) × (r ≡ faulty f 0)) → checked o ≡ Err e → (f : Fault) × (o ≡ refused (faulty f 0)) × (e ≡ coded_fault f)
    by (refused r) g h = let b = g r refl in let x : coded r ≡ e = cc in (b.0, ap (λ (x : Refusal). refused x) b.1, sym x ∙ ap coded b.1)
    by (got b) g h = cc

pub numeral_taken : (o : Read ℕ) (u : Unit {0}) → checked o ≡ Ok u → (b : ℕ) × (o ≡ got b)
numeral_taken (refused r) u h = cc
numeral_taken (got b) u h = (b, refl)

pub bits_taken : (o : Read ℕ) → result_unwrap_or (answered (λ b. b) o) 0 ≡ bits_in o
bits_taken (refused r) = refl
bits_taken (got b) = refl

module _ (st : Setup) (ts : List Token) (i : ℕ) where
  pub boost_none : (m : Made) → is_at 11 ts i ≡ false → boost_at st ts m i ≡ got (found m i)
  unfolding boost_at
  boost_none m e = rw e

  pub boost_missing : (m : Made) → is_at 11 ts i ≡ true → is_at 1 ts (i + 1) ≡ false → boost_at st ts m i ≡ refused (faulty no_numeral (i + 1))
  unfolding boost_at
  boost_missing m e f = rw (e, f)

  pub boost_refused : (m : Made) {x : Refusal} → is_at 11 ts i ≡ true → is_at 1 ts (i + 1) ≡ true → numeral_bits (text_at ts (i + 1)) ≡ refused x
      → boost_at st ts m i ≡ refused (moved (λ p. i + 1) x)
  unfolding boost_at
  boost_refused m e f g = rw (e, f, g)

  pub boost_got : (m : Made) {b : ℕ} → is_at 11 ts i ≡ true → is_at 1 ts (i + 1) ≡ true → numeral_bits (text_at ts (i + 1)) ≡ got b
      → boost_at st ts m i ≡ got (found (on_made (boost b) m) (i + 2))
  unfolding boost_at
  boost_got m e f g = rw (e, f, g)

pub boosted_length : (b : ℕ) (m : Made) (len r : ℕ) → len ≡ made_length m → (r ≤ len + 7) × ((len ≡ 0 → r ≡ 0) × ((len ≡ 0 → ⊥) → r ≡ 7 + len)) → r ≡ made_length (on_made (boost b) m)
boosted_length b nothing len r e h = h.1.0 e
boosted_length b (made q) len r e h = h.1.1 (λ z. made_not q (sym e ∙ z)) ∙ omega (arith, length_boost b q)
  where
    made_not : (q : Query) → made_length (made q) ≡ 0 → ⊥
    made_not q z = omega (arith, length_encode q)

-- ---- terms and quotes

module _ (st : Setup) (ts : List Token) (f : List ℕ) (i : ℕ) where
  pub plain_fuzzy : is_at 12 ts (i + 1) ≡ true → plain_at st ts f i ≡ refused (faulty fuzzy_term (i + 1))
  unfolding plain_at
  plain_fuzzy e = rw e

  pub plain_goes : is_at 12 ts (i + 1) ≡ false → plain_at st ts f i ≡ boost_at st ts (term_of st.operator f (tokenize (analyzer_of st f) (text_at ts i))) (i + 1)
  unfolding plain_at
  plain_goes e = rw e

  pub quoted_sloppy : is_at 12 ts (i + 1) ≡ true → quoted_at st ts f i ≡ refused (faulty sloppy_phrase (i + 1))
  unfolding quoted_at
  quoted_sloppy e = rw e

  pub quoted_goes : is_at 12 ts (i + 1) ≡ false → quoted_at st ts f i ≡ boost_at st ts (phrase_of f (tokenize (analyzer_of st f) (text_at ts i))) (i + 1)
  unfolding quoted_at
  quoted_goes e = rw e

pub leaf_some : (b : Bool) → leaf_kind b ≡ 0 → ⊥
leaf_some true e = omega arith
leaf_some false e = omega arith

pub leaf_faulty : (b : Bool) (st : Setup) (ts : List Token) (f : List ℕ) (i : ℕ) → is_at 12 ts (i + 1) ≡ true → leaf_at b st ts f i ≡ refused (faulty (leaf_fault b) (i + 1))
leaf_faulty true st ts f i e = plain_fuzzy st ts f i e
leaf_faulty false st ts f i e = quoted_sloppy st ts f i e

pub leaf_goes : (b : Bool) (st : Setup) (ts : List Token) (f : List ℕ) (i : ℕ) → is_at 12 ts (i + 1) ≡ false
    → leaf_at b st ts f i ≡ boost_at st ts (leaf_of b st.operator f (tokenize (analyzer_of st f) (text_at ts i))) (i + 1)
leaf_goes true st ts f i e = plain_goes st ts f i e
leaf_goes false st ts f i e = quoted_goes st ts f i e

-- the same of an analyzer and a text that are equal
pub leaf_same : (F : ℕ → List ℕ → Made) (len a b : ℕ) (t u : List ℕ) → a ≡ b → t ≡ u → len ≡ made_length (F a t) → len ≡ made_length (F b u)
leaf_same F len a b t u p q e = e ∙ ap (λ (x : ℕ). made_length (F x t)) p ∙ ap (λ (x : List ℕ). made_length (F b x)) q

pub leaf_within : {room : List ℕ} {n : ℕ} (R : Rowed room n) (i len : ℕ) → i < n → len ≤ 8 + 45 * length (text_at (tokens_of room n) i) → (g : Result Clause Met)
    → WithinBoost (tokens_of room n) n (i + 1) len g → WithinClause (tokens_of room n) n i g
leaf_within R i len h b (Err e) w = omega arith
leaf_within R i len h b (Ok c) w =
    let p = place_on R i h in
    let t = place_text R i h in
    (omega arith, w.1, omega (arith, w.2), omega (arith, w.2, w.3))

-- ---- brackets

module _ (st : Setup) (ts : List Token) (o : Read Kept) where
  pub close_fault : {x : Refusal} → o ≡ refused x → and_then (on_read query_found o) (closed_at st ts) ≡ refused x
  close_fault e = rw e

  pub close_missing : {cs : Clauses} {next : ℕ} → o ≡ got (kept cs next) → is_at 10 ts next ≡ false → and_then (on_read query_found o) (closed_at st ts) ≡ refused (faulty open_bracket next)
  unfolding closed_at
  close_missing e f = rw (e, f)

  pub close_goes : {cs : Clauses} {next : ℕ} → o ≡ got (kept cs next) → is_at 10 ts next ≡ true → and_then (on_read query_found o) (closed_at st ts) ≡ boost_at st ts (query_of cs) (next + 1)
  unfolding closed_at
  close_goes e f = rw (e, f)

pub bracket_within : {room : List ℕ} {n : ℕ} (R : Rowed room n) (i len : ℕ) (g : Counted) → i < n → g.next < n
    → WithinClauses (tokens_of room n) n (i + 1) (Ok g) → len ≤ 8 + g.sum.bytes → (r : Result Clause Met)
    → WithinBoost (tokens_of room n) n (g.next + 1) len r → WithinClause (tokens_of room n) n i r
bracket_within R i len g h k W b (Err e) w = omega arith
bracket_within R i len g h k W b (Ok c) w =
    let p = place_on R i h in
    let q = place_on R g.next k in
    (omega (arith, W.0), w.1, omega (arith, w.2, W.2), omega (arith, w.2, w.3, W.2, W.3))

-- ---- a body, by the kind of its first token

pub leaf_kinds : (t : ℕ) → 0 < t → t < 3 → (t ≡ 1) ⊎ (t ≡ 2)
leaf_kinds t h l = by (dec_lt t 2)
  where
    by : Dec (t < 2) → (t ≡ 1) ⊎ (t ≡ 2)
    by (yes x) = inl (omega arith)
    by (no x) = inr (omega arith)

module _ (st : Setup) (ts : List Token) (sub : List ℕ → ℕ → ℕ → Read Found) (f : List ℕ) (d i t : ℕ) (is : t ≡ (token_of ts i).kind) where
  at_kind : (k : ℕ) → t ≡ k → is_at k ts i ≡ true
  at_kind k e = eq-eqb _ _ (sym is ∙ e)

  at_other : (k : ℕ) → (t ≡ k → ⊥) → is_at k ts i ≡ false
  at_other k n = ne_eqb _ _ (λ e. n (is ∙ e))

  pub body_leaf : (t ≡ 1) ⊎ (t ≡ 2) → body_at st ts sub f d i ≡ leaf_at (eqb t 1) st ts f i
  unfolding body_at
  body_leaf (inl e) = rw (eq-eqb t 1 e, at_kind 1 e)
  body_leaf (inr e) = rw (ne_eqb t 1 (λ z. omega arith), at_other 1 (λ z. omega arith), at_other 9 (λ z. omega arith), at_kind 2 e)

  module _ (n1 : t ≡ 1 → ⊥) where
    pub body_open : t ≡ 9 → d < 24 → body_at st ts sub f d i ≡ and_then (sub f (d + 1) (i + 1)) (closed_at st ts)
    unfolding body_at bracket_at
    body_open e h = rw (at_other 1 n1, at_kind 9 e, lt-ltb d 24 h, add-one d)

    pub body_deep : t ≡ 9 → 24 ≤ d → body_at st ts sub f d i ≡ refused (faulty many_brackets i)
    unfolding body_at bracket_at
    body_deep e h = rw (at_other 1 n1, at_kind 9 e, le-ltb d 24 h)

    module _ (n9 : t ≡ 9 → ⊥) where
      pub body_end : (t ≡ 2 → ⊥) → t ≡ 0 → body_at st ts sub f d i ≡ refused (faulty unexpected_end i)
      unfolding body_at
      body_end n2 e = rw (at_other 1 n1, at_other 9 n9, at_other 2 n2, at_kind 0 e)

      pub body_other : (t ≡ 2 → ⊥) → (t ≡ 0 → ⊥) → body_at st ts sub f d i ≡ refused (faulty unexpected_token i)
      unfolding body_at
      body_other n2 n0 = rw (at_other 1 n1, at_other 9 n9, at_other 2 n2, at_other 0 n0)

-- ---- a clause, from its body

module _ {room : List ℕ} {n i from analyzer from' analyzer' i' : ℕ} (S : Started room n i from analyzer from' analyzer' i') where
  pub within_start : (g : Result Clause Met) → WithinClause (tokens_of room n) n i' g → WithinClause (tokens_of room n) n i g
  within_start (Err e) w = omega arith
  within_start (Ok c) w =
      let a = S.low in
      let b = S.place in
      (omega (arith, w.0), w.1, omega (arith, w.2), omega (arith, w.2, w.3))

  module _ (st : Setup) (default : List ℕ) (d : ℕ) (g : Result Clause Met) where
    pub meant_start : (answer : Read Found)
        → Says (λ k. body_at st (tokens_of room n) (λ g e h. on_read query_found (parse_clauses st (tokens_of room n) k g e none h)) (name_from room default from') d i') (n - i') answer
        → MeansFound g answer → MeantClause st (tokens_of room n) n (name_from room default from) d i g
    meant_start answer s m = record {
      answer = answer;
      says = λ k h. S.goes st _ default d ∙ s k (omega (arith, S.low));
      means = m;
    }
