-- The walk through a stored query: each of its moves keeps what the whole query comes to.
use mathlib.Core.Path.{◌≡◌, refl, sym, ap, ◌∙◌, subst, subst₂}
use Prim.Native.Nat.{ℕ, ◌+◌, ◌-◌, ◌≤◌, ◌<◌}
use mathlib.Core.List.{List}
use mathlib.Core.Bool.{Bool, true, false, ◌&&◌, ◌||◌}
use native.Mathlib.Omega.{arith}
use lib.ListN.{length, get_or, take, drop, set, length-take, length-drop}
use lib.Seq.{take-take, take_all, drop-drop, get_or-set_same, get_or-set_other}
use lib.Dec.{leb, eqb}
use borrow.Author.Tests.{eqb-true, leb-true}
use Rattle.rules.specs.Numbers.{boolean_tag, boost_tag, constant_score_tag, minimum_tag, should_tag, must_not_tag, selection_depth}
use Rattle.rules.specs.Bytes.{of_big, tag_of, size_of, body_of, rest_of, whole_of}
use Rattle.rules.specs.Query.{Kind, Query, Clauses, none, clause, depth, depths}
use Rattle.rules.specs.Reading.{kind_of}
use Rattle.rules.specs.Checked.{Is, Are, Stored, StoredClauses}
use Rattle.rules.specs.Lists.{Entry}
use Rattle.rules.specs.Matching.{allows, matches}
use Rattle.rules.proofs.Bools.{and_l, and_r, and_no_l}
use Rattle.rules.proofs.Stored.Parts.{less_empty, more_empty, length_body, length_whole, whole_le, part_is}
use Rattle.rules.proofs.Stored.Tags.{kind_back}
use Rattle.rules.proofs.Stored.Equal.{encode_injective}
use Rattle.rules.proofs.Stored.Views.{View, viewed, at_tag, AsBoolean, as_boolean, as_boost, as_constant_score, Front, front_of, no_front}
use Rattle.stretches.proofs.Joining.{drop_take}
use Rattle.matching.specs.declared.level.Level.{Level}
use Rattle.std.specs.declared.ops.ControlFlow.{ControlFlow}
use Rattle.std.specs.declared.ops.ControlFlow.TheVariants.{Continue, Break}
use Rattle.matching.specs.declared.truth.Place.{Place}
use Rattle.matching.specs.Level.{no_level, answered, is_over, carries, after}
use Rattle.matching.specs.Truth.{Truth, StoredFor, is_open, cut, Open, outside, inside, outcome, At, AtClause, Leads, Over, Decides, Idle, Past}
use Rattle.matching.proofs.Levels.{over_parts, carries_all, carries_clause, carries_none, carries_should, carries_optional}

-- ---- stretches of a list

module _ (s : List ℕ) where
  pub cut_drop : (k a e : ℕ) → drop k (cut s a e) ≡ cut s (a + k) e
  cut_drop k a e =
      let z : e - a - k ≡ e - (a + k) = omega arith in
      drop_take k (e - a) (drop a s) ∙ ap (take (e - a - k)) (drop-drop k a s) ∙ ap (λ (m : ℕ). take m (drop (a + k) s)) z

  cut_take : (k a e : ℕ) → a + k ≤ e → take k (cut s a e) ≡ cut s a (a + k)
  cut_take k a e h =
      let z : k ≡ a + k - a = omega arith in
      take-take k (e - a) (drop a s) (omega arith) ∙ ap (λ (m : ℕ). take m (drop a s)) z

  pub cut_length : (a e : ℕ) → e ≤ length s → length (cut s a e) ≡ e - a
  cut_length a e h = simp (length-take, length-drop) (omega arith)

  pub cut_all : cut s 0 (length s) ≡ s
  cut_all = take_all (length s - 0) (drop 0 s) (simp length-drop (omega arith))

  -- a part at the front of a stretch
  module _ (a e : ℕ) (w : whole_of (cut s a e) ≡ true) (h : e ≤ length s) where
    part_ends : a + 3 + size_of (cut s a e) ≤ e
    part_ends = let l = whole_le (cut s a e) w in let k = cut_length a e h in omega arith

    cut_body : body_of (cut s a e) ≡ cut s (a + 3) (a + 3 + size_of (cut s a e))
    unfolding body_of
    cut_body = ap (take (size_of (cut s a e))) (cut_drop 3 a e) ∙ cut_take (size_of (cut s a e)) (a + 3) e part_ends

    cut_rest : rest_of (cut s a e) ≡ cut s (a + 3 + size_of (cut s a e)) e
    unfolding rest_of
    cut_rest = ap (drop (size_of (cut s a e))) (cut_drop 3 a e) ∙ cut_drop (size_of (cut s a e)) (a + 3) e

-- ---- the row of open Booleans

module _ {s : List ℕ} {row : List Level} where
  pub open_end : {n e : ℕ} → Open s row n e → e ≤ length s
  open_end (outside h k) = omega arith
  open_end (inside d l cs h k a f m o) = let i = open_end o in omega arith

  pub open_few : {n e : ℕ} → Open s row n e → n ≤ selection_depth
  open_few (outside h k) = omega arith
  open_few (inside d l cs h k a f m o) = omega arith

-- a row that is the same below n
keep : {s : List ℕ} {row : List Level} (new : List Level) {n e : ℕ} → ((i : ℕ) → i < n → get_or new i no_level ≡ get_or row i no_level) → Open s row n e → Open s new n e
keep new same (outside h k) = outside h k
keep new same (inside d l cs h k a f m o) =
    inside d l cs h (same d (omega arith) ∙ k) a f m (keep new (λ i j. same i (omega arith)) o)

keep_outcome : (es : List Entry) {s : List ℕ} {row : List Level} (new : List Level) {n e : ℕ} (same : (i : ℕ) → i < n → get_or new i no_level ≡ get_or row i no_level) (o : Open s row n e) (y : Bool)
    → outcome es (keep new same o) y ≡ outcome es o y
unfolding keep outcome
keep_outcome es new same (outside h k) y = refl
keep_outcome es new same (inside d l cs h k a f m o) y = keep_outcome es new (λ i j. same i (omega arith)) o (after es l y cs)

-- the innermost Boolean, at d in the row
pub record Innermost (s : List ℕ) (row : List Level) {n e : ℕ} (o : Open s row n e) (d : ℕ) (l : Level) : Type 0 where
  pub clauses : Clauses
  pub are : Are (cut s e l.end) clauses
  pub fits : e ≤ l.end
  pub deep : depths clauses + n ≤ selection_depth
  pub around : Open s row d l.end
  pub value : (es : List Entry) (y : Bool) → outcome es o y ≡ outcome es around (after es l y clauses)

pub innermost : {s : List ℕ} {row : List Level} {n e : ℕ} (o : Open s row n e) (d : ℕ) (l : Level) → n ≡ d + 1 → l ≡ get_or row d no_level → Innermost s row o d l
unfolding outcome
innermost (outside h k) d l p q = absurd (omega arith)
innermost {s} {row} {n} {e} (inside c m cs h k a f g o) d l p q =
    let cd : c ≡ d = omega arith in
    let ml : m ≡ l = sym k ∙ ap (λ (i : ℕ). get_or row i no_level) cd ∙ sym q in
    subst₂ (λ (x : ℕ) (y : Level). Innermost s row (inside c m cs h k a f g o) x y) cd ml
    (record { clauses = cs; are = a; fits = f; deep = g; around = o; value = λ es y. refl })

-- ---- the moves

pub leads_on : (es : List Entry) (s : List ℕ) (row : List Level) {from to : ℕ} {v w : Bool} (r : ControlFlow Bool Place) → from ≤ to → v ≡ w → Leads es s row to w r → Leads es s row from v r
leads_on es s row (Break x) h e l = e ∙ l
leads_on es s row (Continue p) h e l = let k = l.0 in (omega arith, (l.1.0, e ∙ l.1.1))

-- to a clause: its level is laid in the row, and its query is next
module _ {s : List ℕ} {row : List Level} {n at end : ℕ} (t : AtClause s row n at end) where
  within : end ≤ length s
  within = open_end t.around

  pub clause_in : Front (cut s at end) t.clauses
  clause_in =
      let f = t.fits in
      let l : 0 < length (cut s at end) = let k = cut_length s at end within in omega arith in
      front_of (cut s at end) t.clauses (more_empty (cut s at end) l) t.are.form t.are.valid

  pub clause_ends : at + 3 + size_of (cut s at end) ≤ end
  clause_ends = part_ends s at end clause_in.whole within

-- l at a clause with the tag k
abbrev pub at_kind : Level → ℕ → Level
at_kind l k = record { end = l.end; asked = l.asked; met = l.met; kind = k }

module _ {s : List ℕ} {row : List Level} {n at : ℕ} (l : Level) (t : AtClause s row n at l.end) (v : Level) (z : ℕ) (low : n < length row)
    (ev : v ≡ at_kind l (tag_of (cut s at l.end))) (ez : z ≡ size_of (cut s at l.end)) where
  stretch : List ℕ
  stretch = cut s at l.end

  front : Front (cut s at l.end) t.clauses
  front = clause_in t

  same_below : (i : ℕ) → i < n → get_or (set row n v) i no_level ≡ get_or row i no_level
  same_below i h = get_or-set_other row n i v no_level (λ e. omega arith)

  deep_clauses : (depth front.query + (n + 1) ≤ selection_depth) × (depths front.others + (n + 1) ≤ selection_depth)
  unfolding depth
  deep_clauses = let d = rw front.split at t.deep in (omega arith, omega arith)

  opened : Open s (set row n v) (n + 1) (at + 3 + z)
  opened =
      inside {n = n + 1} {e = at + 3 + z} n (at_kind l (tag_of (cut s at l.end))) front.others refl (get_or-set_same row n v no_level low ∙ ev)
      (record {
        valid = front.valid_others;
        form = front.form_others ∙ rw ez (cut_rest s at l.end front.whole (within t));
      })
      (rw ez (clause_ends t))
      deep_clauses.1
      (keep (set row n v) same_below t.around)

  clause_value : (es : List Entry) → outcome es t.around (carries es l.asked l.met t.clauses) ≡ outcome es opened (matches es front.query)
  unfolding opened outcome
  clause_value es =
      let k : kind_of (tag_of (cut s at l.end)) ≡ front.kind = ap kind_of front.tag ∙ kind_back front.kind in
      let m = at_kind l (tag_of (cut s at l.end)) in
      ap (outcome es t.around)
      (ap (carries es l.asked l.met) (front.split ∙ ap (λ (x : Kind). clause x front.query front.others) (sym k))
      ∙ carries_clause es m front.query front.others)
      ∙ sym (keep_outcome es (set row n v) same_below t.around (after es m (matches es front.query) front.others))

  pub clause_leads : (es : List Entry)
      → Leads es s (set row n v) at (outcome es t.around (carries es l.asked l.met t.clauses)) (Continue (record { depth = n + 1; at = at + 3; end = at + 3 + z }))
  clause_leads es = (
    omega arith,
    (
      record {
        query = front.query;
        is = record { valid = front.valid; form = front.form ∙ rw ez (cut_body s at l.end front.whole (within t)) };
        fits = omega arith;
        deep = deep_clauses.0;
        around = opened;
      },
      clause_value es,
    ),
  )

-- past clauses that change nothing
pub past_none : (es : List Entry) (s : List ℕ) (at end : ℕ) (over : Bool) → at ≤ end → Past es s at end over at
past_none es s at end over h = record {
  later = omega arith;
  fits = h;
  left = λ cs a. record { clauses = cs; are = a; deep = omega arith; alike = λ asked met o. refl };
}

-- the clause at the front of a stretch
module _ {s : List ℕ} (c : StoredClauses s) (more : 0 < length s) where
  clauses_front : Front s c.clauses
  clauses_front = front_of s c.clauses (more_empty s more) c.are.form c.are.valid

  pub clause_whole : whole_of s ≡ true
  clause_whole = clauses_front.whole

  pub clause_stored : Stored (body_of s)
  clause_stored = record { query = clauses_front.query; is = record { valid = clauses_front.valid; form = clauses_front.form } }

module _ (es : List Entry) {s : List ℕ} (more : 0 < length s) {k : ℕ} (ek : k ≡ tag_of s) where
  idle_by : {over : Bool} → ((q : Query) (cs : Clauses) → Is (body_of s) q → (asked : ℕ) (met : Bool) → Over over asked met
      → carries es asked met (clause (kind_of k) q cs) ≡ carries es asked met cs) → Idle es over s
  unfolding depth
  idle_by h cs a =
      let F = front_of s cs (more_empty s more) a.form a.valid in
      let i : F.kind ≡ kind_of k = sym (kind_back F.kind) ∙ ap kind_of (sym F.tag ∙ sym ek) in
      let e : cs ≡ clause (kind_of k) F.query F.others = F.split ∙ ap (λ (x : Kind). clause x F.query F.others) i in
      let d = ap depths e in
      record {
        clauses = F.others;
        are = record { valid = F.valid_others; form = F.form_others };
        deep = omega arith;
        alike = λ asked met o. ap (carries es asked met) e ∙ h F.query F.others (record { valid = F.valid; form = F.form }) asked met o;
      }

  pub idle_spare : {over : Bool} → (over && eqb k should_tag) ≡ true → Idle es over s
  idle_spare {over} h = idle_by (λ q cs i asked met o.
      let z = o (and_l over (eqb k should_tag) h) in
      let t : k ≡ should_tag = eqb-true k should_tag (and_r over (eqb k should_tag) h) in
      rw (z.0, z.1, t) (carries_should es q cs))

  pub idle_missing : {over : Bool} → (eqb k should_tag || eqb k must_not_tag) ≡ true → Truth (body_of s) es false → Idle es over s
  unfolding Truth
  idle_missing h T = idle_by (λ q cs i asked met o. carries_optional es k q cs asked met h (sym (T q i)))

module _ {es : List Entry} {s : List ℕ} {at end p : ℕ} {over : Bool} (P : Past es s at end over p) (more : p < end) (h : end ≤ length s) where
  pub past_long : 0 < length (cut s p end)
  past_long = let k = cut_length s p end h in omega arith

  module _ (c : StoredClauses (cut s at end)) where
    pub past_stored : StoredClauses (cut s p end)
    past_stored = let D = P.left c.clauses c.are in record { clauses = D.clauses; are = D.are }

    pub past_whole : whole_of (cut s p end) ≡ true
    past_whole = clause_whole past_stored past_long

    pub past_ends : p + 3 + size_of (cut s p end) ≤ end
    past_ends = part_ends s p end past_whole h

    pub past_next : {n : ℕ} → Idle es over (cut s p end) → n ≡ p + 3 + size_of (cut s p end) → Past es s at end over n
    past_next I en = rw en (record {
      later = let k = P.later in omega arith;
      fits = past_ends;
      left = λ cs a.
          let D = P.left cs a in
          let E = I D.clauses D.are in
          record {
            clauses = E.clauses;
            are = record { valid = E.are.valid; form = E.are.form ∙ cut_rest s p end past_whole h };
            deep = let x = D.deep in let y = E.deep in omega arith;
            alike = λ asked met o. D.alike asked met o ∙ E.alike asked met o;
          };
    })

-- the clauses from `at` to `end`, gone past as far as t
pub record Passed (es : List Entry) (s : List ℕ) (at end : ℕ) (over : Bool) (t : List ℕ) : Type 0 where
  pub past : Past es s at end over (end - length t)
  pub is : t ≡ cut s (end - length t) end

pub passed_none : (es : List Entry) (s : List ℕ) (at end : ℕ) (over : Bool) → at ≤ end → end ≤ length s → Passed es s at end over (cut s at end)
passed_none es s at end over h l =
    let e : end - length (cut s at end) ≡ at = let k = cut_length s at end l in omega arith in
    record { past = rw e (past_none es s at end over h); is = ap (λ (p : ℕ). cut s p end) (sym e) }

module _ {es : List Entry} {s t : List ℕ} {at end : ℕ} {over : Bool} (P : Passed es s at end over t) (more : 0 < length t) (h : end ≤ length s) where
  some_left : end - length t < end
  some_left = let k = ap length P.is ∙ cut_length s (end - length t) end h in omega arith

  module _ (c : StoredClauses (cut s at end)) where
    pub passed_stored : StoredClauses t
    passed_stored = rw P.is (past_stored P.past some_left h c)

    pub passed_whole : whole_of t ≡ true
    passed_whole = clause_whole passed_stored more

    pub passed_next : {u : List ℕ} → Idle es over t → u ≡ rest_of t → Passed es s at end over u
    passed_next {u} I eu =
        let w = past_whole P.past some_left h c in
        let is = ap rest_of P.is ∙ cut_rest s (end - length t) end w h in
        let k = ap length P.is ∙ cut_length s (end - length t) end h in
        let n = ap size_of P.is in
        let l = ap length eu in
        let j = length_whole t passed_whole in
        let b = length_body t passed_whole in
        let e : end - length u ≡ end - length t + 3 + size_of (cut s (end - length t) end) = omega arith in
        record {
          past = past_next P.past some_left h c (let f = λ (v : List ℕ). Idle es over v in subst f P.is I) e;
          is = eu ∙ is ∙ ap (λ (p : ℕ). cut s p end) (sym e);
        }

-- back to the innermost Boolean, at d in the row, with the answer y to its clause
module _ {s : List ℕ} {row : List Level} {n e d : ℕ} {l : Level} {o : Open s row n e} (I : Innermost s row o d l) (y : Bool) where
  denied_value : allows (kind_of l.kind) y ≡ false → (es : List Entry) → outcome es o y ≡ outcome es I.around false
  denied_value h es = I.value es y ∙ ap (outcome es I.around) (and_no_l _ h)

  next_value : allows (kind_of l.kind) y ≡ true → (es : List Entry)
      → outcome es o y ≡ outcome es I.around (carries es (answered l y).asked (answered l y).met I.clauses)
  next_value h es = I.value es y ∙ ap (outcome es I.around) (rw h)

-- on the way back from o, where the query was x: the query that ends at e is y
pub record Back (es : List Entry) (s : List ℕ) (row : List Level) (n e : ℕ) (y : Bool) {old : List Level} {m a : ℕ} (o : Open s old m a) (x : Bool) : Type 0 where
  pub around : Open s row n e
  pub later : a ≤ e
  pub value : outcome es o x ≡ outcome es around y

pub back_start : (es : List Entry) {s : List ℕ} {row : List Level} {m a : ℕ} (o : Open s row m a) (x : Bool) → Back es s row m a x o x
back_start es o x = record { around = o; later = omega arith; value = refl }

-- the value of a clause's place, as its level is known
pub record Next-clause (es : List Entry) (s : List ℕ) (row : List Level) (d e : ℕ) (l : Level) (v : Bool) : Type 0 where
  pub place : AtClause s row d e l.end
  pub value : v ≡ outcome es place.around (carries es l.asked l.met place.clauses)

module _ {es : List Entry} {s : List ℕ} {old row : List Level} {m a : ℕ} {o : Open s old m a} {x : Bool} {n e : ℕ} {y : Bool} (B : Back es s row n e y o x)
    (d : ℕ) (l : Level) (p : n ≡ d + 1) (q : l ≡ get_or row d no_level) where
  inner : Innermost s row B.around d l
  inner = innermost B.around d l p q

  pub back_denied : allows (kind_of l.kind) y ≡ false → Back es s row d l.end false o x
  back_denied h = record {
    around = inner.around;
    later = let f = inner.fits in let g = B.later in omega arith;
    value = B.value ∙ denied_value inner y h es;
  }

  -- its clauses, from the end of the query that was answered on
  pub back_clauses : StoredClauses (cut s e l.end) × (e ≤ l.end) × (l.end ≤ length s)
  back_clauses = (record { clauses = inner.clauses; are = inner.are }, inner.fits, open_end inner.around)

  module _ {k : Level} (ek : k ≡ answered l y) {g : ℕ} {over : Bool} (eo : over ≡ is_over k) (P : Past es s e l.end over g)
      (t : allows (kind_of l.kind) y ≡ true) where
    kept : Decides es over inner.clauses (cut s g l.end)
    kept = P.left inner.clauses inner.are

    past_value : outcome es o x ≡ outcome es inner.around (carries es (answered l y).asked (answered l y).met kept.clauses)
    past_value =
        B.value ∙ next_value inner y t es
        ∙ ap (outcome es inner.around) (kept.alike (answered l y).asked (answered l y).met (λ z. over_parts (answered l y) (sym (eo ∙ ap is_over ek) ∙ z)))

    pub back_over : l.end ≤ g → Back es s row d l.end over o x
    back_over h =
        let i : length (cut s g l.end) ≤ 0 = let j = cut_length s g l.end (open_end inner.around) in omega arith in
        let c : kept.clauses ≡ none = no_front (cut s g l.end) kept.clauses (less_empty (cut s g l.end) i) kept.are.form in
        rw (eo ∙ ap is_over ek) (record {
          around = inner.around;
          later = let f = inner.fits in let b = B.later in omega arith;
          value = past_value ∙ ap (outcome es inner.around)
              (ap (carries es (answered l y).asked (answered l y).met) c ∙ carries_none es (answered l y).asked (answered l y).met);
        })

    -- to its next clause
    pub back_clause : g < l.end → Next-clause es s row d g k (outcome es o x)
    back_clause h = rw ek (record {
      place = record {
        clauses = kept.clauses;
        are = kept.are;
        fits = h;
        deep = let m = inner.deep in let f = kept.deep in omega arith;
        around = inner.around;
      };
      value = past_value;
    })

pub back_end : {es : List Entry} {s : List ℕ} {old row : List Level} {m a : ℕ} {o : Open s old m a} {x : Bool} {n e : ℕ} {y : Bool} (B : Back es s row n e y o x) → n ≡ 0
    → outcome es o x ≡ y
unfolding outcome
back_end {es = es} {y = y} B h = B.value ∙ go B.around h
  where
    go : {s : List ℕ} {row : List Level} {n e : ℕ} (o : Open s row n e) → n ≡ 0 → outcome es o y ≡ y
    go (outside h k) z = refl
    go (inside d l cs h k a f m o) z = absurd (omega arith)

-- ---- from a query

module _ {s : List ℕ} {row : List Level} {n at end : ℕ} (t : At s row n at end) where
  pub at_whole : whole_of (cut s at end) ≡ true
  at_whole = (viewed t.query (cut s at end) t.is.form).whole

  pub at_end : end ≤ length s
  at_end = open_end t.around

  pub at_length : length (cut s at end) ≡ end - at
  at_length = cut_length s at end at_end

  -- its body is all behind the header
  at_body : body_of (cut s at end) ≡ cut s (at + 3) end
  at_body =
      let e : at + 3 + size_of (cut s at end) ≡ end =
      (let l = length_whole (cut s at end) at_whole in
      let r : length (rest_of (cut s at end)) ≡ 0 = ap length (viewed t.query (cut s at end) t.is.form).rest in
      let b = length_body (cut s at end) at_whole in
      let k = at_length in
      let f = t.fits in
      omega arith) in
      cut_body s at end at_whole at_end ∙ ap (cut s (at + 3)) e

  seen : (h : ℕ) → tag_of (cut s at end) ≡ h → View h (cut s (at + 3) end) t.query
  seen h e = at_tag (cut s at end) (cut s (at + 3) end) h t.query e (sym at_body) t.is.form

  -- a Boost, a ConstantScore: to the query inside, which is the same
  to_inner : (q : Query) (k : ℕ) → Is (cut s (at + k) end) q → 0 < k → k ≤ end - at → depth q + n ≤ selection_depth
      → (es : List Entry) → matches es t.query ≡ matches es q
      → Leads es s row at (outcome es t.around (matches es t.query)) (Continue (record { depth = n; at = at + k; end = end }))
  to_inner q k i h l d es e =
      let f = t.fits in
      (omega arith, (record { query = q; is = i; fits = omega arith; deep = d; around = t.around }, ap (outcome es t.around) e))

  pub to_boosted : tag_of (cut s at end) ≡ boost_tag → (es : List Entry)
      → Leads es s row at (outcome es t.around (matches es t.query)) (Continue (record { depth = n; at = at + 7; end = end }))
  unfolding matches depth
  to_boosted h es =
      let A = as_boost (seen boost_tag h) t.is.valid in
      let e : at + 3 + 4 ≡ at + 7 = omega arith in
      let d = rw A.is at t.deep in
      to_inner A.inner 7 (record { valid = A.valid; form = A.form ∙ cut_drop s 4 (at + 3) end ∙ ap (λ (a : ℕ). cut s a end) e })
      (omega arith)
      (let l = A.long in let k = cut_length s (at + 3) end at_end in omega arith)
      (omega arith) es (ap (matches es) A.is)

  pub to_constant : tag_of (cut s at end) ≡ constant_score_tag → (es : List Entry)
      → Leads es s row at (outcome es t.around (matches es t.query)) (Continue (record { depth = n; at = at + 3; end = end }))
  unfolding matches depth
  to_constant h es =
      let A = as_constant_score (seen constant_score_tag h) t.is.valid in
      let d = rw A.is at t.deep in
      to_inner A.inner 3 (record { valid = A.valid; form = A.form })
      (omega arith)
      (let w = whole_le (cut s at end) at_whole in let k = at_length in omega arith)
      (omega arith) es (ap (matches es) A.is)

  -- a Boolean: to its first clause
  module _ (opens : is_open (cut s at end) ≡ true) where
    h : tag_of (cut s at end) ≡ boolean_tag
    h = eqb-true (tag_of (cut s at end)) boolean_tag (and_l (eqb (tag_of (cut s at end)) boolean_tag) (leb 9 (length (cut s at end))) opens)

    pub open_long : at + 8 < end
    open_long =
        let l = leb-true 9 (length (cut s at end)) (and_r (eqb (tag_of (cut s at end)) boolean_tag) (leb 9 (length (cut s at end))) opens) in
        let k = at_length in
        omega arith

    shown : AsBoolean (cut s (at + 3) end) t.query
    shown = as_boolean (seen boolean_tag h) t.is.valid

    minimum_whole : whole_of (cut s (at + 3) end) ≡ true
    minimum_whole = (part_is minimum_tag (cut s (at + 3) end) shown.minimum).0

    minimum_size : size_of (cut s (at + 3) end) ≡ 2
    minimum_size = sym (length_body (cut s (at + 3) end) minimum_whole) ∙ shown.two

    minimum_at : body_of (cut s (at + 3) end) ≡ take 2 (drop 6 (cut s at end))
    unfolding body_of
    minimum_at =
        let e : at + 3 + 3 ≡ at + 6 = omega arith in
        ap (λ (k : ℕ). take k (drop 3 (cut s (at + 3) end))) minimum_size
        ∙ ap (take 2) (cut_drop s 3 (at + 3) end ∙ ap (λ (a : ℕ). cut s a end) e ∙ sym (cut_drop s 6 at end))

    clauses_at : rest_of (cut s (at + 3) end) ≡ cut s (at + 8) end
    unfolding rest_of
    clauses_at =
        let e : at + 3 + 3 + 2 ≡ at + 8 = omega arith in
        ap (λ (k : ℕ). drop k (drop 3 (cut s (at + 3) end))) minimum_size
        ∙ ap (drop 2) (cut_drop s 3 (at + 3) end) ∙ cut_drop s 2 (at + 3 + 3) end ∙ ap (λ (a : ℕ). cut s a end) e

    clauses_are : Are (cut s (at + 8) end) shown.clauses
    clauses_are = record { valid = shown.valid; form = shown.form ∙ clauses_at }

    boolean_value : (es : List Entry) (asked : ℕ) → asked ≡ of_big (take 2 (drop 6 (cut s at end)))
        → matches es t.query ≡ carries es asked false shown.clauses
    boolean_value es asked e =
        ap (matches es) shown.is ∙ carries_all es _ shown.clauses
        ∙ ap (λ (m : ℕ). carries es m false shown.clauses) (ap of_big minimum_at ∙ sym e)

    pub to_clause : (es : List Entry) (asked : ℕ) → asked ≡ of_big (take 2 (drop 6 (cut s at end)))
        → Next-clause es s row n (at + 8) (record { end = end; asked = asked; met = false; kind = 0 }) (outcome es t.around (matches es t.query))
    unfolding depth
    to_clause es asked e =
        let d = rw shown.is at t.deep in
        record {
          place = record { clauses = shown.clauses; are = clauses_are; fits = open_long; deep = omega arith; around = t.around };
          value = ap (outcome es t.around) (boolean_value es asked e);
        }

-- ---- the whole walk

pub record Standing (es : List Entry) (s : List ℕ) (row : List Level) (n at end : ℕ) : Type 0 where
  pub place : At s row n at end
  pub value : (q : Query) → Is s q → matches es q ≡ outcome es place.around (matches es place.query)

pub is_one_lem : {s : List ℕ} (p q : Query) → Is s p → Is s q → p ≡ q
is_one_lem p q i j = encode_injective p q i.valid j.valid (i.form ∙ sym j.form)

pub standing_first : (es : List Entry) {s : List ℕ} (row : List Level) → StoredFor s → Standing es s row 0 0 (length s)
unfolding outcome
standing_first es {s} row c = record {
  place = record {
    query = c.stored.query;
    is = record { valid = c.stored.is.valid; form = c.stored.is.form ∙ sym (cut_all s) };
    fits = omega arith;
    deep = let d = c.deep in omega arith;
    around = outside refl refl;
  };
  value = λ q i. ap (matches es) (is_one_lem q c.stored.query i c.stored.is);
}

module _ {es : List Entry} {s : List ℕ} {row : List Level} (new : List Level) {n at end : ℕ} (S : Standing es s row n at end) (r : ControlFlow Bool Place)
    (L : Leads es s new at (outcome es S.place.around (matches es S.place.query)) r) where
  pub standing_done : (y : Bool) → r ≡ Break y → Truth s es y
  unfolding Truth
  standing_done y e q i = sym (S.value q i ∙ rw e at L)

  pub standing_next : (p : Place) → r ≡ Continue p → (at < p.at) × Standing es s new p.depth p.at p.end
  standing_next p e = let N = rw e at L in (N.0, record { place = N.1.0; value = λ q i. S.value q i ∙ N.1.1 })
