-- A query's text is its own line and what it nests; a row of clauses, one at a time.
use mathlib.Core.Path.{◌≡◌, refl, sym, ap, ◌∙◌}
use Prim.Native.Nat.{ℕ, ◌+◌, ◌≤◌, ◌<◌}
use mathlib.Core.List.{List, [], ◌++◌, append-nil}
use mathlib.Core.Bool.{true}
use native.Mathlib.Omega.{arith}
use native.Mathlib.Numerals.{add-one}
use lib.ListN.{length, drop, length-drop}
use Rattle.rules.specs.Bytes.{tag_of, body_of, rest_of, whole_of}
use Rattle.rules.specs.Query.{Kind, must, should, must_not, filter, Query, term, phrase, boolean, boost, constant_score, match_all, match_none, range, Clauses}
use Rattle.rules.specs.Stored.{kind_tag, encode, encodes}
use Rattle.rules.specs.Checked.{Are, Stored, StoredClauses}
use Rattle.rules.specs.Show.{kind_name, line, no_kind, show, show_clauses}
use Rattle.rules.proofs.Stored.Parts.{more_empty, less_empty, body_shorter, length_rest}
use Rattle.rules.proofs.Stored.Views as views
use Rattle.rules.proofs.Stored.Inverse.{clauses_encodes}
use Rattle.show.specs.Node.{query_in, row_in, node, inside, kind_text, ToShow, ToShowAll}
use Rattle.show.proofs.Nodes.{depths_length, query_in_lem, stored_whole, boolean_at, boost_at_lem, score_at}

pub row_in_lem : {s : List ℕ} {cs : Clauses} → Are s cs → row_in s ≡ cs
unfolding row_in
row_in_lem {s} {cs} i = rw (← i.form, clauses_encodes cs (length (encodes cs)) i.valid (depths_length cs))

-- ---- a query

show_split : (d : ℕ) (k : List ℕ) (q : Query) → line d k (node q) ++ inside (d + 1) q ≡ show d k q
unfolding show node inside
show_split d k (term f t) = append-nil _
show_split d k (phrase f ws) = append-nil _
show_split d k (boolean m cs) = rw (add-one d)
show_split d k (boost b q) = rw (add-one d)
show_split d k (constant_score q) = rw (add-one d)
show_split d k match_all = append-nil _
show_split d k match_none = append-nil _
show_split d k (range n f l u) = append-nil _

pub whole_text_lem : (d : ℕ) (k s : List ℕ) {x : List ℕ} → x ≡ inside (d + 1) (query_in s) → line d k (node (query_in s)) ++ x ≡ show d k (query_in s)
whole_text_lem d k s e = ap {B = List ℕ} (λ y. line d k (node (query_in s)) ++ y) e ∙ show_split d k (query_in s)

module _ {s : List ℕ} (S : Stored s) {b : List ℕ} (eb : b ≡ body_of s) {t : ℕ} (et : t ≡ tag_of s) (e : ℕ) where
  inside_as : {q : Query} → S.query ≡ q → inside e q ≡ inside e (query_in s)
  inside_as h = ap (inside e) (sym (query_in_lem S.is ∙ h))

  module _ (h : t ≡ 3) where
    abbrev pub stored_row : StoredClauses (rest_of b)
    stored_row = let A = boolean_at S eb et h in record { clauses = A.clauses; are = record { valid = A.valid; form = A.form } }

    pub row_inside : show_clauses e (row_in (rest_of b)) ≡ inside e (query_in s)
    unfolding inside
    row_inside = ap (show_clauses e) (row_in_lem stored_row.are) ∙ inside_as (boolean_at S eb et h).is

  module _ (h : t ≡ 4) where
    abbrev pub stored_boosted : Stored (drop 4 b)
    stored_boosted = let A = boost_at_lem S eb et h in record { query = A.inner; is = record { valid = A.valid; form = A.form } }

    pub boosted_inside : show e (kind_text 0) (query_in (drop 4 b)) ≡ inside e (query_in s)
    unfolding inside kind_text
    boosted_inside = ap (show e no_kind) (query_in_lem stored_boosted.is) ∙ inside_as (boost_at_lem S eb et h).is

  module _ (h : t ≡ 5) where
    abbrev pub stored_scored : Stored b
    stored_scored = let A = score_at S eb et h in record { query = A.inner; is = record { valid = A.valid; form = A.form } }

    pub scored_inside : show e (kind_text 0) (query_in b) ≡ inside e (query_in s)
    unfolding inside kind_text
    scored_inside = ap (show e no_kind) (query_in_lem stored_scored.is) ∙ inside_as (score_at S eb et h).is

  pub nothing_inside : (t ≡ 3 → ⊥) → (t ≡ 4 → ⊥) → (t ≡ 5 → ⊥) → [] ≡ inside e (query_in s)
  unfolding inside encode
  nothing_inside n3 n4 n5 = by S.query S.is.form ∙ ap (inside e) (sym (query_in_lem S.is))
    where
      tagged : (q : Query) → encode q ≡ s → t ≡ tag_of (encode q)
      tagged q f = et ∙ ap tag_of (sym f)

      by : (q : Query) → encode q ≡ s → [] ≡ inside e q
      by (term f x) h = refl
      by (phrase f ws) h = refl
      by (boolean m cs) h = absurd (n3 (tagged (boolean m cs) h))
      by (boost b q) h = absurd (n4 (tagged (boost b q) h))
      by (constant_score q) h = absurd (n5 (tagged (constant_score q) h))
      by match_all h = refl
      by match_none h = refl
      by (range n f l u) h = refl

-- what each nested part is to be shown from: it is shorter than what is around it
module _ {d : ℕ} {s : List ℕ} (T : ToShow d s) {b : List ℕ} (eb : b ≡ body_of s) {t : ℕ} (et : t ≡ tag_of s) where
  body_length : length b + 3 ≤ length s
  body_length = rw eb (body_shorter s (stored_whole T.stored))

  module _ {r : List ℕ} (h : t ≡ 3) (er : r ≡ rest_of b) where
    pub row_shorter : length r < length s
    row_shorter = let l = body_length in rw er (omega (arith, length_rest b))

    pub row_to_show : ToShowAll (d + 1) r
    row_to_show = record { stored = rw er (stored_row T.stored eb et 0 h); low = omega (arith, T.low, row_shorter) }

  module _ {r : List ℕ} (h : t ≡ 4) (er : r ≡ drop 4 b) where
    pub boosted_shorter : length r < length s
    boosted_shorter = let l = body_length in rw er (omega (arith, length-drop 4 b))

    pub boosted_to_show : ToShow (d + 1) r
    boosted_to_show = record { stored = rw er (stored_boosted T.stored eb et 0 h); low = omega (arith, T.low, boosted_shorter) }

  module _ (h : t ≡ 5) where
    pub scored_shorter : length b < length s
    scored_shorter = let l = body_length in omega arith

    pub scored_to_show : ToShow (d + 1) b
    scored_to_show = record { stored = stored_scored T.stored eb et 0 h; low = omega (arith, T.low, scored_shorter) }

-- ---- a row of clauses

kind_text_lem : (k : Kind) → kind_text (kind_tag k) ≡ kind_name k
unfolding kind_text
kind_text_lem must = refl
kind_text_lem should = refl
kind_text_lem must_not = refl
kind_text_lem filter = refl

module _ {t : List ℕ} (S : StoredClauses t) (h : 0 < length t) where
  pub front : views.Front t S.clauses
  front = views.front_of t S.clauses (more_empty t h) S.are.form S.are.valid

  pub clause_whole : whole_of t ≡ true
  clause_whole = front.whole

  abbrev pub clause_stored : Stored (body_of t)
  clause_stored = record { query = front.query; is = record { valid = front.valid; form = front.form } }

  abbrev pub others_stored : StoredClauses (rest_of t)
  others_stored = record { clauses = front.others; are = record { valid = front.valid_others; form = front.form_others } }

  pub clause_next : (d : ℕ) → show_clauses d (row_in t) ≡ show d (kind_text (tag_of t)) (query_in (body_of t)) ++ show_clauses d (row_in (rest_of t))
  unfolding show_clauses
  clause_next d =
      ap (show_clauses d) (row_in_lem S.are ∙ front.split)
      ∙ rw (query_in_lem clause_stored.is, row_in_lem others_stored.are, front.tag, kind_text_lem front.kind)

module _ {d : ℕ} {cs t b : List ℕ} (T : ToShowAll d cs) (S : StoredClauses t) (h : 0 < length t) (l : length t ≤ length cs) (eb : b ≡ body_of t) where
  pub clause_shorter : length b < length cs
  clause_shorter = rw eb (omega (arith, body_shorter t (clause_whole S h)))

  pub clause_to_show : ToShow d b
  clause_to_show = record { stored = rw eb (clause_stored S h); low = omega (arith, T.low, clause_shorter) }

pub clauses_done : {t : List ℕ} (S : StoredClauses t) → length t ≤ 0 → (d : ℕ) → show_clauses d (row_in t) ≡ []
unfolding show_clauses
clauses_done {t} S h d = ap (show_clauses d) (row_in_lem S.are ∙ views.no_front t S.clauses (less_empty t h) S.are.form)
