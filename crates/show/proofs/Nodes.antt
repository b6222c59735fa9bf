-- Bodies of stored queries, and the text of each.
use mathlib.Core.Path.{◌≡◌, sym, ap, ◌∙◌}
use Prim.Native.Nat.{ℕ, ◌≤◌, ◌<◌}
use mathlib.Core.List.{List, [], ◌++◌}
use mathlib.Core.Bool.{true}
use native.Mathlib.Omega.{arith}
use lib.ListN.{length, take}
use lib.Seq.{length-take-le, take-length}
use Rattle.rules.specs.Numbers.{field_tag, text_tag, word_tag, open_tag, included_tag, excluded_tag, minimum_tag}
use Rattle.rules.specs.Bytes.{Bytes, ascii, big, of_big, tag_of, body_of, rest_of, whole_of, is_field_part, each}
use Rattle.rules.specs.Query.{Numbers, whole, float, Query, term, phrase, boolean, boost, constant_score, match_all, match_none, range, Clauses, none, clause, depth, depths}
use Rattle.rules.specs.Stored.{range_tag, encode, encodes}
use Rattle.rules.specs.Reading.{is_word, word_of, is_bound, bound_of}
use Rattle.rules.specs.Checked.{Is, Stored}
use Rattle.rules.specs.Show.{hex, shown_field, shown_words, shown_bound, shown_numbers}
use Rattle.rules.proofs.Stored.Bigs.{write_big}
use Rattle.rules.proofs.Stored.Parts.{part_is, field_is, bytes_body, bytes_take, more_empty, less_empty}
use Rattle.rules.proofs.Stored.Rows.{each_next, each_done}
use Rattle.rules.proofs.Stored.Leaves.{word_is, BoundIs, is_open_lem, is_included, is_excluded, bound_is, at_open, at_included, at_excluded}
use Rattle.rules.proofs.Stored.Tags.{QueryTag, t_term, t_phrase, t_boolean, t_boost, t_constant_score, t_match_all, t_match_none, t_range}
use Rattle.rules.proofs.Stored.Views as views
use Rattle.rules.proofs.Stored.Inverse.{decode_encode}
use Rattle.rules.proofs.Stored.Sizes.{length_encode, length_boolean, length_boost, length_constant_score, length_clause}
use Rattle.show.specs.Node.{query_in, node, HoldsTerm, term_text, word_text, HoldsPhrase, phrase_text, HoldsMinimum, boolean_text, boost_text, range_name, HoldsRange, range_text}

-- ---- the query of stored bytes

mutual
  unfolding depth

  -- a query is no deeper than its stored form is long
  pub depth_length : (q : Query) → depth q ≤ length (encode q)
  depth_length (term f t) = omega (arith, length_encode (term f t))
  depth_length (phrase f ws) = omega (arith, length_encode (phrase f ws))
  depth_length (boolean m cs) = omega (arith, length_boolean m cs, depths_length cs)
  depth_length (boost b q) = omega (arith, length_boost b q, depth_length q)
  depth_length (constant_score q) = omega (arith, length_constant_score q, depth_length q)
  depth_length match_all = omega (arith, length_encode match_all)
  depth_length match_none = omega (arith, length_encode match_none)
  depth_length (range n f l u) = omega (arith, length_encode (range n f l u))

  pub depths_length : (cs : Clauses) → depths cs ≤ length (encodes cs)
  depths_length none = omega arith
  depths_length (clause k q cs) = omega (arith, length_clause k q cs, depth_length q, depths_length cs)

pub query_in_lem : {s : List ℕ} {q : Query} → Is s q → query_in s ≡ q
unfolding query_in
query_in_lem {s} {q} i = rw (← i.form, decode_encode q (length (encode q)) i.valid (depth_length q))

-- ---- parts of bodies

pub field_whole : (b : List ℕ) → is_field_part b ≡ true → whole_of b ≡ true
field_whole b h = (part_is field_tag b (field_is b h).0).0

pub text_whole : {b : List ℕ} → HoldsTerm b → whole_of (rest_of b) ≡ true
text_whole {b} H = (part_is text_tag (rest_of b) H.text).0

pub minimum_whole : {b : List ℕ} → HoldsMinimum b → whole_of b ≡ true
minimum_whole {b} H = (part_is minimum_tag b H.minimum).0

-- the minimum, as code reads it
pub minimum_bits : {b c : List ℕ} {m : ℕ} → HoldsMinimum b → c ≡ body_of b → m ≡ of_big (take 2 c) → m ≡ of_big (body_of b)
minimum_bits {b} {c} H e h = h ∙ ap (λ (l : List ℕ). of_big (take 2 l)) e ∙ ap of_big (ap (λ (k : ℕ). take k (body_of b)) (sym H.two) ∙ take-length (body_of b))

pub word_whole : (s : List ℕ) → is_word s ≡ true → whole_of s ≡ true
word_whole s h = (part_is word_tag s (word_is s h).is).0

-- a row of words, the first and the others
pub words_next : (s : List ℕ) → 0 < length s → shown_words (each word_of s) ≡ word_text s ++ shown_words (each word_of (rest_of s))
unfolding shown_words word_text
words_next s h = ap shown_words (each_next word_of s (more_empty s h))

pub words_done : (s : List ℕ) → length s ≤ 0 → shown_words (each word_of s) ≡ []
unfolding shown_words
words_done s h = ap shown_words (each_done word_of s (less_empty s h))

pub body_bytes : (s : List ℕ) {b : List ℕ} → Bytes s → b ≡ body_of s → Bytes b
body_bytes s B e = rw e (bytes_body s B)

-- ---- bounds

module _ (s : List ℕ) (h : is_bound s ≡ true) where
  pub bound_whole : whole_of s ≡ true
  bound_whole = by (bound_is s h)
    where
      by : BoundIs s → whole_of s ≡ true
      by (is_open_lem i e) = (part_is open_tag s i).0
      by (is_included i e) = (part_is included_tag s i).0
      by (is_excluded i e) = (part_is excluded_tag s i).0

  module _ {t : ℕ} (e : t ≡ tag_of s) where
    pub bound_open : t ≡ open_tag → ascii " open" ≡ shown_bound (bound_of s)
    bound_open o = ap shown_bound (sym (at_open s (sym e ∙ o)))

    limit : (g : List ℕ) → Bytes s → length (body_of s) ≡ 8 → g ++ hex (body_of s) ≡ g ++ hex (big 8 (of_big (body_of s)))
    limit g B l = ap {B = List ℕ} (λ b. g ++ hex b) (sym (write_big 8 (body_of s) (bytes_body s B) l))

    pub bound_included : Bytes s → t ≡ included_tag → ascii " included:" ++ hex (body_of s) ≡ shown_bound (bound_of s)
    bound_included B o = by (bound_is s h)
      where
        by : BoundIs s → ascii " included:" ++ hex (body_of s) ≡ shown_bound (bound_of s)
        by (is_open_lem i e') = absurd (omega (arith, (part_is open_tag s i).1, e, o))
        by (is_included i l) = limit (ascii " included:") B l ∙ ap shown_bound (sym (at_included s (sym e ∙ o)))
        by (is_excluded i l) = absurd (omega (arith, (part_is excluded_tag s i).1, e, o))

    pub bound_excluded : Bytes s → (t ≡ open_tag → ⊥) → (t ≡ included_tag → ⊥) → ascii " excluded:" ++ hex (body_of s) ≡ shown_bound (bound_of s)
    bound_excluded B n m = by (bound_is s h)
      where
        by : BoundIs s → ascii " excluded:" ++ hex (body_of s) ≡ shown_bound (bound_of s)
        by (is_open_lem i e') = absurd (n (e ∙ (part_is open_tag s i).1))
        by (is_included i l) = absurd (m (e ∙ (part_is included_tag s i).1))
        by (is_excluded i l) = limit (ascii " excluded:") B l ∙ ap shown_bound (sym (at_excluded s (part_is excluded_tag s i).1))

-- ---- the node of a query, by its tag

module _ {s : List ℕ} (S : Stored s) where
  pub stored_whole : whole_of s ≡ true
  stored_whole = (views.viewed S.query s S.is.form).whole

  node_as : {q : Query} → S.query ≡ q → node q ≡ node (query_in s)
  node_as e = ap node (sym (query_in_lem S.is ∙ e))

  module _ {b : List ℕ} (eb : b ≡ body_of s) {t : ℕ} (et : t ≡ tag_of s) where
    view : (n : ℕ) → t ≡ n → views.View n b S.query
    view n h = views.at_tag s b n S.query (sym et ∙ h) eb S.is.form

    module _ (h : t ≡ 1) where
      pub holds_term : HoldsTerm b
      holds_term = let A = views.as_term (view 1 h) S.is.valid in record { field = A.field; text = A.text }

      pub term_is : term_text b ≡ node (query_in s)
      unfolding node term_text
      term_is = node_as (views.as_term (view 1 h) S.is.valid).is

    module _ (h : t ≡ 2) where
      pub holds_phrase : HoldsPhrase b
      holds_phrase = let A = views.as_phrase (view 2 h) S.is.valid in record { field = A.field; words = A.words }

      pub phrase_is : phrase_text b ≡ node (query_in s)
      unfolding node phrase_text
      phrase_is = node_as (views.as_phrase (view 2 h) S.is.valid).is

    module _ (h : t ≡ 3) where
      pub boolean_at : views.AsBoolean b S.query
      boolean_at = views.as_boolean (view 3 h) S.is.valid

      pub holds_minimum : HoldsMinimum b
      holds_minimum = record { minimum = boolean_at.minimum; two = boolean_at.two }

      pub boolean_is : boolean_text b ≡ node (query_in s)
      unfolding node boolean_text
      boolean_is = node_as boolean_at.is

    module _ (h : t ≡ 4) where
      pub boost_at_lem : views.AsBoost b S.query
      boost_at_lem = views.as_boost (view 4 h) S.is.valid

      pub boost_is : Bytes b → boost_text b ≡ node (query_in s)
      unfolding node boost_text
      boost_is B =
          ap {B = List ℕ} (λ x. ascii "boost " ++ hex x) (sym (write_big 4 (take 4 b) (bytes_take 4 b B) (length-take-le 4 b boost_at_lem.long)))
          ∙ node_as boost_at_lem.is

    module _ (h : t ≡ 5) where
      pub score_at : views.AsConstantScore b S.query
      score_at = views.as_constant_score (view 5 h) S.is.valid

      pub score_is : ascii "constantscore" ≡ node (query_in s)
      unfolding node
      score_is = node_as score_at.is

    pub all_is : t ≡ 6 → ascii "matchall" ≡ node (query_in s)
    unfolding node
    all_is h = node_as (views.as_match_all (view 6 h)).0

    pub none_is : t ≡ 7 → ascii "matchnone" ≡ node (query_in s)
    unfolding node
    none_is h = node_as (views.as_match_none (view 7 h)).0

    -- any other tag is a range's
    module _ (n1 : t ≡ 1 → ⊥) (n2 : t ≡ 2 → ⊥) (n3 : t ≡ 3 → ⊥) (n4 : t ≡ 4 → ⊥) (n5 : t ≡ 5 → ⊥) (n6 : t ≡ 6 → ⊥) (n7 : t ≡ 7 → ⊥) where
      range_tag_lem : (n : Numbers) × (t ≡ range_tag n)
      range_tag_lem = by (tag_of s) et (views.viewed S.query s S.is.form).tag
        where
          by : (u : ℕ) → t ≡ u → QueryTag u → (n : Numbers) × (t ≡ range_tag n)
          by u e t_term = absurd (n1 e)
          by u e t_phrase = absurd (n2 e)
          by u e t_boolean = absurd (n3 e)
          by u e t_boost = absurd (n4 e)
          by u e t_constant_score = absurd (n5 e)
          by u e t_match_all = absurd (n6 e)
          by u e t_match_none = absurd (n7 e)
          by u e (t_range n) = (n, e)

      range_at : views.AsRange range_tag_lem.0 b S.query
      range_at = views.as_range range_tag_lem.0 (view (range_tag range_tag_lem.0) range_tag_lem.1) S.is.valid

      pub holds_range : HoldsRange b
      holds_range = record { field = range_at.field; lower = range_at.lower; upper = range_at.upper }

      range_name_lem : (n : Numbers) → t ≡ range_tag n → range_name t ≡ shown_numbers n
      unfolding range_name
      range_name_lem whole e = rw e
      range_name_lem float e = rw e

      pub range_is : range_text t b ≡ node (query_in s)
      unfolding node range_text
      range_is =
          ap {B = List ℕ} (λ x. x ++ shown_field (body_of b) ++ shown_bound (bound_of (rest_of b)) ++ shown_bound (bound_of (rest_of (rest_of b)))) (range_name_lem range_tag_lem.0 range_tag_lem.1)
          ∙ node_as range_at.is
