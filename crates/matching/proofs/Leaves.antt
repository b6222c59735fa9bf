-- What the checked bytes of a leaf show of it, and what an answer about them says of the query's truth.
use mathlib.Core.Path.{◌≡◌, refl, sym, ap, ◌∙◌}
use Prim.Native.Nat.{ℕ, ◌+◌, ◌≤◌}
use mathlib.Core.List.{List}
use mathlib.Core.Bool.{Bool, true, false, ◌&&◌, cond, and-false}
use native.Mathlib.Omega.{arith}
use lib.ListN.{length, take, drop}
use lib.Seq.{take_all}
use lib.Dec.{leb, eqb}
use borrow.Author.Tests.{leb-true, leb-false, eq-eqb}
use Rattle.rules.specs.Numbers.{term_tag, phrase_tag, boolean_tag, boost_tag, constant_score_tag, match_all_tag, whole_range_tag, float_range_tag, minimum_tag, field_tag, text_tag, word_tag, open_tag, included_tag, excluded_tag}
use Rattle.rules.specs.Bytes.{of_big, is_text, tag_of, body_of, rest_of, whole_of, is_part, every, each, some}
use Rattle.rules.specs.Query.{Numbers, Query, none}
use Rattle.rules.specs.Stored.{range_tag}
use Rattle.rules.specs.Reading.{is_word, word_of, is_bound, bound_of}
use Rattle.rules.specs.Checked.{Is, Stored}
use Rattle.rules.specs.Lists.{Entry}
use Rattle.rules.specs.Matching.{is_at, follows_from, starts_on, has_term, has_phrase, has_range, matches}
use Rattle.rules.proofs.Bools.{and_l, and_r}
use Rattle.rules.proofs.Stored.Parts.{part_is, field_is, none_empty, some_empty, less_empty, length_whole}
use Rattle.rules.proofs.Stored.Rows.{first, others, each_done, each_next}
use Rattle.rules.proofs.Stored.Leaves.{BoundIs, is_open_lem, is_included, is_excluded, bound_is, at_open, at_included, at_excluded}
use Rattle.rules.proofs.Stored.Views.{View, v_term, v_phrase, v_boolean, v_boost, v_constant_score, v_match_all, v_match_none, v_whole, v_float, viewed, at_tag, AsTerm, as_term, AsPhrase, as_phrase, AsRange, as_range, as_match_all, as_boolean, no_front}
use Rattle.matching.specs.Level.{carries}
use Rattle.matching.specs.Order.{ordered, keeps}
use Rattle.matching.proofs.Levels.{carries_all, carries_none}
use Rattle.matching.specs.Truth.{Truth, StoredAs, IsLeaf}

pub stored_whole : {s : List ℕ} → Stored s → whole_of s ≡ true
stored_whole {s} c = (viewed c.query s c.is.form).whole

-- a query of s, at the tag and the body of s
seen : (s : List ℕ) (t : ℕ) (q : Query) → tag_of s ≡ t → Is s q → View t (body_of s) q
seen s t q h i = at_tag s (body_of s) t q h refl i.form

-- ---- terms

module _ (s : List ℕ) where
  shown_term : (q : Query) → tag_of s ≡ term_tag → Is s q → AsTerm (body_of s) q
  shown_term q h i = as_term (seen s term_tag q h i) i.valid

  module _ (c : StoredAs term_tag s) where
    shown : AsTerm (body_of s) c.stored.query
    shown = shown_term c.stored.query c.tag c.stored.is

    pub term_front : whole_of (body_of s) ≡ true
    term_front = (part_is field_tag (body_of s) (field_is (body_of s) shown.field).0).0

    pub term_back : whole_of (rest_of (body_of s)) ≡ true
    term_back = (part_is text_tag (rest_of (body_of s)) shown.text).0

    pub term_says : (es : List Entry) (r : Bool) → r ≡ has_term es (body_of (body_of s)) (body_of (rest_of (body_of s))) → Truth s es r
    unfolding Truth matches
    term_says es r e q i = e ∙ sym (ap (matches es) (shown_term q c.tag i).is)

-- ---- phrases

pub word_whole : (w : List ℕ) → is_word w ≡ true → whole_of w ≡ true
word_whole w h = (part_is word_tag w (and_l (is_part word_tag w) _ h)).0

pub word_long : (w : List ℕ) → is_word w ≡ true → 4 ≤ length (body_of w)
word_long w h =
    leb-true 4 (length (body_of w))
    (and_l (leb 4 (length (body_of w))) _ (and_r (is_part word_tag w) (leb 4 (length (body_of w)) && is_text (drop 4 (body_of w))) h))

-- what a word asks of the entries, where it was read as a position and a text
pub follows_at : (es : List Entry) (f : List ℕ) (p x : ℕ) (s : List ℕ) {o : ℕ} {t : List ℕ} {r : Bool} → o ≡ of_big (take 4 (body_of s)) → t ≡ drop 4 (body_of s)
    → r ≡ some (is_at f t p (o + x)) es → r ≡ follows_from es f p x (word_of s)
follows_at es f p x s eo et h = h ∙ rw (eo, et)

module _ (s : List ℕ) where
  shown_phrase : (q : Query) → tag_of s ≡ phrase_tag → Is s q → AsPhrase (body_of s) q
  shown_phrase q h i = as_phrase (seen s phrase_tag q h i) i.valid

  module _ (c : StoredAs phrase_tag s) where
    phrase_shown : AsPhrase (body_of s) c.stored.query
    phrase_shown = shown_phrase c.stored.query c.tag c.stored.is

    pub phrase_front : whole_of (body_of s) ≡ true
    phrase_front = (part_is field_tag (body_of s) (field_is (body_of s) phrase_shown.field).0).0

    pub phrase_words : every is_word (rest_of (body_of s)) ≡ true
    phrase_words = phrase_shown.words

    pub phrase_empty : (es : List Entry) {w : List ℕ} → w ≡ rest_of (body_of s) → length w ≡ 0 → Truth s es false
    unfolding Truth matches has_phrase
    phrase_empty es {w} e h q i =
        sym (ap (matches es) (shown_phrase q c.tag i).is
        ∙ ap (has_phrase es (body_of (body_of s))) (ap (each word_of) (sym e) ∙ each_done word_of w (none_empty w h)))

    pub phrase_absent : (es : List Entry) {f w : List ℕ} → f ≡ body_of (body_of s) → w ≡ rest_of (body_of s) → has_phrase es f (each word_of w) ≡ false → Truth s es false
    unfolding Truth matches
    phrase_absent es ef ew h q i = sym (ap (matches es) (shown_phrase q c.tag i).is ∙ (rw (ef, ew) at h))

    -- by its first word
    module _ {w : List ℕ} (e : w ≡ rest_of (body_of s)) (n : length w ≡ 0 → ⊥) where
      pub first_word : is_word w ≡ true
      first_word = first is_word w (some_empty w n) (ap (every is_word) e ∙ phrase_words)

      pub other_words : every is_word (rest_of w) ≡ true
      other_words = others is_word w (some_empty w n) (ap (every is_word) e ∙ phrase_words)

      pub phrase_says : (es : List Entry) (r : Bool) {f t ws : List ℕ} {p : ℕ} → f ≡ body_of (body_of s) → p ≡ of_big (take 4 (body_of w))
          → t ≡ drop 4 (body_of w) → ws ≡ rest_of w → r ≡ some (starts_on es f p t (each word_of ws)) es → Truth s es r
      unfolding Truth matches has_phrase
      phrase_says es r {f} {t} {ws} {p} ef ep et ew h q i =
          let a : each word_of (rest_of (body_of s)) ≡ _ = ap (each word_of) (sym e) ∙ each_next word_of w (some_empty w n) in
          h ∙ rw (ef, ep, et, ew)
          (sym (ap (matches es) (shown_phrase q c.tag i).is ∙ ap (has_phrase es (body_of (body_of s))) a))

-- ---- ranges

module _ (t : List ℕ) (h : is_bound t ≡ true) where
  pub bound_whole : whole_of t ≡ true
  bound_whole = go (bound_is t h)
    where
      go : BoundIs t → whole_of t ≡ true
      go (is_open_lem i e) = (part_is open_tag t i).0
      go (is_included i l) = (part_is included_tag t i).0
      go (is_excluded i l) = (part_is excluded_tag t i).0

  pub open_says : (k : Numbers) (upper : Bool) (x : ℕ) → tag_of t ≡ open_tag → true ≡ keeps upper k (bound_of t) x
  open_says k true x e = rw (at_open t e)
  open_says k false x e = rw (at_open t e)

  -- a bound that is not open has a number
  module _ (n : tag_of t ≡ open_tag → ⊥) where
    pub limit_long : length (body_of t) ≡ 8
    limit_long = go (bound_is t h)
      where
        go : BoundIs t → length (body_of t) ≡ 8
        go (is_open_lem i e) = absurd (n (part_is open_tag t i).1)
        go (is_included i l) = l
        go (is_excluded i l) = l

    pub limit_is : {w : List ℕ} {v : ℕ} → w ≡ body_of t → v ≡ of_big (take 8 w) → v ≡ of_big (body_of t)
    limit_is ew ev = ev ∙ rw ew (ap of_big (take_all 8 (body_of t) (omega (arith, limit_long))))

    -- what it asks of x, on either side
    pub limit_says : (k : Numbers) (upper : Bool) (x : ℕ) {v g : ℕ} {r : Bool} → v ≡ of_big (body_of t) → g ≡ tag_of t
        → r ≡ ordered (eqb g excluded_tag) k (cond upper x v) (cond upper v x) → r ≡ keeps upper k (bound_of t) x
    limit_says k upper x {v} e f m = m ∙ rw f (go (bound_is t h) upper)
      where
        go : BoundIs t → (u : Bool) → ordered (eqb (tag_of t) excluded_tag) k (cond u x v) (cond u v x) ≡ keeps u k (bound_of t) x
        go (is_open_lem i f) u = absurd (n (part_is open_tag t i).1)
        go (is_included i l) true = let g = (part_is included_tag t i).1 in rw (at_included t g, g, e)
        go (is_included i l) false = let g = (part_is included_tag t i).1 in rw (at_included t g, g, e)
        go (is_excluded i l) true = let g = (part_is excluded_tag t i).1 in rw (at_excluded t g, g, e)
        go (is_excluded i l) false = let g = (part_is excluded_tag t i).1 in rw (at_excluded t g, g, e)

module _ (n : Numbers) (s : List ℕ) where
  shown_range : (q : Query) → tag_of s ≡ range_tag n → Is s q → AsRange n (body_of s) q
  shown_range q h i = as_range n (seen s (range_tag n) q h i) i.valid

  module _ (c : StoredAs (range_tag n) s) where
    range_shown : AsRange n (body_of s) c.stored.query
    range_shown = shown_range c.stored.query c.tag c.stored.is

    pub range_front : whole_of (body_of s) ≡ true
    range_front = (part_is field_tag (body_of s) (field_is (body_of s) range_shown.field).0).0

    pub range_lower : is_bound (rest_of (body_of s)) ≡ true
    range_lower = range_shown.lower

    pub range_upper : is_bound (rest_of (rest_of (body_of s))) ≡ true
    range_upper = range_shown.upper

    pub range_says : (es : List Entry) (r : Bool) {f l u : List ℕ} → f ≡ body_of (body_of s) → l ≡ rest_of (body_of s) → u ≡ rest_of (rest_of (body_of s))
        → r ≡ has_range es n f (bound_of l) (bound_of u) → Truth s es r
    unfolding Truth matches
    range_says es r {f} {l} {u} ef el eu h q i = h ∙ rw (ef, el, eu) (sym (ap (matches es) (shown_range q c.tag i).is))

-- ---- all and none

module _ (s : List ℕ) (es : List Entry) where
  pub all_says : tag_of s ≡ match_all_tag → Truth s es true
  unfolding Truth matches
  all_says h q i = sym (ap (matches es) (as_match_all (seen s match_all_tag q h i)).0)

  -- a Boolean that has no clause
  empty_says : IsLeaf s → (q : Query) → Is s q → tag_of s ≡ boolean_tag → false ≡ matches es q
  empty_says L q i h =
      let A = as_boolean (seen s boolean_tag q h i) i.valid in
      let l : length s ≤ 8 = let z = leb-false 9 (length s) (sym (rw (eq-eqb (tag_of s) boolean_tag h)) ∙ L.boolean) in omega arith in
      let w = (viewed q s i.form).whole in
      let v : whole_of (body_of s) ≡ true = (part_is minimum_tag (body_of s) A.minimum).0 in
      let r : length (rest_of (body_of s)) ≤ 0 = let t = A.two in omega (arith, length_whole s w, length_whole (body_of s) v) in
      let c : A.clauses ≡ none = no_front (rest_of (body_of s)) A.clauses (less_empty (rest_of (body_of s)) r) A.form in
      let m = of_big (body_of (body_of s)) in
      sym (ap (matches es) A.is ∙ carries_all es m A.clauses ∙ ap (carries es m false) c ∙ carries_none es m false ∙ and-false (leb m 0))

  -- the leaf that is left
  pub none_says : IsLeaf s → (tag_of s ≡ term_tag → ⊥) → (tag_of s ≡ phrase_tag → ⊥) → (tag_of s ≡ match_all_tag → ⊥)
      → (tag_of s ≡ whole_range_tag → ⊥) → (tag_of s ≡ float_range_tag → ⊥) → Truth s es false
  unfolding Truth matches
  none_says L a b c d e q i = go (viewed q s i.form).view refl (empty_says L q i) L.boost L.constant_score a b c d e
    where
      go : {t : ℕ} {b : List ℕ} {q : Query} → View t b q → tag_of s ≡ t → (tag_of s ≡ boolean_tag → false ≡ matches es q) → (tag_of s ≡ boost_tag → ⊥)
          → (tag_of s ≡ constant_score_tag → ⊥) → (tag_of s ≡ term_tag → ⊥) → (tag_of s ≡ phrase_tag → ⊥) → (tag_of s ≡ match_all_tag → ⊥)
          → (tag_of s ≡ whole_range_tag → ⊥) → (tag_of s ≡ float_range_tag → ⊥) → false ≡ matches es q
      go v_term h o p k a b c d e = absurd (a h)
      go v_phrase h o p k a b c d e = absurd (b h)
      go v_boolean h o p k a b c d e = o h
      go v_boost h o p k a b c d e = absurd (p h)
      go v_constant_score h o p k a b c d e = absurd (k h)
      go v_match_all h o p k a b c d e = absurd (c h)
      go v_match_none h o p k a b c d e = refl
      go v_whole h o p k a b c d e = absurd (d h)
      go v_float h o p k a b c d e = absurd (e h)
