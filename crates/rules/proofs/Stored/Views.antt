-- What checked bytes show of the query whose stored form they are, by tag: for functions over stored queries. Section 'Stored form'.
use mathlib.Core.Path.{◌≡◌, refl, sym, ap, ◌∙◌, subst}
use Prim.Native.Nat.{ℕ, ◌≤◌}
use mathlib.Core.List.{List, [], ◌++◌}
use mathlib.Core.Bool.{Bool, true, false}
use native.Mathlib.Omega.{arith}
use lib.ListN.{length, take, drop, length-append}
use Rattle.rules.specs.Numbers.{term_tag, phrase_tag, boolean_tag, boost_tag, constant_score_tag, match_all_tag, match_none_tag, whole_range_tag, float_range_tag, field_tag, text_tag, minimum_tag}
use Rattle.rules.specs.Bytes.{of_big, big, is_empty, is_field, part, tag_of, body_of, rest_of, whole_of, is_part, is_field_part, every, each}
use Rattle.rules.specs.Query.{Word, Kind, Numbers, whole, float, Bound, Query, term, phrase, boolean, boost, constant_score, match_all, match_none, range, Clauses, none, clause}
use Rattle.rules.specs.Stored.{kind_tag, range_tag, encode_bound, encode_words, encode, encodes, is_boost, Valid, Valids}
use Rattle.rules.specs.Reading.{is_word, word_of, is_bound, bound_of, kind_of}
use Rattle.rules.proofs.Bools.{clash}
use Rattle.rules.proofs.Stored.Bigs.{read_big}
use Rattle.rules.proofs.Stored.Parts.{whole_part, body_part, rest_part, is_part_lem, whole_one, body_one, rest_one, is_one_lem, field_part}
use Rattle.rules.proofs.Stored.Tags.{QueryTag, t_term, t_phrase, t_boolean, t_boost, t_constant_score, t_match_all, t_match_none, t_range, kind_back}
use Rattle.rules.proofs.Stored.Leaves.{words_back, is_bound_lem, bound_back, bound_rest, is_bound_one, bound_back_one}
use Rattle.rules.proofs.Stored.Inverse.{boost_below, range_form}

-- ---- a query, by its tag and its body

-- a match on it leaves one case for a tag
pub data View : ℕ → List ℕ → Query → Type 0 where
  v_term : {f t : List ℕ} → View term_tag (part field_tag f ++ part text_tag t) (term f t)
  v_phrase : {f : List ℕ} {ws : List Word} → View phrase_tag (part field_tag f ++ encode_words ws) (phrase f ws)
  v_boolean : {m : ℕ} {cs : Clauses} → View boolean_tag (part minimum_tag (big 2 m) ++ encodes cs) (boolean m cs)
  v_boost : {b : ℕ} {q : Query} → View boost_tag (big 4 b ++ encode q) (boost b q)
  v_constant_score : {q : Query} → View constant_score_tag (encode q) (constant_score q)
  v_match_all : View match_all_tag [] match_all
  v_match_none : View match_none_tag [] match_none
  v_whole : {f : List ℕ} {l u : Bound} → View whole_range_tag (part field_tag f ++ (encode_bound l ++ encode_bound u)) (range whole f l u)
  v_float : {f : List ℕ} {l u : Bound} → View float_range_tag (part field_tag f ++ (encode_bound l ++ encode_bound u)) (range float f l u)

pub record Viewed (s : List ℕ) (q : Query) : Type 0 where
  pub whole : whole_of s ≡ true
  pub rest : rest_of s ≡ []
  pub tag : QueryTag (tag_of s)
  pub view : View (tag_of s) (body_of s) q

from_part : (t : ℕ) (b s : List ℕ) (q : Query) → QueryTag t → View t b q → part t b ≡ s → Viewed s q
from_part t b s q k v e = subst (λ (l : List ℕ). Viewed l q) e (record {
  whole = whole_one t b;
  rest = rest_one t b;
  tag = k;
  view = subst (λ (l : List ℕ). View t l q) (sym (body_one t b)) v;
})

pub viewed : (q : Query) (s : List ℕ) → encode q ≡ s → Viewed s q
unfolding encode
viewed (term f t) s e = from_part term_tag _ s (term f t) t_term v_term e
viewed (phrase f ws) s e = from_part phrase_tag _ s (phrase f ws) t_phrase v_phrase e
viewed (boolean m cs) s e = from_part boolean_tag _ s (boolean m cs) t_boolean v_boolean e
viewed (boost b q) s e = from_part boost_tag _ s (boost b q) t_boost v_boost e
viewed (constant_score q) s e = from_part constant_score_tag _ s (constant_score q) t_constant_score v_constant_score e
viewed match_all s e = from_part match_all_tag _ s match_all t_match_all v_match_all e
viewed match_none s e = from_part match_none_tag _ s match_none t_match_none v_match_none e
viewed (range whole f l u) s e = from_part whole_range_tag _ s (range whole f l u) (t_range whole) v_whole (sym (range_form whole f l u) ∙ e)
viewed (range float f l u) s e = from_part float_range_tag _ s (range float f l u) (t_range float) v_float (sym (range_form float f l u) ∙ e)

-- the view of s at the tag n and the body b that code has
pub at_tag : (s b : List ℕ) (n : ℕ) (q : Query) → tag_of s ≡ n → b ≡ body_of s → encode q ≡ s → View n b q
at_tag s b n q h eb e = subst (λ (t : ℕ). View t b q) h (subst (λ (l : List ℕ). View (tag_of s) l q) (sym eb) (viewed q s e).view)

-- ---- what each body shows

-- a field at the front of a body: it is the body's first part, and what follows is the rest
pub record Fielded (b f r : List ℕ) : Type 0 where
  pub field : body_of b ≡ f
  pub rest : rest_of b ≡ r
  pub is : is_field_part b ≡ true

fielded : (f r : List ℕ) → is_field f ≡ true → Fielded (part field_tag f ++ r) f r
fielded f r v = record { field = body_part field_tag f r; rest = rest_part field_tag f r; is = field_part f r ∙ v }

pub record AsTerm (b : List ℕ) (q : Query) : Type 0 where
  pub is : q ≡ term (body_of b) (body_of (rest_of b))
  pub field : is_field_part b ≡ true
  pub text : is_part text_tag (rest_of b) ≡ true

pub as_term : {b : List ℕ} {q : Query} → View term_tag b q → Valid q → AsTerm b q
unfolding Valid
as_term (v_term {f} {t}) v =
    let F = fielded f (part text_tag t) v.0 in
    record {
      is = rw (F.field, F.rest, body_one text_tag t);
      field = F.is;
      text = rw F.rest (is_one_lem text_tag t);
    }

pub record AsPhrase (b : List ℕ) (q : Query) : Type 0 where
  pub is : q ≡ phrase (body_of b) (each word_of (rest_of b))
  pub field : is_field_part b ≡ true
  pub words : every is_word (rest_of b) ≡ true

pub as_phrase : {b : List ℕ} {q : Query} → View phrase_tag b q → Valid q → AsPhrase b q
unfolding Valid
as_phrase (v_phrase {f} {ws}) v =
    let F = fielded f (encode_words ws) v.0 in
    let W = words_back ws v.1 in
    record {
      is = rw (F.field, F.rest, W.1);
      field = F.is;
      words = rw F.rest W.0;
    }

pub record AsRange (n : Numbers) (b : List ℕ) (q : Query) : Type 0 where
  pub is : q ≡ range n (body_of b) (bound_of (rest_of b)) (bound_of (rest_of (rest_of b)))
  pub field : is_field_part b ≡ true
  pub lower : is_bound (rest_of b) ≡ true
  pub upper : is_bound (rest_of (rest_of b)) ≡ true

range_shown : (n : Numbers) (f : List ℕ) (l u : Bound) → Valid (range n f l u) → AsRange n (part field_tag f ++ (encode_bound l ++ encode_bound u)) (range n f l u)
unfolding Valid
range_shown n f l u v =
    let F = fielded f (encode_bound l ++ encode_bound u) v.0 in
    let e = encode_bound u in
    record {
      is = rw (F.field, F.rest, bound_back e l v.1, bound_rest e l, bound_back_one u v.2);
      field = F.is;
      lower = rw F.rest (is_bound_lem e l);
      upper = rw (F.rest, bound_rest e l) (is_bound_one u);
    }

pub as_range : (n : Numbers) {b : List ℕ} {q : Query} → View (range_tag n) b q → Valid q → AsRange n b q
as_range whole (v_whole {f} {l} {u}) v = range_shown whole f l u v
as_range float (v_float {f} {l} {u}) v = range_shown float f l u v

pub record AsBoolean (b : List ℕ) (q : Query) : Type 0 where
  pub clauses : Clauses
  pub is : q ≡ boolean (of_big (body_of b)) clauses
  pub minimum : is_part minimum_tag b ≡ true
  pub two : length (body_of b) ≡ 2
  pub form : encodes clauses ≡ rest_of b
  pub valid : Valids clauses

pub as_boolean : {b : List ℕ} {q : Query} → View boolean_tag b q → Valid q → AsBoolean b q
unfolding Valid
as_boolean (v_boolean {m} {cs}) v =
    let e = body_part minimum_tag (big 2 m) (encodes cs) in
    record {
      clauses = cs;
      is = rw (e, read_big 2 m v.0);
      minimum = is_part_lem minimum_tag (big 2 m) (encodes cs);
      two = ap length e;
      form = sym (rest_part minimum_tag (big 2 m) (encodes cs));
      valid = v.1;
    }

pub record AsBoost (b : List ℕ) (q : Query) : Type 0 where
  pub inner : Query
  pub is : q ≡ boost (of_big (take 4 b)) inner
  pub long : 4 ≤ length b
  pub good : is_boost (of_big (take 4 b)) ≡ true
  pub form : encode inner ≡ drop 4 b
  pub valid : Valid inner

pub as_boost : {b : List ℕ} {q : Query} → View boost_tag b q → Valid q → AsBoost b q
unfolding Valid
as_boost (v_boost {b} {q}) v =
    let n : of_big (big 4 b) ≡ b = read_big 4 b (boost_below b v.0) in
    record {
      inner = q;
      is = ap (λ (x : ℕ). boost x q) (sym n);
      long = omega (arith, length-append (big 4 b) (encode q));
      good = ap is_boost n ∙ v.0;
      form = refl;
      valid = v.1;
    }

pub record AsConstantScore (b : List ℕ) (q : Query) : Type 0 where
  pub inner : Query
  pub is : q ≡ constant_score inner
  pub form : encode inner ≡ b
  pub valid : Valid inner

pub as_constant_score : {b : List ℕ} {q : Query} → View constant_score_tag b q → Valid q → AsConstantScore b q
unfolding Valid
as_constant_score (v_constant_score {q}) v = record { inner = q; is = refl; form = refl; valid = v }

pub as_match_all : {b : List ℕ} {q : Query} → View match_all_tag b q → (q ≡ match_all) × (b ≡ [])
as_match_all v_match_all = (refl, refl)

pub as_match_none : {b : List ℕ} {q : Query} → View match_none_tag b q → (q ≡ match_none) × (b ≡ [])
as_match_none v_match_none = (refl, refl)

-- ---- clauses

-- by whether there are any, the first one's kind and bytes, and the bytes of the others
pub data ClausesView : Bool → Kind → List ℕ → List ℕ → Clauses → Type 0 where
  v_none : {k : Kind} {b r : List ℕ} → ClausesView true k b r none
  v_clause : {k : Kind} {q : Query} {cs : Clauses} → ClausesView false k (encode q) (encodes cs) (clause k q cs)

abbrev Seen : Clauses → List ℕ → Type 0
Seen cs s = ClausesView (is_empty s) (kind_of (tag_of s)) (body_of s) (rest_of s) cs

clauses_seen : (cs : Clauses) → Seen cs (encodes cs)
unfolding encodes
clauses_seen none = v_none
clauses_seen (clause k q cs) = rw (kind_back k, body_part (kind_tag k) (encode q) (encodes cs), rest_part (kind_tag k) (encode q) (encodes cs)) v_clause

-- at what code has of them
pub at_front : (s b r : List ℕ) (x : Bool) (k : Kind) (cs : Clauses) → is_empty s ≡ x → kind_of (tag_of s) ≡ k → b ≡ body_of s → r ≡ rest_of s
    → encodes cs ≡ s → ClausesView x k b r cs
at_front s b r x k cs ex ek eb er e = rw (← ex, ← ek, eb, er) (subst (Seen cs) e (clauses_seen cs))

-- the first clause, and those after it
pub record Front (s : List ℕ) (cs : Clauses) : Type 0 where
  pub kind : Kind
  pub query : Query
  pub others : Clauses
  pub split : cs ≡ clause kind query others
  pub whole : whole_of s ≡ true
  pub tag : tag_of s ≡ kind_tag kind
  pub form : encode query ≡ body_of s
  pub valid : Valid query
  pub form_others : encodes others ≡ rest_of s
  pub valid_others : Valids others

pub front_of : (s : List ℕ) (cs : Clauses) → is_empty s ≡ false → encodes cs ≡ s → Valids cs → Front s cs
unfolding encodes Valids
front_of s none h e v = clash (ap is_empty (sym e)) h
front_of s (clause k q cs) h e v = record {
  kind = k;
  query = q;
  others = cs;
  split = refl;
  whole = ap whole_of (sym e) ∙ whole_part (kind_tag k) (encode q) (encodes cs);
  tag = ap tag_of (sym e);
  form = sym (ap body_of (sym e) ∙ body_part (kind_tag k) (encode q) (encodes cs));
  valid = v.0;
  form_others = sym (ap rest_of (sym e) ∙ rest_part (kind_tag k) (encode q) (encodes cs));
  valid_others = v.1;
}

pub no_front : (s : List ℕ) (cs : Clauses) → is_empty s ≡ true → encodes cs ≡ s → cs ≡ none
unfolding encodes
no_front s none h e = refl
no_front s (clause k q cs) h e = clash h (ap is_empty (sym e))
