-- The reading of a stored query refuses with 20 or 21 and with nothing else. Section 'Refusal numbers'.
use mathlib.Core.Path.{◌≡◌, refl, subst}
use mathlib.Core.Logic.{◌⊎◌, inl, inr}
use Prim.Native.Nat.{ℕ, zero, suc}
use mathlib.Core.List.{List}
use mathlib.Core.Bool.{Bool, true, false, ◌&&◌, cond}
use Rattle.rules.specs.Numbers.{Refusal, malformed_query, deep_query, Read, got, refused, need, on_read}
use Rattle.rules.specs.Bytes.{is_empty, tag_of, body_of, rest_of, whole_of}
use Rattle.rules.specs.Query.{Kind, Numbers, Query, Clauses, clause}
use Rattle.rules.specs.Reading.{closed, empty_in, term_in, phrase_in, range_in, boost_in, constant_score_in, added, clauses_in, boolean_in, is_query, body_in, decode}

-- an answer that is no refusal, or one of the two
pub data Faulty {A : Type 0} : Read A → Type 0 where
  none_at_all : {a : A} → Faulty (got a)
  malformed : Faulty (refused malformed_query)
  deep : Faulty (refused deep_query)

module _ {A : Type 0} where
  by_need : (b : Bool) (o : Read A) → Faulty o → Faulty (need b malformed_query o)
  by_need true o f = f
  by_need false o f = malformed

  by_cond : (b : Bool) (o p : Read A) → Faulty o → Faulty p → Faulty (cond b o p)
  by_cond true o p f g = f
  by_cond false o p f g = g

by_on : {A B : Type 0} {o : Read A} (g : A → B) → Faulty o → Faulty (on_read g o)
by_on g none_at_all = none_at_all
by_on g malformed = malformed
by_on g deep = deep

by_closed : {o : Read Query} (e : Bool) → Faulty o → Faulty (closed o e)
unfolding closed
by_closed e none_at_all = by_need e _ none_at_all
by_closed e malformed = malformed
by_closed e deep = deep

by_added : {o : Read Query} {os : Read Clauses} (k : Kind) → Faulty o → Faulty os → Faulty (added k o os)
unfolding added
by_added k (none_at_all {a = q}) g = by_on (clause k q) g
by_added k malformed g = malformed
by_added k deep g = deep

by_empty : (q : Query) (b : List ℕ) → Faulty (empty_in q b)
unfolding empty_in
by_empty q b = search (by_need, none_at_all)

by_term : (b : List ℕ) → Faulty (term_in b)
unfolding term_in
by_term b = search (by_need, none_at_all)

by_phrase : (b : List ℕ) → Faulty (phrase_in b)
unfolding phrase_in
by_phrase b = search (by_need, none_at_all)

by_range : (n : Numbers) (b : List ℕ) → Faulty (range_in n b)
unfolding range_in
by_range n b = search (by_need, none_at_all)

module _ (sub : List ℕ → Read Query) (S : (b : List ℕ) → Faulty (sub b)) where
  by_clauses : (n : ℕ) (s : List ℕ) → Faulty (clauses_in sub n s)
  unfolding clauses_in
  by_clauses zero s = search (by_need, none_at_all)
  by_clauses (suc n) s = search (by_cond, none_at_all, by_need, by_added, S, by_clauses n)

  by_boolean : (b : List ℕ) → Faulty (boolean_in sub b)
  unfolding boolean_in
  by_boolean b = search (by_need, by_on, by_clauses)

  by_boost : (b : List ℕ) → Faulty (boost_in sub b)
  unfolding boost_in
  by_boost b = search (by_need, by_on, S)

  by_body : (t : ℕ) (b : List ℕ) → Faulty (body_in sub t b)
  unfolding body_in constant_score_in
  by_body t b = search (by_cond, by_term, by_phrase, by_boolean, by_boost, by_on, S, by_empty, by_range) depth 12

pub faulty : (d : ℕ) (s : List ℕ) → Faulty (decode d s)
unfolding decode
faulty zero s = search (by_need, deep)
faulty (suc d) s =
    by_need (whole_of s && is_query (tag_of s)) _ (by_closed (is_empty (rest_of s)) (by_body (decode d) (faulty d) (tag_of s) (body_of s)))

pub decode_refused : (d : ℕ) (s : List ℕ) (r : Refusal) → decode d s ≡ refused r → (r ≡ malformed_query) ⊎ (r ≡ deep_query)
decode_refused d s r h = go (subst Faulty h (faulty d s))
  where
    go : {r : Refusal} → Faulty {A = Query} (refused r) → (r ≡ malformed_query) ⊎ (r ≡ deep_query)
    go malformed = inl refl
    go deep = inr refl
