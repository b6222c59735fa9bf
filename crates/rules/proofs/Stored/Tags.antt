-- Tags of queries and of clauses, by cases. Section 'Stored form'.
use mathlib.Core.Path.{◌≡◌, refl, subst}
use Prim.Native.Nat.{ℕ, suc, ◌≤◌}
use mathlib.Core.Bool.{true, ◌&&◌}
use native.Mathlib.Omega.{arith}
use native.Mathlib.Decide.{ℕ_discrete}
use lib.Dec.{leb}
use borrow.Author.Tests.{leb-true}
use Rattle.rules.specs.Numbers.{term_tag, phrase_tag, boolean_tag, boost_tag, constant_score_tag, match_all_tag, match_none_tag, whole_range_tag, float_range_tag, must_tag, should_tag, must_not_tag, filter_tag}
use Rattle.rules.specs.Query.{Kind, must, should, must_not, filter, Numbers, whole, float}
use Rattle.rules.specs.Stored.{kind_tag, range_tag}
use Rattle.rules.specs.Reading.{is_kind, kind_of, is_query}
use Rattle.rules.proofs.Bools.{and_l, and_r}

-- a number from k up is k, or above it
pub from : (P : ℕ → Type 0) (k t : ℕ) → P k → (suc k ≤ t → P t) → k ≤ t → P t
from P k t p f h = go (ℕ_discrete k t)
  where
    go : Dec (k ≡ t) → P t
    go (yes e) = subst P e p
    go (no n) = f (omega arith)

pub within : (a t b : ℕ) → (leb a t && leb t b) ≡ true → (a ≤ t) × (t ≤ b)
within a t b h = (leb-true a t (and_l (leb a t) (leb t b) h), leb-true t b (and_r (leb a t) (leb t b) h))

pub data QueryTag : ℕ → Type 0 where
  t_term : QueryTag term_tag
  t_phrase : QueryTag phrase_tag
  t_boolean : QueryTag boolean_tag
  t_boost : QueryTag boost_tag
  t_constant_score : QueryTag constant_score_tag
  t_match_all : QueryTag match_all_tag
  t_match_none : QueryTag match_none_tag
  t_range : (n : Numbers) → QueryTag (range_tag n)

pub query_tag : (t : ℕ) → is_query t ≡ true → QueryTag t
query_tag t h =
    let Q = QueryTag in
    let l = within term_tag t float_range_tag h in
    from Q term_tag t t_term
    (from Q phrase_tag t t_phrase
    (from Q boolean_tag t t_boolean
    (from Q boost_tag t t_boost
    (from Q constant_score_tag t t_constant_score
    (from Q match_all_tag t t_match_all
    (from Q match_none_tag t t_match_none
    (from Q whole_range_tag t (t_range whole)
    (from Q float_range_tag t (t_range float) (λ m. absurd (omega arith)))))))))) l.0

pub is_query_lem : {t : ℕ} → QueryTag t → is_query t ≡ true
is_query_lem t_term = refl
is_query_lem t_phrase = refl
is_query_lem t_boolean = refl
is_query_lem t_boost = refl
is_query_lem t_constant_score = refl
is_query_lem t_match_all = refl
is_query_lem t_match_none = refl
is_query_lem (t_range whole) = refl
is_query_lem (t_range float) = refl

pub is_range_lem : (n : Numbers) → is_query (range_tag n) ≡ true
is_range_lem whole = refl
is_range_lem float = refl

pub kind_back : (k : Kind) → kind_of (kind_tag k) ≡ k
kind_back must = refl
kind_back should = refl
kind_back must_not = refl
kind_back filter = refl

pub is_kind_lem : (k : Kind) → is_kind (kind_tag k) ≡ true
is_kind_lem must = refl
is_kind_lem should = refl
is_kind_lem must_not = refl
is_kind_lem filter = refl

pub kind_again : (t : ℕ) → is_kind t ≡ true → kind_tag (kind_of t) ≡ t
kind_again t h =
    let Q : ℕ → Type 0 = λ x. kind_tag (kind_of x) ≡ x in
    let l = within must_tag t filter_tag h in
    from Q must_tag t refl (from Q should_tag t refl (from Q must_not_tag t refl (from Q filter_tag t refl (λ m. absurd (omega arith))))) l.0
