-- The stored form of a query, and what it can hold. Section 'Stored form'.
use Rattle.std.specs.Prelude.{◌≡◌, ℕ, ◌<◌, ◌^◌, List, [], ◌∷◌, ◌++◌, Bool, true, not, ◌&&◌, ◌||◌, ltb, eqb}
use Rattle.std.specs.Float.{binary32}
use Rattle.std.specs.Float.Ieee.{nan_bits}
use Rattle.rules.specs.Numbers.{term_tag, phrase_tag, boolean_tag, boost_tag, constant_score_tag, match_all_tag, match_none_tag, whole_range_tag, float_range_tag, field_tag, text_tag, word_tag, minimum_tag, must_tag, should_tag, must_not_tag, filter_tag, open_tag, included_tag, excluded_tag}
use Rattle.rules.specs.Bytes.{big, part, is_text, is_field}
use Rattle.rules.specs.Query.{Word, word, Kind, must, should, must_not, filter, Numbers, whole, float, Bound, unbounded, included, excluded, Query, term, phrase, boolean, boost, constant_score, match_all, match_none, range, Clauses, none, clause}

abbrev pub kind_tag : Kind → ℕ
kind_tag must = must_tag
kind_tag should = should_tag
kind_tag must_not = must_not_tag
kind_tag filter = filter_tag

abbrev pub range_tag : Numbers → ℕ
range_tag whole = whole_range_tag
range_tag float = float_range_tag

abbrev pub encode_bound : Bound → List ℕ
encode_bound unbounded = part open_tag []
encode_bound (included x) = part included_tag (big 8 x)
encode_bound (excluded x) = part excluded_tag (big 8 x)

unfoldable pub encode_words : List Word → List ℕ
encode_words [] = []
encode_words (word p t ∷ ws) = part word_tag (big 4 p ++ t) ++ encode_words ws

unfoldable mutual
  pub encode : Query → List ℕ
  encode (term f t) = part term_tag (part field_tag f ++ part text_tag t)
  encode (phrase f ws) = part phrase_tag (part field_tag f ++ encode_words ws)
  encode (boolean m cs) = part boolean_tag (part minimum_tag (big 2 m) ++ encodes cs)
  encode (boost b q) = part boost_tag (big 4 b ++ encode q)
  encode (constant_score q) = part constant_score_tag (encode q)
  encode match_all = part match_all_tag []
  encode match_none = part match_none_tag []
  encode (range n f l u) = part (range_tag n) (part field_tag f ++ encode_bound l ++ encode_bound u)

  pub encodes : Clauses → List ℕ
  encodes none = []
  encodes (clause k q cs) = part (kind_tag k) (encode q) ++ encodes cs

-- ---- what it can hold

-- there is one NaN
abbrev pub the_nan : ℕ
the_nan = 0x7fc0_0000

abbrev pub is_boost : ℕ → Bool
is_boost b = ltb b (2 ^ 32) && (not (nan_bits binary32 b) || eqb b the_nan)

unfoldable pub ValidWords : List Word → Type 0
ValidWords [] = Unit {0}
ValidWords (word p t ∷ ws) = (p < 2 ^ 32) × (is_text t ≡ true) × ValidWords ws

abbrev pub ValidBound : Bound → Type 0
ValidBound unbounded = Unit {0}
ValidBound (included x) = x < 2 ^ 64
ValidBound (excluded x) = x < 2 ^ 64

unfoldable mutual
  pub Valid : Query → Type 0
  Valid (term f t) = (is_field f ≡ true) × (is_text t ≡ true)
  Valid (phrase f ws) = (is_field f ≡ true) × ValidWords ws
  Valid (boolean m cs) = (m < 2 ^ 16) × Valids cs
  Valid (boost b q) = (is_boost b ≡ true) × Valid q
  Valid (constant_score q) = Valid q
  Valid match_all = Unit {0}
  Valid match_none = Unit {0}
  Valid (range n f l u) = (is_field f ≡ true) × ValidBound l × ValidBound u

  pub Valids : Clauses → Type 0
  Valids none = Unit {0}
  Valids (clause k q cs) = Valid q × Valids cs
