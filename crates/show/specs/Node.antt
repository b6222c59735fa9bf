-- The text of stored bytes: the query that they hold, its node, and the text of each body that a node shows.
use Rattle.std.specs.Prelude.{◌≡◌, ℕ, ◌+◌, ◌≤◌, List, [], ◌++◌, true, cond, length, take, drop, eqb}
use Rattle.rules.specs.Numbers.{Read, got, refused, must_tag, should_tag, must_not_tag, filter_tag, text_tag, minimum_tag, whole_range_tag}
use Rattle.rules.specs.Bytes.{ascii, big, of_big, body_of, rest_of, is_part, is_field_part, every, each}
use Rattle.rules.specs.Query.{whole, float, Query, term, phrase, boolean, boost, constant_score, match_all, match_none, range, Clauses, none}
use Rattle.rules.specs.Reading.{is_word, word_of, is_bound, bound_of, decode, clauses_in}
use Rattle.rules.specs.Checked.{Stored, StoredClauses}
use Rattle.rules.specs.Show.{decimal, hex, shown, shown_field, shown_words, shown_numbers, shown_bound, no_kind, show, show_clauses}

-- ---- what stored bytes hold; a MatchNone, and no clause, where they hold nothing

abbrev or_none : Read Query → Query
or_none (got q) = q
or_none (refused r) = match_none

abbrev or_empty : Read Clauses → Clauses
or_empty (got cs) = cs
or_empty (refused r) = none

unfoldable pub query_in : List ℕ → Query
query_in s = or_none (decode (length s) s)

unfoldable pub row_in : List ℕ → Clauses
row_in s = or_empty (clauses_in (decode (length s)) (length s) s)

-- ---- a query's own line, and what it nests

unfoldable pub node : Query → List ℕ
node (term f t) = ascii "term " ++ shown_field f ++ ascii " " ++ shown t
node (phrase f ws) = ascii "phrase " ++ shown_field f ++ shown_words ws
node (boolean m cs) = ascii "boolean " ++ decimal m
node (boost b q) = ascii "boost " ++ hex (big 4 b)
node (constant_score q) = ascii "constantscore"
node match_all = ascii "matchall"
node match_none = ascii "matchnone"
node (range n f l u) = shown_numbers n ++ shown_field f ++ shown_bound l ++ shown_bound u

unfoldable pub inside : ℕ → Query → List ℕ
inside d (term f t) = []
inside d (phrase f ws) = []
inside d (boolean m cs) = show_clauses d cs
inside d (boost b q) = show d no_kind q
inside d (constant_score q) = show d no_kind q
inside d match_all = []
inside d match_none = []
inside d (range n f l u) = []

-- the kind of a clause, by its tag; 0 for a query that is no clause's
unfoldable pub kind_text : ℕ → List ℕ
kind_text t =
    cond (eqb t must_tag) (ascii "must")
    (cond (eqb t should_tag) (ascii "should")
    (cond (eqb t must_not_tag) (ascii "mustnot")
    (cond (eqb t filter_tag) (ascii "filter") no_kind)))

-- ---- bodies

pub record HoldsTerm (b : List ℕ) : Type 0 where
  pub field : is_field_part b ≡ true
  pub text : is_part text_tag (rest_of b) ≡ true

unfoldable pub term_text : List ℕ → List ℕ
term_text b = ascii "term " ++ shown_field (body_of b) ++ ascii " " ++ shown (body_of (rest_of b))

unfoldable pub word_text : List ℕ → List ℕ
word_text s = ascii " " ++ decimal (of_big (take 4 (body_of s))) ++ ascii ":" ++ shown (drop 4 (body_of s))

pub record HoldsPhrase (b : List ℕ) : Type 0 where
  pub field : is_field_part b ≡ true
  pub words : every is_word (rest_of b) ≡ true

unfoldable pub phrase_text : List ℕ → List ℕ
phrase_text b = ascii "phrase " ++ shown_field (body_of b) ++ shown_words (each word_of (rest_of b))

pub record HoldsMinimum (b : List ℕ) : Type 0 where
  pub minimum : is_part minimum_tag b ≡ true
  pub two : length (body_of b) ≡ 2

unfoldable pub boolean_text : List ℕ → List ℕ
boolean_text b = ascii "boolean " ++ decimal (of_big (body_of b))

unfoldable pub boost_text : List ℕ → List ℕ
boost_text b = ascii "boost " ++ hex (take 4 b)

unfoldable pub range_name : ℕ → List ℕ
range_name t = cond (eqb t whole_range_tag) (shown_numbers whole) (shown_numbers float)

pub record HoldsRange (b : List ℕ) : Type 0 where
  pub field : is_field_part b ≡ true
  pub lower : is_bound (rest_of b) ≡ true
  pub upper : is_bound (rest_of (rest_of b)) ≡ true

unfoldable pub range_text : ℕ → List ℕ → List ℕ
range_text t b = range_name t ++ shown_field (body_of b) ++ shown_bound (bound_of (rest_of b)) ++ shown_bound (bound_of (rest_of (rest_of b)))

-- ---- what the writers of a query and of clauses ask for

pub record ToShow (d : ℕ) (s : List ℕ) : Type 0 where
  pub stored : Stored s
  pub low : d + length s ≤ 0x2_0000

pub record ToShowAll (d : ℕ) (s : List ℕ) : Type 0 where
  pub stored : StoredClauses s
  pub low : d + length s ≤ 0x2_0000
