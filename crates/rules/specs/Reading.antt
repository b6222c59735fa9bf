-- What a list of bytes means as a query, in reading order: faults are met left to right. Section 'Stored form', 'Rewrite order'.
-- At a header: three bytes are there, the tag is allowed, the length lies within the part around it; then depth; then the body;
-- and what is left over in a part is met after what stands before it. The depth that is left is what the reading recurses on.
use Rattle.std.specs.Prelude.{ℕ, zero, suc, List, Bool, ◌&&◌, ◌||◌, cond, length, take, drop, leb, eqb}
use Rattle.rules.specs.Numbers.{term_tag, phrase_tag, boolean_tag, boost_tag, constant_score_tag, match_all_tag, match_none_tag, whole_range_tag, float_range_tag, text_tag, word_tag, minimum_tag, must_tag, should_tag, must_not_tag, filter_tag, open_tag, included_tag, excluded_tag, malformed_query, deep_query, long_query, number, Read, got, refused, need, on_read, rewriter_bytes, rewriter_depth, selection_bytes, selection_depth}
use Rattle.rules.specs.Bytes.{of_big, is_empty, is_text, tag_of, body_of, rest_of, whole_of, is_part, is_field_part, every, each}
use Rattle.rules.specs.Query.{Word, word, Kind, must, should, must_not, filter, Numbers, whole, float, Bound, unbounded, included, excluded, Query, term, phrase, boolean, boost, constant_score, match_all, match_none, range, Clauses, none, clause}
use Rattle.rules.specs.Stored.{is_boost}

-- the number that an answer gives for it: 0 for what was read
abbrev pub number_of : {A : Type 0} → Read A → ℕ
number_of (got a) = 0
number_of (refused r) = number r

-- a test that has to pass
abbrev pub sound : {A : Type 0} → Bool → Read A → Read A
sound b o = need b malformed_query o

-- what was read, if nothing is left over
unfoldable pub closed : Read Query → Bool → Read Query
closed (got q) ended = sound ended (got q)
closed (refused r) ended = refused r

-- ---- bodies that hold no query

unfoldable pub empty_in : Query → List ℕ → Read Query
empty_in q b = sound (is_empty b) (got q)

unfoldable pub term_in : List ℕ → Read Query
term_in b =
    sound (is_field_part b && (is_part text_tag (rest_of b) && (is_text (body_of (rest_of b)) && is_empty (rest_of (rest_of b)))))
    (got (term (body_of b) (body_of (rest_of b))))

-- a part 12: four bytes of position, and a text
abbrev pub is_word : List ℕ → Bool
is_word s = is_part word_tag s && (leb 4 (length (body_of s)) && is_text (drop 4 (body_of s)))

abbrev pub word_of : List ℕ → Word
word_of s = word (of_big (take 4 (body_of s))) (drop 4 (body_of s))

unfoldable pub phrase_in : List ℕ → Read Query
phrase_in b = sound (is_field_part b && every is_word (rest_of b)) (got (phrase (body_of b) (each word_of (rest_of b))))

-- a part 30, 31 or 32
unfoldable pub is_bound : List ℕ → Bool
is_bound s =
    (is_part open_tag s && is_empty (body_of s))
    || ((is_part included_tag s || is_part excluded_tag s) && eqb (length (body_of s)) 8)

unfoldable pub bound_of : List ℕ → Bound
bound_of s =
    cond (eqb (tag_of s) open_tag) unbounded
    (cond (eqb (tag_of s) included_tag) (included (of_big (body_of s))) (excluded (of_big (body_of s))))

unfoldable pub range_in : Numbers → List ℕ → Read Query
range_in n b =
    let lower = rest_of b in
    let upper = rest_of lower in
    sound (is_field_part b && (is_bound lower && (is_bound upper && is_empty (rest_of upper))))
    (got (range n (body_of b) (bound_of lower) (bound_of upper)))

-- ---- bodies that hold queries: `sub` reads what stands inside

unfoldable pub boost_in : (List ℕ → Read Query) → List ℕ → Read Query
boost_in sub b =
    let bits = of_big (take 4 b) in
    let inner = on_read (boost bits) (sub (drop 4 b)) in
    sound (leb 4 (length b) && is_boost bits) inner

unfoldable pub constant_score_in : (List ℕ → Read Query) → List ℕ → Read Query
constant_score_in sub b = on_read constant_score (sub b)

abbrev pub is_kind : ℕ → Bool
is_kind t = leb must_tag t && leb t filter_tag

abbrev pub kind_of : ℕ → Kind
kind_of t = cond (eqb t must_tag) must (cond (eqb t should_tag) should (cond (eqb t must_not_tag) must_not filter))

-- a clause and those that follow it: a fault of the first comes first
unfoldable pub added : Kind → Read Query → Read Clauses → Read Clauses
added k (got q) cs = on_read (clause k q) cs
added k (refused r) cs = refused r

-- the clauses in s; n bounds their number
unfoldable pub clauses_in : (List ℕ → Read Query) → ℕ → List ℕ → Read Clauses
clauses_in sub zero s = sound (is_empty s) (got none)
clauses_in sub (suc n) s =
    let more = added (kind_of (tag_of s)) (sub (body_of s)) (clauses_in sub n (rest_of s)) in
    let first = sound (whole_of s && is_kind (tag_of s)) more in
    cond (is_empty s) (got none) first

unfoldable pub boolean_in : (List ℕ → Read Query) → List ℕ → Read Query
boolean_in sub b =
    let clauses = on_read (boolean (of_big (body_of b))) (clauses_in sub (length (rest_of b)) (rest_of b)) in
    sound (is_part minimum_tag b && eqb (length (body_of b)) 2) clauses

-- ---- a query

abbrev pub is_query : ℕ → Bool
is_query t = leb term_tag t && leb t float_range_tag

-- the body of a record with the tag t
unfoldable pub body_in : (List ℕ → Read Query) → ℕ → List ℕ → Read Query
body_in sub t b =
    cond (eqb t term_tag) (term_in b)
    (cond (eqb t phrase_tag) (phrase_in b)
    (cond (eqb t boolean_tag) (boolean_in sub b)
    (cond (eqb t boost_tag) (boost_in sub b)
    (cond (eqb t constant_score_tag) (constant_score_in sub b)
    (cond (eqb t match_all_tag) (empty_in match_all b)
    (cond (eqb t match_none_tag) (empty_in match_none b)
    (cond (eqb t whole_range_tag) (range_in whole b)
    (range_in float b))))))))

-- one query that fills s, of at most d records one in another
unfoldable pub decode : ℕ → List ℕ → Read Query
decode zero s = sound (whole_of s && is_query (tag_of s)) (refused deep_query)
decode (suc d) s =
    let record-read = closed (body_in (decode d) (tag_of s) (body_of s)) (is_empty (rest_of s)) in
    sound (whole_of s && is_query (tag_of s)) record-read

-- 19, then 20 and 21 in reading order
abbrev pub read_within : ℕ → ℕ → List ℕ → Read Query
read_within most d s = let q = decode d s in need (leb (length s) most) long_query q

-- as the rewriter and as selection read a query
abbrev pub read_for_rewriting : List ℕ → Read Query
read_for_rewriting s = read_within rewriter_bytes rewriter_depth s

abbrev pub read_for_selection : List ℕ → Read Query
read_for_selection s = read_within selection_bytes selection_depth s
