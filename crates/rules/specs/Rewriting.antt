-- Weight, one round of rewriting, all rounds and their count. Section 'One round of rewriting'.
use Rattle.std.specs.Prelude.{ℕ, zero, suc, ◌+◌, ◌≤◌, max, List, [], ◌∷◌, Bool, true, false, not, ◌&&◌, ◌||◌, cond, length, leb, ltb, Float}
use Rattle.rules.specs.Query.{Word, word, Kind, must, should, must_not, filter, Query, term, phrase, boolean, boost, constant_score, match_all, match_none, range, Clauses, none, clause, equal}
use Rattle.rules.specs.Stored.{encode_bound, encode_words}
use Rattle.rules.specs.Floats.{one, widened, narrowed, plus, times, is_one}

-- ---- measures

unfoldable mutual
  pub weight : Query → ℕ
  weight (term f t) = 1
  weight (phrase f ws) = 2
  weight (boolean m cs) = 3 + weights cs
  weight (boost b q) = 1 + weight q
  weight (constant_score q) = 1 + weight q
  weight match_all = 1
  weight match_none = 1
  weight (range n f l u) = 1

  pub weights : Clauses → ℕ
  weights none = 0
  weights (clause k q cs) = 1 + weight q + weights cs

-- the largest minimum_should_match
unfoldable mutual
  pub largest : Query → ℕ
  largest (term f t) = 0
  largest (phrase f ws) = 0
  largest (boolean m cs) = max m (largests cs)
  largest (boost b q) = largest q
  largest (constant_score q) = largest q
  largest match_all = 0
  largest match_none = 0
  largest (range n f l u) = 0

  pub largests : Clauses → ℕ
  largests none = 0
  largests (clause k q cs) = max (largest q) (largests cs)

-- how many clauses, nested ones too
unfoldable mutual
  pub clause_count : Query → ℕ
  clause_count (term f t) = 0
  clause_count (phrase f ws) = 0
  clause_count (boolean m cs) = clause_counts cs
  clause_count (boost b q) = clause_count q
  clause_count (constant_score q) = clause_count q
  clause_count match_all = 0
  clause_count match_none = 0
  clause_count (range n f l u) = 0

  pub clause_counts : Clauses → ℕ
  clause_counts none = 0
  clause_counts (clause k q cs) = 1 + clause_count q + clause_counts cs

-- bytes of the stored form, and one more for each clause: merging takes a clause of 6 bytes or more and adds a boost of 7
unfoldable mutual
  pub bulk : Query → ℕ
  bulk (term f t) = 9 + length f + length t
  bulk (phrase f ws) = 6 + length f + length (encode_words ws)
  bulk (boolean m cs) = 8 + bulks cs
  bulk (boost b q) = 7 + bulk q
  bulk (constant_score q) = 3 + bulk q
  bulk match_all = 3
  bulk match_none = 3
  bulk (range n f l u) = 6 + length f + length (encode_bound l) + length (encode_bound u)

  pub bulks : Clauses → ℕ
  bulks none = 0
  bulks (clause k q cs) = 4 + bulk q + bulks cs

-- ---- a boost, a constant score and a phrase, of what is inside after its own round

unfoldable pub is_none : Query → Bool
is_none (term f t) = false
is_none (phrase f ws) = false
is_none (boolean m cs) = false
is_none (boost b q) = false
is_none (constant_score q) = false
is_none match_all = false
is_none match_none = true
is_none (range n f l u) = false

-- a nested boost is one 32-bit product
unfoldable pub boosted : ℕ → Query → Query
boosted b (term f t) = boost b (term f t)
boosted b (phrase f ws) = boost b (phrase f ws)
boosted b (boolean m cs) = boost b (boolean m cs)
boosted b (boost c q) = boost (times c b) q
boosted b (constant_score q) = boost b (constant_score q)
boosted b match_all = boost b match_all
boosted b match_none = match_none
boosted b (range n f l u) = boost b (range n f l u)

unfoldable pub scored : Query → Query
scored (term f t) = constant_score (term f t)
scored (phrase f ws) = constant_score (phrase f ws)
scored (boolean m cs) = constant_score (boolean m cs)
scored (boost c q) = constant_score q
scored (constant_score q) = constant_score q
scored match_all = constant_score match_all
scored match_none = match_none
scored (range n f l u) = constant_score (range n f l u)

unfoldable pub phrased : List ℕ → List Word → Query
phrased f [] = match_none
phrased f (word p t ∷ []) = term f t
phrased f (v ∷ w ∷ ws) = phrase f (v ∷ w ∷ ws)

-- ---- two ways of rewriting, alike but for Should clauses under a minimum above 1: those that repeat are dropped, as in the Rust; or, strict, all are kept

abbrev pub original : Bool
original = false

abbrev pub strictly : Bool
strictly = true

-- where a rewriting keeps what a query is true of: strict, always; else where no minimum is above 1. n is the largest one
abbrev pub Fair : Bool → ℕ → Type 0
Fair true n = Unit {0}
Fair false n = n ≤ 1

-- ---- kinds

abbrev pub is_needed : Kind → Bool
is_needed must = true
is_needed should = false
is_needed must_not = false
is_needed filter = true

abbrev pub is_must_not : Kind → Bool
is_must_not must = false
is_must_not should = false
is_must_not must_not = true
is_must_not filter = false

abbrev pub if_should : Kind → ℕ
if_should must = 0
if_should should = 1
if_should must_not = 0
if_should filter = 0

abbrev pub scores : Kind → Bool
scores must = true
scores should = true
scores must_not = false
scores filter = false

-- Must, and Should when the minimum is at most 1
abbrev pub summable : ℕ → Kind → Bool
summable m must = true
summable m should = leb m 1
summable m must_not = false
summable m filter = false

-- an equal clause of kind j, kept before, stands for one of kind k: of its own kind, and a Must for a Filter. Strict, a Should stands for no other while
-- the minimum m is above 1
abbrev pub stands_for : Bool → ℕ → Kind → Kind → Bool
stands_for strict m must must = true
stands_for strict m must should = false
stands_for strict m must must_not = false
stands_for strict m must filter = true
stands_for strict m should must = false
stands_for strict m should should = not strict || leb m 1
stands_for strict m should must_not = false
stands_for strict m should filter = false
stands_for strict m must_not must = false
stands_for strict m must_not should = false
stands_for strict m must_not must_not = true
stands_for strict m must_not filter = false
stands_for strict m filter must = false
stands_for strict m filter should = false
stands_for strict m filter must_not = false
stands_for strict m filter filter = true

-- ---- the merging of clauses

-- a query with one outer boost taken off, and that boost
unfoldable pub base : Query → Query
base (term f t) = term f t
base (phrase f ws) = phrase f ws
base (boolean m cs) = boolean m cs
base (boost b q) = q
base (constant_score q) = constant_score q
base match_all = match_all
base match_none = match_none
base (range n f l u) = range n f l u

unfoldable pub boost_of : Query → Float
boost_of (term f t) = one
boost_of (phrase f ws) = one
boost_of (boolean m cs) = one
boost_of (boost b q) = widened b
boost_of (constant_score q) = one
boost_of match_all = one
boost_of match_none = one
boost_of (range n f l u) = one

-- a merged clause: kind, base and running sum
pub data Merged : Type 0 where
  empty : Merged
  merged : Kind → Query → Float → Merged → Merged

-- q, of kind k: an equal one takes it up and changes its sum by f, or it is kept with the sum s
unfoldable pub put : Bool → ℕ → (Float → Float) → Float → Kind → Query → Merged → Merged
put strict m f s k q empty = merged k q s empty
put strict m f s k q (merged j p t ms) =
    let further = merged j p t (put strict m f s k q ms) in
    cond (stands_for strict m j k && equal p q) (merged j p (f t) ms) further

-- a summable clause without its boost, and another as it is
unfoldable pub add_merged : Bool → ℕ → Kind → Query → Merged → Merged
add_merged strict m k q ms =
    cond (summable m k) (put strict m (λ t. plus t (boost_of q)) (boost_of q) k (base q) ms) (put strict m (λ t. t) one k q ms)

unfoldable pub merge_onto : Bool → ℕ → Merged → Clauses → Merged
merge_onto strict m ms none = ms
merge_onto strict m ms (clause k q cs) = merge_onto strict m (add_merged strict m k q ms) cs

-- the sum is rounded once, and put back where it is not 1
abbrev pub reboosted : Kind → Query → Float → Query
reboosted k q s = cond (not (is_one s) && scores k) (boost (narrowed s) q) q

unfoldable pub clauses_of : Merged → Clauses
clauses_of empty = none
clauses_of (merged k q s ms) = clause k (reboosted k q s) (clauses_of ms)

unfoldable pub merged_boolean : Bool → ℕ → Clauses → Query
merged_boolean strict m cs = boolean m (clauses_of (merge_onto strict m empty cs))

-- ---- a Boolean, of clauses after their own round: the steps of `rewrite_boolean`, the last one first

-- one clause, with a minimum of at most 1
unfoldable pub lone : Kind → Query → Query
lone must q = q
lone should q = q
lone must_not q = match_none
lone filter q = boost 0 (constant_score q)

unfoldable pub lone_or_merged : Bool → ℕ → Clauses → Query
lone_or_merged strict m none = merged_boolean strict m none
lone_or_merged strict m (clause k q none) = cond (leb m 1) (lone k q) (merged_boolean strict m (clause k q none))
lone_or_merged strict m (clause k q (clause j p cs)) = merged_boolean strict m (clause k q (clause j p cs))

unfoldable pub should_count : Clauses → ℕ
should_count none = 0
should_count (clause k q cs) = if_should k + should_count cs

unfoldable pub only_must_not : Clauses → Bool
only_must_not none = true
only_must_not (clause k q cs) = is_must_not k && only_must_not cs

unfoldable pub of_live : Bool → ℕ → Clauses → Query
of_live strict m cs = cond (only_must_not cs) match_none (cond (ltb (should_count cs) m) match_none (lone_or_merged strict m cs))

-- a Must or a Filter that is MatchNone
unfoldable pub is_dead : Clauses → Bool
is_dead none = false
is_dead (clause k q cs) = (is_needed k && is_none q) || is_dead cs

-- a Should or a MustNot that is MatchNone is dropped
unfoldable pub live : Clauses → Clauses
live none = none
live (clause k q cs) = cond (is_none q) (live cs) (clause k q (live cs))

unfoldable pub rewrite_boolean : Bool → ℕ → Clauses → Query
rewrite_boolean strict m cs = cond (is_dead cs) match_none (of_live strict m (live cs))

-- ---- one round, children first

unfoldable mutual
  pub rewrite_once : Bool → Query → Query
  rewrite_once strict (term f t) = term f t
  rewrite_once strict (phrase f ws) = phrased f ws
  rewrite_once strict (boolean m cs) = rewrite_boolean strict m (rewrite_each strict cs)
  rewrite_once strict (boost b q) = cond (is_one (widened b)) (rewrite_once strict q) (boosted b (rewrite_once strict q))
  rewrite_once strict (constant_score q) = scored (rewrite_once strict q)
  rewrite_once strict match_all = match_all
  rewrite_once strict match_none = match_none
  rewrite_once strict (range n f l u) = range n f l u

  pub rewrite_each : Bool → Clauses → Clauses
  rewrite_each strict none = none
  rewrite_each strict (clause k q cs) = clause k (rewrite_once strict q) (rewrite_each strict cs)

-- ---- all rounds: until one changes nothing, the last unchanged one counted

pub data Rewritten : Type 0 where
  rewritten : Query → ℕ → Rewritten

-- the query and the count of an answer
abbrev pub result_of : Rewritten → Query
result_of (rewritten q n) = q

abbrev pub count_of : Rewritten → ℕ
count_of (rewritten q n) = n

abbrev pub one_round_more : Rewritten → Rewritten
one_round_more (rewritten q n) = rewritten q (suc n)

-- at most k rounds
unfoldable pub rounds : Bool → ℕ → Query → Rewritten
rounds strict zero q = rewritten q 0
rounds strict (suc k) q =
    let r = rewrite_once strict q in
    let further = one_round_more (rounds strict k r) in
    cond (equal r q) (rewritten r 1) further

-- each round that changes the query lowers its weight, so that this many are enough
abbrev pub rewrite : Bool → Query → Rewritten
rewrite strict q = rounds strict (weight q) q
