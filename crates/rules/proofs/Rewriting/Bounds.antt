-- A round raises no measure: so no query that the rewriter makes passes the limits. Sections 'Stored form' and 'One round of rewriting'.
use mathlib.Core.Path.{◌≡◌, refl}
use Prim.Native.Nat.{ℕ, ◌+◌, ◌/◌, ◌≤◌, max}
use mathlib.Core.List.{[]}
use mathlib.Core.Bool.{Bool}
use native.Mathlib.Omega.{arith}
use lib.ListN.{length}
use Rattle.rules.specs.Numbers.{rewriter_bytes, rewriter_depth, selection_bytes, selection_depth}
use Rattle.rules.specs.Query.{Kind, must, should, must_not, filter, Query, term, phrase, boolean, boost, constant_score, match_all, match_none, range, Clauses, none, clause, depth}
use Rattle.rules.specs.Stored.{encode_words, encode}
use Rattle.rules.specs.Rewriting.{largest, largests, base, lone, rewrite_once, rounds, result_of, clause_count, bulk, bulks}
use Rattle.rules.proofs.Stored.Sizes.{length_word}
use Rattle.rules.proofs.Rewriting.Walk.{Law, join, once_law}
use Rattle.rules.proofs.Rewriting.Rounds.{after_rounds, after_law, rounds_law}
use Rattle.rules.proofs.Rewriting.Measures.{bulk_is, measured, reach, unboosted, reaches, unboosted_reach, unboosted_base}

-- q is in no measure above p; ds in none above cs
pub record Bounded (p q : Query) : Type 0 where
  pub in_bulk : bulk q ≤ bulk p
  pub in_reach : reach q ≤ reach p
  pub in_unboosted : unboosted q ≤ unboosted p
  pub in_largest : largest q ≤ largest p

pub record BoundedAll (cs ds : Clauses) : Type 0 where
  pub in_bulk : bulks ds ≤ bulks cs
  pub in_reach : reaches ds ≤ reaches cs
  pub in_largest : largests ds ≤ largests cs

base_bounded : (q : Query) → (3 ≤ bulk q) × (bulk (base q) ≤ bulk q) × (largest (base q) ≡ largest q)
unfolding base bulk largest
base_bounded (term f t) = omega arith
base_bounded (phrase f ws) = omega arith
base_bounded (boolean m cs) = omega arith
base_bounded (boost b q) = omega arith
base_bounded (constant_score q) = omega arith
base_bounded match_all = omega arith
base_bounded match_none = omega arith
base_bounded (range n f l u) = omega arith

join_bounded : (k : Kind) (q : Query) (xs cs : Clauses)
    → (bulks (join xs (clause k q cs)) ≡ 4 + bulk q + bulks (join xs cs))
    × (reaches (join xs (clause k q cs)) ≡ max (unboosted q) (reaches (join xs cs)))
    × (largests (join xs (clause k q cs)) ≡ max (largest q) (largests (join xs cs)))
unfolding bulk reach largest
join_bounded k q none cs = (refl, refl, refl)
join_bounded k q (clause j p xs) cs = omega (arith, join_bounded k q xs cs)

lone_bounded : (m : ℕ) (k : Kind) (q : Query) → Bounded (boolean m (clause k q none)) (lone k q)
unfolding lone bulk reach largest
lone_bounded m must q = omega (arith, unboosted_reach q)
lone_bounded m should q = omega (arith, unboosted_reach q)
lone_bounded m must_not q = omega arith
lone_bounded m filter q = omega (arith, unboosted_reach q)

pub bounds_law : (strict : Bool) → Law strict Bounded (λ m cs ds. BoundedAll cs ds)
unfolding bulk reach largest encode_words
bounds_law strict = record {
  stays = λ q. omega arith;
  goes = λ p q r h g. omega arith;
  stay = λ m cs. omega arith;
  go = λ m cs ds es h g. omega arith;
  in_boost = λ b p q h. omega arith;
  in_constant = λ p q h. omega arith;
  in_boolean = λ m cs ds h. omega arith;
  in_clause = λ m k p q cs ds h g. omega arith;
  off_boost = λ b q. omega (arith, unboosted_reach q);
  off_constant = λ q. omega (arith, unboosted_reach q);
  two_boosts = λ b c q. omega arith;
  no_words = λ f. omega arith;
  one_word = λ f t p. omega (arith, length_word p t []);
  dead_none = λ m cs h. omega arith;
  negative_none = λ m cs h. omega arith;
  few_none = λ m cs h. omega arith;
  alone = λ m k q h c n. lone_bounded m k q;
  skip = λ m k cs h. omega arith;
  round = λ b q. omega arith;
  double = λ m j k q s xs cs e c. omega (arith, join_bounded k q xs cs, base_bounded q, unboosted_base q);
  again = λ m j k q t xs cs e c. omega (arith, join_bounded k q xs cs);
}

-- ---- one round

module _ (strict : Bool) (q : Query) where
  once_bounded : Bounded q (rewrite_once strict q)
  once_bounded = once_law strict Bounded (λ m cs ds. BoundedAll cs ds) (bounds_law strict) q

  -- the length and the number of clauses together never rise
  pub length_once : length (encode (rewrite_once strict q)) + clause_count (rewrite_once strict q) ≤ length (encode q) + clause_count q
  length_once = omega (arith, bulk_is q, bulk_is (rewrite_once strict q), once_bounded)

  pub reach_once : reach (rewrite_once strict q) ≤ reach q
  reach_once = once_bounded.in_reach

  pub largest_once : largest (rewrite_once strict q) ≤ largest q
  largest_once = once_bounded.in_largest

-- ---- every round

-- 38,229: what the rewriter accepts, and a byte more for each clause, which takes 6 or more
abbrev pub round_bytes : ℕ
round_bytes = rewriter_bytes + rewriter_bytes / 6

length_bounded : (p q : Query) → Bounded p q → length (encode p) ≤ rewriter_bytes → length (encode q) ≤ round_bytes
length_bounded p q h l = omega (arith, bulk_is p, bulk_is q, measured p)

depth_bounded : (p q : Query) → Bounded p q → depth p ≤ rewriter_depth → depth q ≤ selection_depth
depth_bounded p q h l = omega (arith, measured p, measured q)

module _ (strict : Bool) (q : Query) where
  module _ (n : ℕ) where
    after_bounded : Bounded q (after_rounds strict n q)
    after_bounded = after_law strict Bounded (λ m cs ds. BoundedAll cs ds) (bounds_law strict) q n

    pub length_after : length (encode q) ≤ rewriter_bytes → length (encode (after_rounds strict n q)) ≤ round_bytes
    length_after l = length_bounded q (after_rounds strict n q) after_bounded l

    pub depth_after : depth q ≤ rewriter_depth → depth (after_rounds strict n q) ≤ selection_depth
    depth_after l = depth_bounded q (after_rounds strict n q) after_bounded l

    pub largest_after : largest (after_rounds strict n q) ≤ largest q
    largest_after = after_bounded.in_largest

  -- so every result lies within selection's limits
  module _ (k : ℕ) where
    result_bounded : Bounded q (result_of (rounds strict k q))
    result_bounded = rounds_law strict Bounded (λ m cs ds. BoundedAll cs ds) (bounds_law strict) q k

    pub within_bytes : length (encode q) ≤ rewriter_bytes → length (encode (result_of (rounds strict k q))) ≤ selection_bytes
    within_bytes l = omega (arith, length_bounded q (result_of (rounds strict k q)) result_bounded l)

    pub within_depth : depth q ≤ rewriter_depth → depth (result_of (rounds strict k q)) ≤ selection_depth
    within_depth l = depth_bounded q (result_of (rounds strict k q)) result_bounded l
