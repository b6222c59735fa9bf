-- Measures of a query that no round raises, and what they say of its stored form's length and of its depth. Sections 'Stored form' and 'One round of rewriting'.
use mathlib.Core.Path.{◌≡◌, refl}
use Prim.Native.Nat.{ℕ, ◌+◌, ◌*◌, ◌≤◌, max}
use native.Mathlib.Omega.{arith}
use lib.ListN.{length}
use Rattle.rules.specs.Query.{Query, term, phrase, boolean, boost, constant_score, match_all, match_none, range, Clauses, none, clause, depth, depths}
use Rattle.rules.specs.Stored.{encode, encodes}
use Rattle.rules.specs.Rewriting.{weight, weights, base, clause_count, clause_counts, bulk, bulks}
use Rattle.rules.proofs.Stored.Sizes.{length_term, length_phrase, length_boolean, length_boost, length_constant_score, length_match_all, length_match_none, length_range, length_none, length_clause}

-- ---- bulk

mutual
  unfolding bulk clause_count

  pub bulk_is : (q : Query) → bulk q ≡ length (encode q) + clause_count q
  bulk_is (term f t) = omega (arith, length_term f t)
  bulk_is (phrase f ws) = omega (arith, length_phrase f ws)
  bulk_is (boolean m cs) = omega (arith, length_boolean m cs, bulks_are cs)
  bulk_is (boost b q) = omega (arith, length_boost b q, bulk_is q)
  bulk_is (constant_score q) = omega (arith, length_constant_score q, bulk_is q)
  bulk_is match_all = omega (arith, length_match_all)
  bulk_is match_none = omega (arith, length_match_none)
  bulk_is (range n f l u) = omega (arith, length_range n f l u)

  pub bulks_are : (cs : Clauses) → bulks cs ≡ length (encodes cs) + clause_counts cs
  bulks_are none = omega (arith, length_none)
  bulks_are (clause k q cs) = omega (arith, length_clause k q cs, bulk_is q, bulks_are cs)

-- ---- how deep a query reaches; the clauses' outer boosts do not count: `unboosted q` is `reach (base q)`

unfoldable mutual
  pub reach : Query → ℕ
  reach (term f t) = 1
  reach (phrase f ws) = 1
  reach (boolean m cs) = 3 + reaches cs
  reach (boost b q) = 1 + reach q
  reach (constant_score q) = 1 + reach q
  reach match_all = 1
  reach match_none = 1
  reach (range n f l u) = 1

  pub unboosted : Query → ℕ
  unboosted (term f t) = 1
  unboosted (phrase f ws) = 1
  unboosted (boolean m cs) = 3 + reaches cs
  unboosted (boost b q) = reach q
  unboosted (constant_score q) = 1 + reach q
  unboosted match_all = 1
  unboosted match_none = 1
  unboosted (range n f l u) = 1

  pub reaches : Clauses → ℕ
  reaches none = 0
  reaches (clause k q cs) = max (unboosted q) (reaches cs)

-- one outer boost counts for one
pub unboosted_reach : (q : Query) → (unboosted q ≤ reach q) × (reach q ≤ 1 + unboosted q)
unfolding reach
unboosted_reach (term f t) = omega arith
unboosted_reach (phrase f ws) = omega arith
unboosted_reach (boolean m cs) = omega arith
unboosted_reach (boost b q) = omega arith
unboosted_reach (constant_score q) = omega arith
unboosted_reach match_all = omega arith
unboosted_reach match_none = omega arith
unboosted_reach (range n f l u) = omega arith

pub unboosted_base : (q : Query) → unboosted q ≡ reach (base q)
unfolding reach base
unboosted_base (term f t) = refl
unboosted_base (phrase f ws) = refl
unboosted_base (boolean m cs) = refl
unboosted_base (boost b q) = refl
unboosted_base (constant_score q) = refl
unboosted_base match_all = refl
unboosted_base match_none = refl
unboosted_base (range n f l u) = refl

-- ---- what they say

-- a clause takes 6 bytes or more, and at least as many bytes as it weighs; the reach lies between the depth and three times the depth
mutual
  unfolding bulk clause_count weight reach depth

  pub measured : (q : Query) → (3 + 7 * clause_count q ≤ bulk q) × (weight q + clause_count q ≤ bulk q) × (depth q ≤ reach q) × (reach q ≤ 3 * depth q)
  measured (term f t) = omega arith
  measured (phrase f ws) = omega arith
  measured (boolean m cs) = omega (arith, all_measured cs)
  measured (boost b q) = omega (arith, measured q)
  measured (constant_score q) = omega (arith, measured q)
  measured match_all = omega arith
  measured match_none = omega arith
  measured (range n f l u) = omega arith

  all_measured : (cs : Clauses)
      → (7 * clause_counts cs ≤ bulks cs) × (weights cs + clause_counts cs ≤ bulks cs) × (depths cs ≤ 1 + reaches cs) × (reaches cs ≤ 3 * depths cs)
  all_measured none = omega arith
  all_measured (clause k q cs) = omega (arith, measured q, all_measured cs, unboosted_reach q)

-- so there are at most as many rounds as bytes
pub weight_length : (q : Query) → weight q ≤ length (encode q)
weight_length q = omega (arith, measured q, bulk_is q)
