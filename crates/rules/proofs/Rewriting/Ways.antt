-- The two ways of rewriting: the original's is what it was, and both are one where no minimum is above 1. Section 'One round of rewriting', and order 3.
use mathlib.Core.Path.{◌≡◌, refl, ap}
use mathlib.Core.Logic.{◌⊎◌, inl, inr}
use Prim.Native.Nat.{ℕ, zero, suc, ◌≤◌}
use mathlib.Core.Bool.{true}
use native.Mathlib.Omega.{arith}
use lib.Ieee.{Float}
use borrow.Author.Tests.{le-leb}
use Rattle.rules.specs.Query.{Kind, must, should, must_not, filter, Query, term, phrase, boolean, boost, constant_score, match_all, match_none, range, Clauses, none, clause}
use Rattle.rules.specs.Floats.{one, plus}
use Rattle.rules.specs.Rewriting.{largest, largests, scored, original, strictly, stands_for, base, boost_of, Merged, empty, merged, put, add_merged, merge_onto, clauses_of, merged_boolean, lone_or_merged, of_live, live, rewrite_boolean, rewrite_once, rewrite_each, rounds, rewrite, weight}
use Rattle.rules.proofs.Rewriting.Bounds.{largest_once}

-- ---- the original's way: the one rule that takes the way says what it said before there were two, at every minimum

pub stands_original : (m : ℕ) (j k : Kind) → (j ≡ k) ⊎ ((j ≡ must) × (k ≡ filter)) → stands_for original m j k ≡ true
stands_original m j k (inl e) = rw e (own k)
  where
    own : (k : Kind) → stands_for original m k k ≡ true
    own must = refl
    own should = refl
    own must_not = refl
    own filter = refl
stands_original m j k (inr e) = rw (e.0, e.1)

-- ---- under a minimum of at most 1

module _ (m : ℕ) (h : m ≤ 1) where
  stands_alike : (j k : Kind) → stands_for strictly m j k ≡ stands_for original m j k
  stands_alike must must = refl
  stands_alike must should = refl
  stands_alike must must_not = refl
  stands_alike must filter = refl
  stands_alike should must = refl
  stands_alike should should = le-leb m 1 h
  stands_alike should must_not = refl
  stands_alike should filter = refl
  stands_alike must_not must = refl
  stands_alike must_not should = refl
  stands_alike must_not must_not = refl
  stands_alike must_not filter = refl
  stands_alike filter must = refl
  stands_alike filter should = refl
  stands_alike filter must_not = refl
  stands_alike filter filter = refl

  put_alike : (f : Float → Float) (s : Float) (k : Kind) (q : Query) (ms : Merged) → put strictly m f s k q ms ≡ put original m f s k q ms
  unfolding put
  put_alike f s k q empty = refl
  put_alike f s k q (merged j p t ms) = rw (stands_alike j k, put_alike f s k q ms)

  add_alike : (k : Kind) (q : Query) (ms : Merged) → add_merged strictly m k q ms ≡ add_merged original m k q ms
  unfolding add_merged
  add_alike k q ms = rw (put_alike (λ t. plus t (boost_of q)) (boost_of q) k (base q) ms, put_alike (λ t. t) one k q ms)

  merge_alike : (ms : Merged) (cs : Clauses) → merge_onto strictly m ms cs ≡ merge_onto original m ms cs
  unfolding merge_onto
  merge_alike ms none = refl
  merge_alike ms (clause k q cs) = rw (add_alike k q ms) (merge_alike (add_merged original m k q ms) cs)

  merged_alike : (cs : Clauses) → merged_boolean strictly m cs ≡ merged_boolean original m cs
  unfolding merged_boolean
  merged_alike cs = ap (λ (ms : Merged). boolean m (clauses_of ms)) (merge_alike empty cs)

  lone_alike : (cs : Clauses) → lone_or_merged strictly m cs ≡ lone_or_merged original m cs
  unfolding lone_or_merged
  lone_alike none = merged_alike none
  lone_alike (clause k q none) = rw (merged_alike (clause k q none))
  lone_alike (clause k q (clause j p cs)) = merged_alike (clause k q (clause j p cs))

  boolean_alike : (cs : Clauses) → rewrite_boolean strictly m cs ≡ rewrite_boolean original m cs
  unfolding rewrite_boolean of_live
  boolean_alike cs = rw (lone_alike (live cs))

-- ---- of a query with no minimum above 1

mutual
  unfolding rewrite_once largest

  pub once_alike : (q : Query) → largest q ≤ 1 → rewrite_once strictly q ≡ rewrite_once original q
  once_alike (term f t) h = refl
  once_alike (phrase f ws) h = refl
  once_alike (boolean m cs) h = rw (each_alike cs (omega arith)) (boolean_alike m (omega arith) (rewrite_each original cs))
  once_alike (boost b q) h = rw (once_alike q h)
  once_alike (constant_score q) h = ap scored (once_alike q h)
  once_alike match_all h = refl
  once_alike match_none h = refl
  once_alike (range n f l u) h = refl

  each_alike : (cs : Clauses) → largests cs ≤ 1 → rewrite_each strictly cs ≡ rewrite_each original cs
  each_alike none h = refl
  each_alike (clause k q cs) h = rw (once_alike q (omega arith), each_alike cs (omega arith))

rounds_alike : (k : ℕ) (q : Query) → largest q ≤ 1 → rounds strictly k q ≡ rounds original k q
unfolding rounds
rounds_alike zero q h = refl
rounds_alike (suc k) q h = rw (once_alike q h, rounds_alike k (rewrite_once original q) (omega (arith, largest_once original q)))

pub ways_alike : (q : Query) → largest q ≤ 1 → rewrite strictly q ≡ rewrite original q
ways_alike q h = rounds_alike (weight q) q h
