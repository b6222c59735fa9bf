-- Bounds of the measures: every query weighs something, and its largest minimum fits two bytes.
use Prim.Native.Nat.{◌^◌, ◌≤◌, ◌<◌}
use native.Mathlib.Omega.{arith}
use Rattle.rules.specs.Query.{Query, term, phrase, boolean, boost, constant_score, match_all, match_none, range, Clauses, none, clause}
use Rattle.rules.specs.Stored.{Valid, Valids}
use Rattle.rules.specs.Rewriting.{weight, largest, largests}

-- every query weighs something
pub weight_some : (q : Query) → 1 ≤ weight q
unfolding weight
weight_some (term f t) = omega arith
weight_some (phrase f ws) = omega arith
weight_some (boolean m cs) = omega arith
weight_some (boost b q) = omega arith
weight_some (constant_score q) = omega arith
weight_some match_all = omega arith
weight_some match_none = omega arith
weight_some (range n f l u) = omega arith

mutual
  unfolding largest Valid

  pub largest_below : (q : Query) → Valid q → largest q < 2 ^ 16
  largest_below (term f t) v = omega arith
  largest_below (phrase f ws) v = omega arith
  largest_below (boolean m cs) v = omega (arith, v.0, largests_below cs v.1)
  largest_below (boost b q) v = largest_below q v.1
  largest_below (constant_score q) v = largest_below q v
  largest_below match_all v = omega arith
  largest_below match_none v = omega arith
  largest_below (range n f l u) v = omega arith

  pub largests_below : (cs : Clauses) → Valids cs → largests cs < 2 ^ 16
  largests_below none v = omega arith
  largests_below (clause k q cs) v = omega (arith, largest_below q v.0, largests_below cs v.1)
