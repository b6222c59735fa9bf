-- The merging of clauses in their place: the first clause is kept and goes once over those behind it, and what it stands for it takes up; then the next
-- of those that are left. Section 'One round of rewriting'.
use Rattle.std.specs.Prelude.{ℕ, Bool, ◌&&◌, cond, Float}
use Rattle.rules.specs.Query.{Kind, Query, Clauses, none, clause, equal}
use Rattle.rules.specs.Floats.{one, plus}
use Rattle.rules.specs.Rewriting.{summable, stands_for, base, boost_of, empty, merge_onto, clauses_of}

-- what a clause is compared by
abbrev pub held : ℕ → Kind → Query → Query
held m k q = cond (summable m k) (base q) q

-- a clause of kind k that is compared by h takes up one of kind j and query p
abbrev pub eats : Bool → ℕ → Kind → Query → Kind → Query → Bool
eats strict m k h j p = stands_for strict m k j && equal h (held m j p)

-- the sum that a clause starts with
abbrev pub own_sum : ℕ → Kind → Query → Float
own_sum m k q = cond (summable m k) (boost_of q) one

-- the sum once one of kind j and query p was taken up
abbrev pub fed : ℕ → Kind → Query → Float → Float
fed m j p s = cond (summable m j) (plus s (boost_of p)) s

-- the sum from s on, once it has gone over cs
unfoldable pub sum_eaten : Bool → ℕ → Kind → Query → Float → Clauses → Float
sum_eaten strict m k h s none = s
sum_eaten strict m k h s (clause j p cs) = sum_eaten strict m k h (cond (eats strict m k h j p) (fed m j p s) s) cs

-- what it leaves of cs, in order
unfoldable pub stayed : Bool → ℕ → Kind → Query → Clauses → Clauses
stayed strict m k h none = none
stayed strict m k h (clause j p cs) = cond (eats strict m k h j p) (stayed strict m k h cs) (clause j p (stayed strict m k h cs))

-- the clauses that merging gives
unfoldable pub merged_clauses : Bool → ℕ → Clauses → Clauses
merged_clauses strict m cs = clauses_of (merge_onto strict m empty cs)
