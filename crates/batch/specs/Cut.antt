-- A slice of queries that was cut, and the answer of the cut.
use Rattle.std.specs.Prelude.{◌≡◌, ℕ, ◌≤◌, List, [], length, Result}
use Rattle.rules.specs.Numbers.{Read, got, refused, queries_most}
use Rattle.rules.specs.Batch.{cut}
use Rattle.names.specs.Refusals.{answered}
use Rattle.names.specs.declared.refusal.Refusal.{Refusal}

-- how many queries there are
abbrev pub cut_as : Read (List (List ℕ)) → Result ℕ Refusal
cut_as o = answered (length {A = List ℕ}) o

-- the queries of a slice; none where it can not be cut
abbrev pub queries_in : Read (List (List ℕ)) → List (List ℕ)
queries_in (got qs) = qs
queries_in (refused r) = []

unfoldable pub queries_of : List ℕ → List (List ℕ)
queries_of s = queries_in (cut s)

-- a slice with so many queries
pub record Cuts (s : List ℕ) (many : ℕ) : Type 0 where
  pub is : cut s ≡ got (queries_of s)
  pub count : many ≡ length (queries_of s)
  pub few : many ≤ queries_most
