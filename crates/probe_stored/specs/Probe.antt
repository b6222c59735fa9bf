-- The measures of what was read, and 0 where nothing was.
use Rattle.std.specs.Prelude.{ℕ}
use Rattle.rules.specs.Numbers.{Read, got, refused}
use Rattle.rules.specs.Query.{Query}
use Rattle.rules.specs.Rewriting.{weight, largest}

abbrev pub weight_read : Read Query → ℕ
weight_read (got q) = weight q
weight_read (refused r) = 0

abbrev pub largest_read : Read Query → ℕ
largest_read (got q) = largest q
largest_read (refused r) = 0
