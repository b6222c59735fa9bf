-- What the steps of a Boolean ask of its clauses, beyond what the definitions name.
use Rattle.std.specs.Prelude.{Bool, true, false}
use Rattle.rules.specs.Query.{Clauses, none, clause}

abbrev pub is_one_clause : Clauses → Bool
is_one_clause none = false
is_one_clause (clause k q none) = true
is_one_clause (clause k q (clause j p cs)) = false
