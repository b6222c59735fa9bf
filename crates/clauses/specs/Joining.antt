-- What joins clauses and what stands before one, as the code holds it, and what was read of both before a clause.
use Rattle.std.specs.Prelude.{◌≡◌, ℕ, List, Option, Some, None}
use Rattle.rules.specs.Query.{Clauses}
use Rattle.rules.specs.Lexing.{Token}
use Rattle.rules.specs.Parsing.{Conjunction, unjoined, joined_by_and, joined_by_or, Modifier, unmodified, required, prohibited, conjunction_at, after_conjunction, modifier_at, after_modifier}
use Rattle.clauses.specs.declared.kinds.Conjunction.{Conjunction as code-conjunction}
use Rattle.clauses.specs.declared.kinds.Conjunction.TheVariants.{And, Or}
use Rattle.clauses.specs.declared.kinds.Modifier.{Modifier as code-modifier}
use Rattle.clauses.specs.declared.kinds.Modifier.TheVariants.{Required, Prohibited}

abbrev pub conjunction_of : Option code-conjunction → Conjunction
conjunction_of None = unjoined
conjunction_of (Some And) = joined_by_and
conjunction_of (Some Or) = joined_by_or

abbrev pub modifier_of : Option code-modifier → Modifier
modifier_of None = unmodified
modifier_of (Some Required) = required
modifier_of (Some Prohibited) = prohibited

-- behind the clauses cs a conjunction and a modifier stand at i, either or none, and the clause at k
pub record Leads (ts : List Token) (cs : Clauses) (i : ℕ) (c : Conjunction) (m : Modifier) (k : ℕ) : Type 0 where
  pub joins : conjunction_at cs ts i ≡ c
  pub modifies : modifier_at ts (after_conjunction c i) ≡ m
  pub next : k ≡ after_modifier m (after_conjunction c i)
