-- Bytes that were checked: the stored form of a query, or of clauses. What functions over stored bytes ask for and speak of.
use Rattle.std.specs.Prelude.{◌≡◌, ℕ, List}
use Rattle.rules.specs.Query.{Query, Clauses}
use Rattle.rules.specs.Stored.{encode, encodes, Valid, Valids}

-- s is the stored form of q
pub record Is (s : List ℕ) (q : Query) : Type 0 where
  pub valid : Valid q
  pub form : encode q ≡ s

pub record Are (s : List ℕ) (cs : Clauses) : Type 0 where
  pub valid : Valids cs
  pub form : encodes cs ≡ s

-- s is the stored form of some query; of some clauses
pub record Stored (s : List ℕ) : Type 0 where
  pub query : Query
  pub is : Is s query

pub record StoredClauses (s : List ℕ) : Type 0 where
  pub clauses : Clauses
  pub are : Are s clauses
