-- What the result is free of: no Boolean has two Must clauses, or two Should clauses with a minimum of at most 1, that are equal after one outer boost is taken off.
-- Section 'One round of rewriting'. These are the kinds that are `summable`.
use Rattle.std.specs.Prelude.{◌≡◌, ℕ, true}
use Rattle.rules.specs.Query.{Kind, Query, term, phrase, boolean, boost, constant_score, match_all, match_none, range, Clauses, none, clause}
use Rattle.rules.specs.Rewriting.{summable, base}

-- no clause of kind k is p after one outer boost is taken off
unfoldable pub Apart : Kind → Query → Clauses → Type 0
Apart k p none = Unit {0}
Apart k p (clause j q cs) = (k ≡ j → p ≡ base q → ⊥) × Apart k p cs

-- of the clauses of a Boolean with the minimum m
unfoldable pub Distinct : ℕ → Clauses → Type 0
Distinct m none = Unit {0}
Distinct m (clause k q cs) = (summable m k ≡ true → Apart k (base q) cs) × Distinct m cs

-- of every Boolean in a query
unfoldable mutual
  pub Tidy : Query → Type 0
  Tidy (term f t) = Unit {0}
  Tidy (phrase f ws) = Unit {0}
  Tidy (boolean m cs) = Distinct m cs × Tidies cs
  Tidy (boost b q) = Tidy q
  Tidy (constant_score q) = Tidy q
  Tidy match_all = Unit {0}
  Tidy match_none = Unit {0}
  Tidy (range n f l u) = Unit {0}

  pub Tidies : Clauses → Type 0
  Tidies none = Unit {0}
  Tidies (clause k q cs) = Tidy q × Tidies cs
