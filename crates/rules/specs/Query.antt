-- Queries. Section 'Stored form'.
-- A query and its clauses are a pair of types, since antt takes no `List` of the type that is being declared.
use Rattle.std.specs.Prelude.{◌≡◌, refl, ℕ, ◌+◌, max, List, [], ◌∷◌, Bool, true, false, get_or, drop}
use mathlib.Core.Path.{ap, ap₂}
use Rattle.std.proofs.Math.Decide.{ℕ_discrete}
use Rattle.std.proofs.Common.{arith}

-- a position and a text
pub data Word : Type 0 where
  word : ℕ → List ℕ → Word
  deriving Discrete as word_discrete

abbrev pub text_of : Word → List ℕ
text_of (word p t) = t

pub data Kind : Type 0 where
  must should must_not filter : Kind
  deriving Discrete as kind_discrete

-- the numbers of a range and of an entry: whole or float, by their 64 bits
pub data Numbers : Type 0 where
  whole float : Numbers
  deriving Discrete as numbers_discrete

pub data Bound : Type 0 where
  unbounded : Bound
  included excluded : ℕ → Bound
  deriving Discrete as bound_discrete

mutual
  -- a boost is the 32 bits of its float
  pub data Query : Type 0 where
    term : List ℕ → List ℕ → Query
    phrase : List ℕ → List Word → Query
    boolean : ℕ → Clauses → Query
    boost : ℕ → Query → Query
    constant_score : Query → Query
    match_all match_none : Query
    range : Numbers → List ℕ → Bound → Bound → Query
    deriving Discrete as query_discrete

  pub data Clauses : Type 0 where
    none : Clauses
    clause : Kind → Query → Clauses → Clauses

-- depth counts query records from 1
unfoldable mutual
  pub depth : Query → ℕ
  depth (term f t) = 1
  depth (phrase f ws) = 1
  depth (boolean m cs) = 1 + depths cs
  depth (boost b q) = 1 + depth q
  depth (constant_score q) = 1 + depth q
  depth match_all = 1
  depth match_none = 1
  depth (range n f l u) = 1

  pub depths : Clauses → ℕ
  depths none = 0
  depths (clause k q cs) = max (depth q) (depths cs)

-- ---- equality, bit by bit

-- the library's `List-discrete` does not compute outside its module
abbrev pub cell : {A : Type 0} {x y : A} {xs ys : List A} → Dec (x ≡ y) → Dec (xs ≡ ys) → Dec (◌≡◌ {A = List A} (x ∷ xs) (y ∷ ys))
cell (yes p) (yes q) = yes (ap₂ (λ a l. a ∷ l) p q)
cell (yes p) (no n) = no (λ e. n (ap (drop 1) e))
cell {x = x} (no n) d = no (λ e. n (ap (λ l. get_or l 0 x) e))

unfoldable pub list_discrete : {A : Type 0} → Discrete A → Discrete (List A)
list_discrete d [] [] = yes refl
list_discrete d [] (y ∷ ys) = no (λ e. absurd (let z : ◌≡◌ {A = ℕ} 0 1 = cc in omega arith))
list_discrete d (x ∷ xs) [] = no (λ e. absurd (let z : ◌≡◌ {A = ℕ} 0 1 = cc in omega arith))
list_discrete d (x ∷ xs) (y ∷ ys) = cell (d x y) (list_discrete d xs ys)

abbrev pub bytes_discrete : Discrete (List ℕ)
bytes_discrete = list_discrete ℕ_discrete

unfoldable pub same_query : Discrete Query
same_query = query_discrete bytes_discrete (list_discrete (word_discrete ℕ_discrete bytes_discrete)) ℕ_discrete numbers_discrete (bound_discrete ℕ_discrete) kind_discrete

abbrev pub is_yes : {A : Type 0} → Dec A → Bool
is_yes (yes a) = true
is_yes (no n) = false

abbrev pub equal : Query → Query → Bool
equal p q = is_yes (same_query p q)
