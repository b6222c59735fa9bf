-- What the merging of clauses in their place says of its parts.
use Rattle.std.specs.Prelude.{◌≡◌, ◌⊎◌, ℕ, suc, ◌+◌, ◌-◌, ◌≤◌, ◌<◌, max, List, ◌++◌, Bool, cond, length, take, Float}
use Rattle.rules.specs.Numbers.{boost_tag}
use Rattle.rules.specs.Bytes.{big, part}
use Rattle.rules.specs.Query.{Kind, Query, Clauses, none, clause}
use Rattle.rules.specs.Stored.{kind_tag, encode}
use Rattle.rules.specs.Checked.{Is, Are}
use Rattle.rules.specs.Floats.{is_one, narrowed}
use Rattle.rules.specs.Rewriting.{clause_counts}
use Rattle.rules.specs.Eating.{held, eats, own_sum, fed, sum_eaten, stayed}
use Rattle.places.specs.Within.{within}

-- whether a clause of kind k that is compared by the query in h takes up one of kind j with the query in q
abbrev pub Eats : Bool → ℕ → ℕ → List ℕ → ℕ → List ℕ → Bool → Type 0
Eats strict m k h j q r = (i l : Kind) (x y : Query) → kind_tag i ≡ k → kind_tag l ≡ j → Is h x → Is q y → r ≡ eats strict m i x l y

-- the sum s once one of kind j with the query in q was taken up
abbrev pub Fed : ℕ → Float → ℕ → List ℕ → Float → Type 0
Fed m s j q r = (l : Kind) (y : Query) → kind_tag l ≡ j → Is q y → r ≡ fed m l y s

-- q, of kind j, which stands at a place: where its base stands, its kind and the sum that it starts with
pub record First (at m : ℕ) (j : Kind) (q : Query) (b k : ℕ) (x : Float) : Type 0 where
  pub kind : k ≡ kind_tag j
  pub sum : x ≡ own_sum m j q
  pub place : b + length (encode (held m j q)) ≡ at + length (encode q)

-- a clause of kind k whose base stands from b up to `at`, and the clauses behind it, up to `end`
pub record Eatable (b k at end : ℕ) (room : List ℕ) : Type 0 where
  pub kind : Kind
  pub tag : kind_tag kind ≡ k
  pub query : Query
  pub is : Is (within b at room) query
  pub clauses : Clauses
  pub are : Are (within at end room) clauses
  pub low : b ≤ at
  pub high : at ≤ end
  pub fits : end ≤ length room

-- what is left of the clauses cs stands from e on, and the sum has become s'. Where any was taken up, so much space is before them.
pub record Ate (strict : Bool) (m at end : ℕ) (room : List ℕ) (k : Kind) (h : Query) (cs : Clauses) (s : Float) (e : ℕ) (s' : Float) (room' : List ℕ) : Type 0 where
  pub kept : take at room' ≡ take at room
  pub low : at ≤ e
  pub high : e ≤ end
  pub are : Are (within e end room') (stayed strict m k h cs)
  pub sum : s' ≡ sum_eaten strict m k h s cs
  pub grown : ((e ≡ at) × (s' ≡ s)) ⊎ (at + 6 ≤ e)

-- the base's bytes with the sum put back, where it is not 1; and the length of a clause that holds them
unfoldable pub reboosted_bytes : Float → List ℕ → List ℕ
reboosted_bytes x h = cond (is_one x) h (part boost_tag (big 4 (narrowed x) ++ h))

unfoldable pub merged_size : Float → ℕ → ℕ
merged_size x n = cond (is_one x) (3 + n) (10 + n)

-- what stood from `at` up to `end` begins at `need` or behind
pub record Way (need at end : ℕ) (room : List ℕ) (r : ℕ) (room' : List ℕ) : Type 0 where
  pub place : r ≡ max need at
  pub kept : take at room' ≡ take at room
  pub there : within r (r + (end - at)) room' ≡ within at end room

-- the clauses in the first bytes up to `end`, and a byte of space behind them for each
pub record Mergeable (end : ℕ) (room : List ℕ) : Type 0 where
  pub clauses : Clauses
  pub are : Are (within 0 end room) clauses
  pub fits : end + clause_counts clauses ≤ length room
  pub small : end + clause_counts clauses < 65536

-- so many clauses are compared with no table; and how many there are, nested ones not counted
abbrev pub few : ℕ
few = 12

unfoldable pub how_many : Clauses → ℕ
how_many none = 0
how_many (clause k q cs) = suc (how_many cs)
