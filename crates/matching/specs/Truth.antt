-- The walk through a stored query: what it asks of the bytes and of the row of open Booleans, and what its answers say.
use Rattle.std.specs.Prelude.{◌≡◌, ℕ, ◌+◌, ◌-◌, ◌≤◌, ◌<◌, List, Bool, true, false, ◌&&◌, length, get_or, take, drop, leb, eqb}
use Rattle.rules.specs.Numbers.{boolean_tag, boost_tag, constant_score_tag, selection_bytes, selection_depth}
use Rattle.rules.specs.Bytes.{tag_of, rest_of}
use Rattle.rules.specs.Query.{Query, Clauses, depth, depths}
use Rattle.rules.specs.Checked.{Is, Are, Stored}
use Rattle.rules.specs.Lists.{Entry}
use Rattle.rules.specs.Matching.{matches}
use Rattle.matching.specs.declared.level.Level.{Level}
use Rattle.std.specs.declared.ops.ControlFlow.{ControlFlow}
use Rattle.std.specs.declared.ops.ControlFlow.TheVariants.{Continue, Break}
use Rattle.matching.specs.declared.record.Record.{Record}
use Rattle.matching.specs.declared.truth.Place.{Place}
use Rattle.entries.specs.Slots.{Told}
use Rattle.matching.specs.Level.{no_level, carries, after}

-- r says whether the query of s is true of es, whichever query that is
unfoldable pub Truth : List ℕ → List Entry → Bool → Type 0
Truth s es r = (q : Query) → Is s q → r ≡ matches es q

-- checked bytes with this tag
pub record StoredAs (t : ℕ) (s : List ℕ) : Type 0 where
  pub stored : Stored s
  pub tag : tag_of s ≡ t

-- a Boolean that has clauses
abbrev pub is_open : List ℕ → Bool
is_open s = eqb (tag_of s) boolean_tag && leb 9 (length s)

-- a query that holds no other
pub record IsLeaf (s : List ℕ) : Type 0 where
  pub boolean : is_open s ≡ false
  pub boost : tag_of s ≡ boost_tag → ⊥
  pub constant_score : tag_of s ≡ constant_score_tag → ⊥

-- checked bytes within selection's limits
pub record StoredFor (s : List ℕ) : Type 0 where
  pub stored : Stored s
  pub deep : depth stored.query ≤ selection_depth
  pub short : length s ≤ selection_bytes

-- what is known of a record by its slots, where there are any
abbrev pub Known : Record → Type 0
Known r = Told r.slots.now r.from r.entries.now

-- ---- the row of open Booleans

abbrev pub cut : List ℕ → ℕ → ℕ → List ℕ
cut s a e = take (e - a) (drop a s)

-- n Booleans are open around a query that ends at e. The innermost stands at d in the row, at the level l; behind the query stand the
-- clauses that it has left.
pub data Open (s : List ℕ) (row : List Level) : ℕ → ℕ → Type 0 where
  outside : {n e : ℕ} → n ≡ 0 → e ≡ length s → Open s row n e
  inside : {n e : ℕ} (d : ℕ) (l : Level) (cs : Clauses) → n ≡ d + 1 → get_or row d no_level ≡ l → Are (cut s e l.end) cs → e ≤ l.end
      → depths cs + n ≤ selection_depth → Open s row d l.end → Open s row n e

-- what the whole query is, where the query at hand is y
unfoldable pub outcome : List Entry → {s : List ℕ} {row : List Level} {n e : ℕ} → Open s row n e → Bool → Bool
outcome es (outside h k) y = y
outcome es (inside d l cs h k a f m o) y = outcome es o (after es l y cs)

-- ---- clauses that change nothing

-- what a Boolean still asks for and has met, where `over` says that it is true with no clause left
abbrev pub Over : Bool → ℕ → Bool → Type 0
Over over asked met = over ≡ true → (asked ≡ 0) × (met ≡ true)

-- s decides, of the clauses cs
pub record Decides (es : List Entry) (over : Bool) (cs : Clauses) (s : List ℕ) : Type 0 where
  pub clauses : Clauses
  pub are : Are s clauses
  pub deep : depths clauses ≤ depths cs
  pub alike : (asked : ℕ) (met : Bool) → Over over asked met → carries es asked met cs ≡ carries es asked met clauses

-- the clause at the front of s changes nothing
abbrev pub Idle : List Entry → Bool → List ℕ → Type 0
Idle es over s = (cs : Clauses) → Are s cs → Decides es over cs (rest_of s)

-- of the clauses from `at` to `end`, those from p on decide
pub record Past (es : List Entry) (s : List ℕ) (at end : ℕ) (over : Bool) (p : ℕ) : Type 0 where
  pub later : at ≤ p
  pub fits : p ≤ end
  pub left : (cs : Clauses) → Are (cut s at end) cs → Decides es over cs (cut s p end)

-- ---- the places of the walk

-- at a query, from `at` to `end`
pub record At (s : List ℕ) (row : List Level) (n at end : ℕ) : Type 0 where
  pub query : Query
  pub is : Is (cut s at end) query
  pub fits : at ≤ end
  pub deep : depth query + n ≤ selection_depth
  pub around : Open s row n end

-- at the first of the clauses that a Boolean has left
pub record AtClause (s : List ℕ) (row : List Level) (n at end : ℕ) : Type 0 where
  pub clauses : Clauses
  pub are : Are (cut s at end) clauses
  pub fits : at < end
  pub deep : depths clauses + n < selection_depth
  pub around : Open s row n end

-- where the walk goes from a place behind `from` that makes the whole query v
abbrev pub Leads : List Entry → List ℕ → List Level → ℕ → Bool → ControlFlow Bool Place → Type 0
Leads es s row from v (Break r) = v ≡ r
Leads es s row from v (Continue p) = (from < p.at) × ((t : At s row p.depth p.at p.end) × (v ≡ outcome es t.around (matches es t.query)))
