-- Kept clauses as the code holds them: by their number, a tag, and lengths.
use Rattle.std.specs.Prelude.{◌≡◌, ℕ, suc, List, [], ◌++◌, Bool, true, false, length}
use Rattle.rules.specs.Bytes.{part}
use Rattle.rules.specs.Query.{must, should, must_not, filter, Clauses, none, clause}
use Rattle.rules.specs.Stored.{kind_tag, encode}
use Rattle.rules.specs.Parsing.{Made, nothing, made, Conjunction, Modifier, touched, kind_after}

-- ---- kept clauses, the last one first

abbrev pub is_kept : Clauses → Bool
is_kept none = false
is_kept (clause k q cs) = true

unfoldable pub count_of : Clauses → ℕ
count_of none = 0
count_of (clause k q cs) = suc (count_of cs)

-- the tag of the last clause's kind, and 0 where there is none
abbrev pub last_tag : Clauses → ℕ
last_tag none = 0
last_tag (clause k q cs) = kind_tag k

-- their bytes in the order of the text
unfoldable pub bytes_of : Clauses → List ℕ
bytes_of none = []
bytes_of (clause k q cs) = bytes_of cs ++ part (kind_tag k) (encode q)

-- a query is one kept Must or Should clause, which stands for itself
abbrev pub is_alone : Clauses → Bool
is_alone none = false
is_alone (clause must q none) = true
is_alone (clause should q none) = true
is_alone (clause must_not q none) = false
is_alone (clause filter q none) = false
is_alone (clause k q (clause j p cs)) = false

-- ---- a clause that may have been made

abbrev pub made_bytes : Made → List ℕ
made_bytes nothing = []
made_bytes (made q) = encode q

abbrev pub made_length : Made → ℕ
made_length m = length (made_bytes m)

-- the clauses kept after one that was read behind a conjunction and a modifier
abbrev pub with_made : ℕ → Conjunction → Modifier → Clauses → Made → Clauses
with_made o c m cs nothing = touched o c cs
with_made o c m cs (made q) = clause (kind_after o c m) q (touched o c cs)

-- what the code knows of kept clauses: how many there are, the last one's tag, how many bytes they take
pub record Sums (cs : Clauses) (count tag bytes : ℕ) : Type 0 where
  pub counted : count ≡ count_of cs
  pub last : tag ≡ last_tag cs
  pub size : bytes ≡ length (bytes_of cs)
