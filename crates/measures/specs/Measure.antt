-- What one header says of the query around it, and what the measures say of every query whose stored form the bytes are.
use Rattle.std.specs.Prelude.{◌≡◌, ℕ, ◌+◌, ◌≤◌, ◌<◌, List, cond, length, take, drop, leb, eqb}
use Rattle.rules.specs.Numbers.{phrase_tag, boolean_tag, boost_tag, constant_score_tag, must_tag}
use Rattle.rules.specs.Bytes.{of_big, tag_of, size_of}
use Rattle.rules.specs.Query.{Query}
use Rattle.rules.specs.Checked.{Is}
use Rattle.rules.specs.Rewriting.{weight, largest}

-- how far the next header is: a Boolean's minimum and a boost's float stand before what they hold
abbrev pub skip_of : List ℕ → ℕ
skip_of t =
    cond (eqb (tag_of t) boolean_tag) 8
    (cond (eqb (tag_of t) boost_tag) 7
    (cond (eqb (tag_of t) constant_score_tag) 3
    (cond (leb must_tag (tag_of t)) 3
    (3 + size_of t))))

abbrev pub worth_of : ℕ → ℕ
worth_of tag = cond (eqb tag phrase_tag) 2 (cond (eqb tag boolean_tag) 3 1)

abbrev pub least_of : List ℕ → ℕ
least_of t = cond (eqb (tag_of t) boolean_tag) (of_big (take 2 (drop 6 t))) 0

pub record Weighs (s : List ℕ) (r : ℕ) : Type 0 where
  pub weighs : (q : Query) → Is s q → r ≡ weight q
  pub within : r ≤ length s

pub record Largest (s : List ℕ) (r : ℕ) : Type 0 where
  pub is : (q : Query) → Is s q → r ≡ largest q
  pub below : r < 65536
