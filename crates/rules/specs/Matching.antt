-- Which records a query is true of. Section 'Matching and selection'.
use Rattle.std.specs.Prelude.{◌≡◌, ℕ, ◌+◌, ◌≤◌, ◌<◌, Bool, true, false, not, ◌&&◌, ◌||◌, cond, length, get_or, leb, eqb, ℤ, pos, ◌+ℤ◌}
use mathlib.Core.List.{List, [], ◌∷◌, Memᴰ}
use Rattle.std.specs.Int.Signed.{le_z, lt_z}
use Rattle.std.specs.Float.{binary64}
use Rattle.std.specs.Float.Ieee.{of_bits, is_nan, le, lt}
use Rattle.std.specs.Int.{w64}
use Rattle.std.proofs.Common.{to_z}
use Rattle.rules.specs.Bytes.{same, some, all}
use Rattle.rules.specs.Query.{Word, word, Kind, must, should, must_not, filter, Numbers, whole, float, Bound, unbounded, included, excluded, Query, term, phrase, boolean, boost, constant_score, match_all, match_none, range, Clauses, none, clause}
use Rattle.rules.specs.Rewriting.{is_needed}
use Rattle.rules.specs.Lists.{Entry, place, value}

-- ---- terms: an entry has its field and text

abbrev pub is_here : List ℕ → List ℕ → Entry → Bool
is_here f t (place g y u) = same f g && same t u
is_here f t (value n g b) = false

unfoldable pub has_term : List Entry → List ℕ → List ℕ → Bool
has_term es f t = some (is_here f t) es

-- ---- phrases

-- As the paper says it: some whole number k, possibly negative, added to all its positions finds every one.
unfoldable pub FoundBy : List Entry → List ℕ → ℤ → List Word → Type 0
FoundBy es f k [] = Unit {0}
FoundBy es f k (word p t ∷ ws) = ((y : ℕ) × (pos p +ℤ k ≡ pos y) × Memᴰ (place f y t) es) × FoundBy es f k ws

unfoldable pub IsPhrase : List Entry → List ℕ → List Word → Type 0
IsPhrase es f [] = ⊥
IsPhrase es f (w ∷ ws) = (k : ℤ) × FoundBy es f k (w ∷ ws)

-- As it is found: by the numbers that put its first word, of position p, on an entry of its field and text, at x.
-- Then a word of position o stands at o + x - p: at the y with y + p ≡ o + x.
abbrev pub is_at : List ℕ → List ℕ → ℕ → ℕ → Entry → Bool
is_at f t p a (place g y u) = (same f g && same t u) && eqb (y + p) a
is_at f t p a (value n g b) = false

abbrev pub follows_from : List Entry → List ℕ → ℕ → ℕ → Word → Bool
follows_from es f p x (word o t) = some (is_at f t p (o + x)) es

abbrev pub starts_on : List Entry → List ℕ → ℕ → List ℕ → List Word → Entry → Bool
starts_on es f p t ws (place g x u) = (same f g && same t u) && all (follows_from es f p x) ws
starts_on es f p t ws (value n g b) = false

unfoldable pub has_phrase : List Entry → List ℕ → List Word → Bool
has_phrase es f [] = false
has_phrase es f (word p t ∷ ws) = some (starts_on es f p t ws) es

-- ---- ranges: some value of its kind and field lies inside

abbrev pub at_most : Numbers → ℕ → ℕ → Bool
at_most whole a b = le_z (to_z w64 a) (to_z w64 b)
at_most float a b = le (of_bits binary64 a) (of_bits binary64 b)

abbrev pub below : Numbers → ℕ → ℕ → Bool
below whole a b = lt_z (to_z w64 a) (to_z w64 b)
below float a b = lt (of_bits binary64 a) (of_bits binary64 b)

-- a NaN lies in no range
abbrev pub is_number : Numbers → ℕ → Bool
is_number whole x = true
is_number float x = not (is_nan (of_bits binary64 x))

abbrev pub over_lower : Numbers → Bound → ℕ → Bool
over_lower n unbounded x = true
over_lower n (included b) x = at_most n b x
over_lower n (excluded b) x = below n b x

abbrev pub under_upper : Numbers → Bound → ℕ → Bool
under_upper n unbounded x = true
under_upper n (included b) x = at_most n x b
under_upper n (excluded b) x = below n x b

unfoldable pub lies_in : Numbers → Bound → Bound → ℕ → Bool
lies_in n l u x = is_number n x && (over_lower n l x && under_upper n u x)

abbrev pub same_numbers : Numbers → Numbers → Bool
same_numbers whole whole = true
same_numbers whole float = false
same_numbers float whole = false
same_numbers float float = true

abbrev pub is_inside : Numbers → List ℕ → Bound → Bound → Entry → Bool
is_inside n f l u (place g y t) = false
is_inside n f l u (value k g x) = (same_numbers n k && same f g) && lies_in n l u x

unfoldable pub has_range : List Entry → Numbers → List ℕ → Bound → Bound → Bool
has_range es n f l u = some (is_inside n f l u) es

-- ---- queries

abbrev pub bit : Bool → ℕ
bit true = 1
bit false = 0

-- what a clause allows, and what it adds to the count of Should clauses
abbrev pub allows : Kind → Bool → Bool
allows must b = b
allows should b = true
allows must_not b = not b
allows filter b = b

abbrev pub counts_for : Kind → Bool → ℕ
counts_for must b = 0
counts_for should b = bit b
counts_for must_not b = 0
counts_for filter b = 0

unfoldable pub any_needed : Clauses → Bool
any_needed none = false
any_needed (clause k q cs) = is_needed k || any_needed cs

-- at least the minimum, at least one if there is no Must or Filter
abbrev pub enough : ℕ → Bool → ℕ → Bool
enough m needed n = leb m n && (needed || leb 1 n)

unfoldable mutual
  pub matches : List Entry → Query → Bool
  matches es (term f t) = has_term es f t
  matches es (phrase f ws) = has_phrase es f ws
  matches es (boolean m cs) = all_allow es cs && enough m (any_needed cs) (shoulds_true es cs)
  matches es (boost b q) = matches es q
  matches es (constant_score q) = matches es q
  matches es match_all = true
  matches es match_none = false
  matches es (range n f l u) = has_range es n f l u

  pub all_allow : List Entry → Clauses → Bool
  all_allow es none = true
  all_allow es (clause k q cs) = allows k (matches es q) && all_allow es cs

  pub shoulds_true : List Entry → Clauses → ℕ
  shoulds_true es none = 0
  shoulds_true es (clause k q cs) = counts_for k (matches es q) + shoulds_true es cs

-- ---- selection: the numbers, from n on, of the records for which q is true

unfoldable pub chosen_from : ℕ → Query → List (List Entry) → List ℕ
chosen_from n q [] = []
chosen_from n q (r ∷ rs) = cond (matches r q) (n ∷ chosen_from (n + 1) q rs) (chosen_from (n + 1) q rs)

abbrev pub chosen : Query → List (List Entry) → List ℕ
chosen q rs = chosen_from 0 q rs

-- ---- what a selection is to list

-- the k-th record, from 0, is there and the query is true of it
abbrev pub IsChosen : Query → List (List Entry) → ℕ → Type 0
IsChosen q rs k = (k < length rs) × (matches (get_or rs k []) q ≡ true)

-- each is above the one before it, and none is below n
unfoldable pub RisingFrom : ℕ → List ℕ → Type 0
RisingFrom n [] = Unit {0}
RisingFrom n (x ∷ xs) = (n ≤ x) × RisingFrom (x + 1) xs
