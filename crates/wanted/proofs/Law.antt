-- A record without an entry that calls is to the query as the record of no entry is.
use mathlib.Core.Path.{◌≡◌, refl, sym, ◌∙◌}
use Prim.Native.Nat.{ℕ}
use mathlib.Core.List.{List, [], ◌∷◌}
use mathlib.Core.Bool.{Bool, true, false, ◌&&◌, ◌||◌}
use borrow.Author.Tests.{eq-eqb}
use Rattle.rules.specs.Bytes.{same, some, all}
use Rattle.rules.specs.Query.{Word, word, Numbers, Bound, Query, term, phrase, boolean, boost, constant_score, match_all, match_none, range, Clauses, none, clause}
use Rattle.rules.specs.Lists.{Entry, place, value}
use Rattle.rules.specs.Matching.{is_here, has_term, follows_from, starts_on, has_phrase, same_numbers, lies_in, is_inside, has_range, matches, all_allow, shoulds_true}
use Rattle.rules.proofs.Bools.{clash, fails, and_l, and_r, or_l, or_r}
use Rattle.rules.proofs.Stored.Equal.{same_eq}
use Rattle.rules.proofs.Choosing.Phrases.{some_from, some_in}
use Rattle.wanted.specs.Wanted.{Quiet, Quiets, Hash, wants, wants_in, wants_numbers, wants_numbers_in, has_ranges, has_ranges_in, calls_by, calls, calls_near}

-- ---- a record of which every leaf is false

no_phrase_in_none : (f : List ℕ) (ws : List Word) → has_phrase [] f ws ≡ false
unfolding has_phrase some
no_phrase_in_none f [] = refl
no_phrase_in_none f (word p t ∷ ws) = refl

module _ (es : List Entry) where
  mutual
    unfolding Quiet matches has_term has_range some

    pub quiet_empty : (q : Query) → Quiet es q → matches es q ≡ matches [] q
    quiet_empty (term f t) h = h
    quiet_empty (phrase f ws) h = h ∙ sym (no_phrase_in_none f ws)
    quiet_empty (boolean m cs) h = rw (quiet_allow cs h, quiet_shoulds cs h)
    quiet_empty (boost b q) h = quiet_empty q h
    quiet_empty (constant_score q) h = quiet_empty q h
    quiet_empty match_all h = refl
    quiet_empty match_none h = refl
    quiet_empty (range n f l u) h = h

    pub quiet_allow : (cs : Clauses) → Quiets es cs → all_allow es cs ≡ all_allow [] cs
    quiet_allow none h = refl
    quiet_allow (clause k q cs) h = rw (quiet_empty q h.0, quiet_allow cs h.1)

    pub quiet_shoulds : (cs : Clauses) → Quiets es cs → shoulds_true es cs ≡ shoulds_true [] cs
    quiet_shoulds none h = refl
    quiet_shoulds (clause k q cs) h = rw (quiet_empty q h.0, quiet_shoulds cs h.1)

-- ---- a record without an entry that calls

-- by a test w of hashes that passes what is wanted, and a test v of the fields of numbers that passes the fields of ranges
module _ (h : Hash) (w : ℕ → Bool) (v : List ℕ → Bool) (es : List Entry) (z : some (calls_by h w v) es ≡ false) where
  absent : (P : Entry → Bool) → ((e : Entry) → P e ≡ true → calls_by h w v e ≡ true) → some P es ≡ false
  absent P f = fails (some P es) (λ s. let x = some_from P es s in clash (some_in (calls_by h w v) x.0 es x.1 (f x.0 x.2)) z)

  -- an entry of a leaf's field and text has the leaf's hash
  here_calls : (f t : List ℕ) → w (h f t) ≡ true → (e : Entry) → is_here f t e ≡ true → calls_by h w v e ≡ true
  here_calls f t a (place g y u) i =
      let j : f ≡ g = same_eq f g (and_l (same f g) (same t u) i) in
      let k : t ≡ u = same_eq t u (and_r (same f g) (same t u) i) in
      cc a
  here_calls f t a (value n g b) i = clash i refl

  start_here : (f : List ℕ) (p : ℕ) (t : List ℕ) (ws : List Word) (e : Entry) → starts_on es f p t ws e ≡ true → is_here f t e ≡ true
  start_here f p t ws (place g x u) i = and_l (same f g && same t u) (all (follows_from es f p x) ws) i
  start_here f p t ws (value n g b) i = clash i refl

  inside_calls : (n : Numbers) (f : List ℕ) (l u : Bound) → ((g : List ℕ) → same f g ≡ true → v g ≡ true)
      → (e : Entry) → is_inside n f l u e ≡ true → calls_by h w v e ≡ true
  inside_calls n f l u a (place g y t) i = clash i refl
  inside_calls n f l u a (value k g x) i = a g (and_r (same_numbers n k) (same f g) (and_l (same_numbers n k && same f g) (lies_in n l u x) i))

  mutual
    unfolding Quiet wants wants_numbers has_term has_phrase has_range

    pub quiet_by : (q : Query) → ((n : ℕ) → wants h q n ≡ true → w n ≡ true) → ((f : List ℕ) → wants_numbers q f ≡ true → v f ≡ true) → Quiet es q
    quiet_by (term f t) a b = absent (is_here f t) (here_calls f t (a (h f t) (eq-eqb (h f t) (h f t) refl)))
    quiet_by (phrase f []) a b = refl
    quiet_by (phrase f (word p t ∷ ws)) a b =
        absent (starts_on es f p t ws) (λ e i. here_calls f t (a (h f t) (eq-eqb (h f t) (h f t) refl)) e (start_here f p t ws e i))
    quiet_by (boolean m cs) a b = quiets_by cs a b
    quiet_by (boost c q) a b = quiet_by q a b
    quiet_by (constant_score q) a b = quiet_by q a b
    quiet_by match_all a b = tt
    quiet_by match_none a b = tt
    quiet_by (range n f l u) a b = absent (is_inside n f l u) (inside_calls n f l u b)

    pub quiets_by : (cs : Clauses) → ((n : ℕ) → wants_in h cs n ≡ true → w n ≡ true) → ((f : List ℕ) → wants_numbers_in cs f ≡ true → v f ≡ true) → Quiets es cs
    quiets_by none a b = tt
    quiets_by (clause k q cs) a b = (
      quiet_by q (λ n i. a n (or_l (wants_in h cs n) i)) (λ f i. b f (or_l (wants_numbers_in cs f) i)),
      quiets_by cs (λ n i. a n (or_r (wants h q n) i)) (λ f i. b f (or_r (wants_numbers q f) i)),
    )

-- a range on a field is a range
mutual
  unfolding wants_numbers has_ranges

  numbers_ranges : (q : Query) (f : List ℕ) → wants_numbers q f ≡ true → has_ranges q ≡ true
  numbers_ranges (term g t) f h = h
  numbers_ranges (phrase g ws) f h = h
  numbers_ranges (boolean m cs) f h = numbers_ranges_in cs f h
  numbers_ranges (boost b q) f h = numbers_ranges q f h
  numbers_ranges (constant_score q) f h = numbers_ranges q f h
  numbers_ranges match_all f h = h
  numbers_ranges match_none f h = h
  numbers_ranges (range n g l u) f h = refl

  numbers_ranges_in : (cs : Clauses) (f : List ℕ) → wants_numbers_in cs f ≡ true → has_ranges_in cs ≡ true
  numbers_ranges_in none f h = h
  numbers_ranges_in (clause k q cs) f h = go (wants_numbers q f) (λ i. numbers_ranges q f i) (λ i. numbers_ranges_in cs f i) h
    where
      go : (b : Bool) → (b ≡ true → has_ranges q ≡ true) → (wants_numbers_in cs f ≡ true → has_ranges_in cs ≡ true)
          → (b || wants_numbers_in cs f) ≡ true → (has_ranges q || has_ranges_in cs) ≡ true
      go true x y i = or_l (has_ranges_in cs) (x refl)
      go false x y i = or_r (has_ranges q) (y i)

module _ (h : Hash) (q : Query) (es : List Entry) where
  pub near_quiet : some (calls_near h q) es ≡ false → Quiet es q
  near_quiet z = quiet_by h (wants h q) (wants_numbers q) es z q (λ n i. i) (λ f i. i)

  pub uncalled_quiet : some (calls h q) es ≡ false → Quiet es q
  uncalled_quiet z = quiet_by h (wants h q) (λ f. has_ranges q) es z q (λ n i. i) (numbers_ranges q)

  pub near_empty : some (calls_near h q) es ≡ false → matches es q ≡ matches [] q
  near_empty z = quiet_empty es q (near_quiet z)

  pub uncalled_empty : some (calls h q) es ≡ false → matches es q ≡ matches [] q
  uncalled_empty z = quiet_empty es q (uncalled_quiet z)

  -- by wider tests too, as a table of bits that hashes share
  pub wider_empty : (w : ℕ → Bool) (v : List ℕ → Bool) → ((n : ℕ) → wants h q n ≡ true → w n ≡ true) → ((f : List ℕ) → wants_numbers q f ≡ true → v f ≡ true)
      → some (calls_by h w v) es ≡ false → matches es q ≡ matches [] q
  wider_empty w v a b z = quiet_empty es q (quiet_by h w v es z q a b)
