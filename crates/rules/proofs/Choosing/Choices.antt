-- A selection lists exactly the records for which its query is true, rising, each once; each is chosen by its own entries and the query alone. Section 'Matching and selection'.
use mathlib.Core.Path.{◌≡◌, refl, sym, ap, ◌∙◌, subst}
use mathlib.Core.Logic.{◌↔◌}
use Prim.Native.Nat.{ℕ, zero, suc, ◌+◌, ◌≤◌, ◌<◌}
use mathlib.Core.List.Memᴰ
use mathlib.Core.List.{List, [], ◌∷◌, Memᴰ}
use mathlib.Core.Bool.{Bool, true, false, cond}
use native.Mathlib.Omega.{arith}
use lib.ListN.{length, get_or}
use Rattle.rules.specs.Numbers.{Read, got, refused, on_read, and_then}
use Rattle.rules.specs.Query.{Query}
use Rattle.rules.specs.Reading.{read_for_selection}
use Rattle.rules.specs.Lists.{Entry, read_list}
use Rattle.rules.specs.Matching.{matches, chosen_from, chosen, IsChosen, RisingFrom}
use Rattle.rules.specs.Answers.{selected}
use Rattle.rules.proofs.Stored.Refusals.{no_got, got_same}

-- ---- exactly these

-- what is listed is chosen
only : (q : Query) (n : ℕ) (rs : List (List Entry)) (i : ℕ) → Memᴰ i (chosen_from n q rs) → (k : ℕ) × (i ≡ n + k) × IsChosen q rs k
unfolding chosen_from
only q n [] i m = absurd (Memᴰ.not-nil m)
only q n (r ∷ rs) i m = go (matches r q) refl m (only q (n + 1) rs i)
  where
    next : ((k : ℕ) × (i ≡ n + 1 + k) × IsChosen q rs k) → (k : ℕ) × (i ≡ n + k) × IsChosen q (r ∷ rs) k
    next (k, e, (l, h)) = (suc k, omega arith, (omega arith, h))

    go : (b : Bool) → matches r q ≡ b → Memᴰ i (cond b (n ∷ chosen_from (n + 1) q rs) (chosen_from (n + 1) q rs))
        → (Memᴰ i (chosen_from (n + 1) q rs) → (k : ℕ) × (i ≡ n + 1 + k) × IsChosen q rs k) → (k : ℕ) × (i ≡ n + k) × IsChosen q (r ∷ rs) k
    go true e (Memᴰ.head p) f = (0, omega arith, (omega arith, e))
    go true e (Memᴰ.tail p) f = next (f p)
    go false e p f = next (f p)

-- what is chosen is listed
all_of : (q : Query) (n : ℕ) (rs : List (List Entry)) (k : ℕ) → k < length rs → matches (get_or rs k []) q ≡ true → Memᴰ (n + k) (chosen_from n q rs)
unfolding chosen_from
all_of q n [] k l h = absurd (omega arith)
all_of q n (r ∷ rs) zero l h = let e : n + 0 ≡ n = omega arith in rw h (Memᴰ.head e)
all_of q n (r ∷ rs) (suc k) l h = go (matches r q) (Memᴰ.cast (omega arith) (all_of q (n + 1) rs k (omega arith) h))
  where
    go : (b : Bool) → Memᴰ (n + suc k) (chosen_from (n + 1) q rs) → Memᴰ (n + suc k) (cond b (n ∷ chosen_from (n + 1) q rs) (chosen_from (n + 1) q rs))
    go true p = Memᴰ.tail p
    go false p = p

pub exact : (q : Query) (rs : List (List Entry)) (k : ℕ) → Memᴰ k (chosen q rs) ↔ IsChosen q rs k
exact q rs k = (there, back)
  where
    there : Memᴰ k (chosen q rs) → IsChosen q rs k
    there m = let o = only q 0 rs k m in let e : o.0 ≡ k = (let u = o.1 in omega arith) in subst (IsChosen q rs) e o.2

    back : IsChosen q rs k → Memᴰ k (chosen q rs)
    back (l, h) = Memᴰ.cast (omega arith) (all_of q 0 rs k l h)

-- ---- rising, each once

lower : (n : ℕ) (xs : List ℕ) → RisingFrom (n + 1) xs → RisingFrom n xs
unfolding RisingFrom
lower n [] r = tt
lower n (x ∷ xs) r = (let h = r.0 in omega arith, r.1)

rising_from : (q : Query) (n : ℕ) (rs : List (List Entry)) → RisingFrom n (chosen_from n q rs)
unfolding chosen_from RisingFrom
rising_from q n [] = tt
rising_from q n (r ∷ rs) = go (matches r q) (rising_from q (n + 1) rs)
  where
    go : (b : Bool) → RisingFrom (n + 1) (chosen_from (n + 1) q rs) → RisingFrom n (cond b (n ∷ chosen_from (n + 1) q rs) (chosen_from (n + 1) q rs))
    go true p = (omega arith, p)
    go false p = lower n (chosen_from (n + 1) q rs) p

pub rising : (q : Query) (rs : List (List Entry)) → RisingFrom 0 (chosen q rs)
rising q rs = rising_from q 0 rs

-- ---- not more than there are records

pub chosen_few : (q : Query) (n : ℕ) (rs : List (List Entry)) → length (chosen_from n q rs) ≤ length rs
unfolding chosen_from
chosen_few q n [] = omega arith
chosen_few q n (r ∷ rs) = go (matches r q) (chosen_few q (n + 1) rs)
  where
    go : (b : Bool) → length (chosen_from (n + 1) q rs) ≤ length rs → length (cond b (n ∷ chosen_from (n + 1) q rs) (chosen_from (n + 1) q rs)) ≤ suc (length rs)
    go true h = omega arith
    go false h = omega arith

-- ---- two queries that are true alike choose alike

pub chosen_alike : (p q : Query) → ((es : List Entry) → matches es p ≡ matches es q) → (n : ℕ) (rs : List (List Entry)) → chosen_from n p rs ≡ chosen_from n q rs
unfolding chosen_from
chosen_alike p q f n [] = refl
chosen_alike p q f n (r ∷ rs) = rw (f r, chosen_alike p q f (n + 1) rs)

-- ---- a selection that is not refused

pub selected_is : (s l : List ℕ) (q : Query) (rs : List (List Entry)) → read_for_selection s ≡ got q → read_list l ≡ got rs → selected s l ≡ got (chosen q rs)
unfolding selected
selected_is s l q rs e f = rw (e, f)

pub record Selection (s l is : List ℕ) : Type 0 where
  pub query : Query
  pub records : List (List Entry)
  pub query_read : read_for_selection s ≡ got query
  pub list_read : read_list l ≡ got records
  pub listed : is ≡ chosen query records

pub selection : (s l is : List ℕ) → selected s l ≡ got is → Selection s l is
unfolding selected
selection s l is e = go (read_for_selection s) (read_list l) refl refl e
  where
    go : (o : Read Query) (d : Read (List (List Entry))) → read_for_selection s ≡ o → read_list l ≡ d
        → and_then o (λ q. on_read (chosen q) d) ≡ got is → Selection s l is
    go (got q) (got rs) p r e = record { query = q; records = rs; query_read = p; list_read = r; listed = sym (got_same e) }
    go (got q) (refused f) p r e = no_got e
    go (refused f) d p r e = no_got e

-- a record at i of one list and at j of another, neither run refused, is chosen in both or in neither
module _ (s l m is js : List ℕ) (rs ts : List (List Entry)) (i j : ℕ) where
  one_way : selected s l ≡ got is → selected s m ≡ got js → read_list l ≡ got rs → read_list m ≡ got ts
      → j < length ts → get_or rs i [] ≡ get_or ts j [] → Memᴰ i is → Memᴰ j js
  one_way a b c d h k p =
      let A = selection s l is a in
      let B = selection s m js b in
      let same-query : A.query ≡ B.query = got_same (sym A.query_read ∙ B.query_read) in
      let here : A.records ≡ rs = got_same (sym A.list_read ∙ c) in
      let there : B.records ≡ ts = got_same (sym B.list_read ∙ d) in
      let is= : is ≡ chosen B.query rs = A.listed ∙ ap (λ (x : Query). chosen x A.records) same-query ∙ ap (chosen B.query) here in
      let js= : js ≡ chosen B.query ts = B.listed ∙ ap (chosen B.query) there in
      let o = (exact B.query rs i).0 (subst (Memᴰ i) is= p) in
      subst (Memᴰ j) (sym js=) ((exact B.query ts j).1 (h, ap (λ (x : List Entry). matches x B.query) (sym k) ∙ o.1))

pub alone : (s l m is js : List ℕ) (rs ts : List (List Entry)) (i j : ℕ)
    → selected s l ≡ got is → selected s m ≡ got js → read_list l ≡ got rs → read_list m ≡ got ts
    → i < length rs → j < length ts → get_or rs i [] ≡ get_or ts j [] → Memᴰ i is ↔ Memᴰ j js
alone s l m is js rs ts i j a b c d g h k = (
  one_way s l m is js rs ts i j a b c d h k,
  one_way s m l js is ts rs j i b a d c g (sym k),
)
