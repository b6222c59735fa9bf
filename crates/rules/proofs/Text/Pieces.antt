-- The chunks of the longest runs of bytes that a test is true of, a step at a time, whatever the fuel: skip the bytes that no run has,
-- take the longest run of at most 255 bytes, go on behind it. Assumes nothing.
use mathlib.Core.Path.{◌≡◌, refl, sym, ap, ◌∙◌}
use mathlib.Core.Bool.{Bool, true, false, not, and-eq-true_iff}
use mathlib.Core.List.{List, [], ◌∷◌, ◌++◌, cons-ne-nil}
use Prim.Native.Nat.{ℕ, zero, suc, ◌+◌, ◌-◌, ◌≤◌, ◌<◌, min}
use native.Mathlib.Decide.{dec_lt}
use native.Mathlib.Omega.{arith}
use lib.ListN.{length, take, drop, length-append, length-take, length-drop, drop_of_length-le}
use lib.Seq.{take-nil, take_all, length-take-le, take-append_seam, drop-append_seam}
use borrow.Author.Tests.{not-false}
use Rattle.rules.specs.Numbers.{chunk_most}
use Rattle.rules.specs.Bytes.{all, those}
use Rattle.rules.specs.Analysis.{front, after, runs_in, runs, chunks_in, chunks, cut}

pub by_test : {A : Type 0} (b : Bool) → (b ≡ true → A) → (b ≡ false → A) → A
by_test true f g = f refl
by_test false f g = g refl

pub by_list : {A : Type 0} (t : List ℕ) → (t ≡ [] → A) → ((c : ℕ) (u : List ℕ) → t ≡ c ∷ u → A) → A
by_list [] f g = f refl
by_list (c ∷ u) f g = g c u refl

-- ---- parts of a list

pub take_take : (k n : ℕ) (l : List ℕ) → take k (take n l) ≡ take (min k n) l
take_take zero n l = let z : 0 ≡ min 0 n = omega arith in ap (λ (m : ℕ). take m l) z
take_take (suc k) zero l = let z : 0 ≡ min (suc k) 0 = omega arith in ap (λ (m : ℕ). take m l) z
take_take (suc k) (suc n) [] = sym (take-nil (min (suc k) (suc n)))
take_take (suc k) (suc n) (x ∷ l) =
    let z : suc (min k n) ≡ min (suc k) (suc n) = omega arith in
    ap (λ (t : List ℕ). x ∷ t) (take_take k n l) ∙ ap (λ (m : ℕ). take m (x ∷ l)) z

pub drop_take : (k n : ℕ) (l : List ℕ) → drop k (take n l) ≡ take (n - k) (drop k l)
drop_take zero n l = let z : n ≡ n - 0 = omega arith in ap (λ (m : ℕ). take m l) z
drop_take (suc k) zero l = let z : 0 ≡ 0 - suc k = omega arith in ap (λ (m : ℕ). take m (drop (suc k) l)) z
drop_take (suc k) (suc n) [] = sym (take-nil (suc n - suc k))
drop_take (suc k) (suc n) (x ∷ l) =
    let z : n - k ≡ suc n - suc k = omega arith in
    drop_take k n l ∙ ap (λ (m : ℕ). take m (drop k l)) z

-- ---- front and after

module _ (P : ℕ → Bool) where
  pub front_yes : (c : ℕ) (s : List ℕ) → P c ≡ true → front P (c ∷ s) ≡ c ∷ front P s
  unfolding front
  front_yes c s h = rw h

  pub front_no : (c : ℕ) (s : List ℕ) → P c ≡ false → front P (c ∷ s) ≡ []
  unfolding front
  front_no c s h = rw h

  pub after_yes : (c : ℕ) (s : List ℕ) → P c ≡ true → after P (c ∷ s) ≡ after P s
  unfolding after
  after_yes c s h = rw h

  pub after_no : (c : ℕ) (s : List ℕ) → P c ≡ false → after P (c ∷ s) ≡ c ∷ s
  unfolding after
  after_no c s h = rw h

  pub front_nil : front P [] ≡ []
  unfolding front
  front_nil = refl

  pub after_nil : after P [] ≡ []
  unfolding after
  after_nil = refl

  -- the two make the whole
  pub front_after : (s : List ℕ) → front P s ++ after P s ≡ s
  front_after [] = rw (front_nil, after_nil)
  front_after (c ∷ s) =
      by_test (P c) (λ h. rw (front_yes c s h, after_yes c s h) (ap (λ (t : List ℕ). c ∷ t) (front_after s)))
      (λ h. rw (front_no c s h, after_no c s h))

  pub front_is : (s : List ℕ) → front P s ≡ take (length (front P s)) s
  front_is s = sym (rw (front_after s) at (take-append_seam (front P s) (after P s)))

  pub after_is : (s : List ℕ) → after P s ≡ drop (length (front P s)) s
  after_is s = sym (rw (front_after s) at (drop-append_seam (front P s) (after P s)))

  pub front_most : (s : List ℕ) → length (front P s) ≤ length s
  front_most s = omega (arith, simp length-append at (ap length (front_after s)))

  pub after_most : (s : List ℕ) → length (after P s) ≤ length s
  after_most s = omega (arith, simp length-append at (ap length (front_after s)))

  -- what follows the front begins with a byte that P is not true of
  pub after_begins : (s : List ℕ) {c : ℕ} {u : List ℕ} → after P s ≡ c ∷ u → P c ≡ false
  after_begins [] {c} {u} e = let k : c ∷ u ≡ [] = sym e ∙ after_nil in absurd (cons-ne-nil c u k)
  after_begins (x ∷ s) {c} {u} e =
      by_test (P x) (λ h. after_begins s (sym (after_yes x s h) ∙ e))
      (λ h. let k : x ∷ s ≡ c ∷ u = sym (after_no x s h) ∙ e in let j : x ≡ c = cc in rw (← j) h)

  pub front_of_after : (s : List ℕ) → front P (after P s) ≡ []
  front_of_after s = by_list (after P s) (λ e. rw e front_nil) (λ c u e. rw e (front_no c u (after_begins s e)))

  -- a part of the front, and what stands behind that part
  front_more : {k : ℕ} (c : ℕ) (s : List ℕ) → suc k ≤ length (front P (c ∷ s)) → (P c ≡ true) × (k ≤ length (front P s))
  front_more c s h =
      by_test (P c) (λ p. (p, let j = ap length (front_yes c s p) in omega arith))
      (λ p. let j = ap length (front_no c s p) in absurd (omega arith))

  pub drop_front : (k : ℕ) (s : List ℕ) → k ≤ length (front P s) → front P (drop k s) ≡ drop k (front P s)
  drop_front zero s h = refl
  drop_front (suc k) [] h = rw front_nil
  drop_front (suc k) (c ∷ s) h = let p = front_more c s h in rw (front_yes c s p.0) (drop_front k s p.1)

  pub drop_after : (k : ℕ) (s : List ℕ) → k ≤ length (front P s) → after P (drop k s) ≡ after P s
  drop_after zero s h = refl
  drop_after (suc k) [] h = refl
  drop_after (suc k) (c ∷ s) h = let p = front_more c s h in rw (after_yes c s p.0) (drop_after k s p.1)

  pub front_take : (n : ℕ) (s : List ℕ) → front P (take n s) ≡ take n (front P s)
  front_take zero s = front_nil
  front_take (suc n) [] = rw front_nil
  front_take (suc n) (c ∷ s) =
      by_test (P c)
      (λ p. rw (front_yes c (take n s) p, front_yes c s p) (ap (λ (t : List ℕ). c ∷ t) (front_take n s)))
      (λ p. rw (front_no c (take n s) p, front_no c s p))

-- ---- runs

-- a byte that P is not true of
abbrev pub outside : (ℕ → Bool) → ℕ → Bool
outside P c = not (P c)

module _ (P : ℕ → Bool) where
  runs_end : (n : ℕ) (s : List ℕ) → after (outside P) s ≡ [] → runs_in P n s ≡ []
  unfolding runs_in
  runs_end zero s e = refl
  runs_end (suc n) s e = rw e

  runs_go : (n : ℕ) (s : List ℕ) {c : ℕ} {u : List ℕ} → after (outside P) s ≡ c ∷ u →
      runs_in P (suc n) s ≡ front P (c ∷ u) ∷ runs_in P n (after P (c ∷ u))
  unfolding runs_in
  runs_go n s e = rw e

  -- the run begins with a byte that P is true of, so what follows it is shorter than the text
  begins : (s : List ℕ) {c : ℕ} {u : List ℕ} → after (outside P) s ≡ c ∷ u → P c ≡ true
  begins s {c} e = not-false (P c) (after_begins (outside P) s e)

  shorter : (s : List ℕ) {c : ℕ} {u : List ℕ} → after (outside P) s ≡ c ∷ u → length (after P (c ∷ u)) < length s
  shorter s {c} {u} e = rw (after_yes P c u (begins s e)) (omega (arith, after_most P u, after_most (outside P) s, ap length e))

  enough : (n m : ℕ) (s : List ℕ) → length s ≤ n → length s ≤ m → runs_in P n s ≡ runs_in P m s
  enough zero m s h k =
      by_list (after (outside P) s) (λ e. runs_end zero s e ∙ sym (runs_end m s e))
      (λ c u e. absurd (omega (arith, shorter s e)))
  enough (suc n) zero s h k =
      by_list (after (outside P) s) (λ e. runs_end (suc n) s e ∙ sym (runs_end zero s e))
      (λ c u e. absurd (omega (arith, shorter s e)))
  enough (suc n) (suc m) s h k =
      by_list (after (outside P) s) (λ e. runs_end (suc n) s e ∙ sym (runs_end (suc m) s e))
      (λ c u e.
      let l = shorter s e in
      runs_go n s e
      ∙ ap (λ (rs : List (List ℕ)). front P (c ∷ u) ∷ rs) (enough n m (after P (c ∷ u)) (omega arith) (omega arith))
      ∙ sym (runs_go m s e))

  runs_step : (s : List ℕ) {c : ℕ} {u : List ℕ} → after (outside P) s ≡ c ∷ u →
      runs P s ≡ front P (c ∷ u) ∷ runs P (after P (c ∷ u))
  runs_step s {c} {u} e =
      let l = shorter s e in
      enough (length s) (suc (length s)) s (omega arith) (omega arith)
      ∙ runs_go (length s) s e
      ∙ ap (λ (rs : List (List ℕ)). front P (c ∷ u) ∷ rs) (enough (length s) (length (after P (c ∷ u))) (after P (c ∷ u)) (omega arith) (omega arith))

-- ---- chunks

pub chunks_nil : (n : ℕ) → chunks_in n [] ≡ []
unfolding chunks_in
chunks_nil zero = refl
chunks_nil (suc n) = refl

chunks_go : (n x : ℕ) (t : List ℕ) → chunks_in (suc n) (x ∷ t) ≡ take chunk_most (x ∷ t) ∷ chunks_in n (drop chunk_most (x ∷ t))
unfolding chunks_in
chunks_go n x t = refl

chunks_enough : (n m : ℕ) (t : List ℕ) → length t ≤ n → length t ≤ m → chunks_in n t ≡ chunks_in m t
chunks_enough zero m [] h k = chunks_nil zero ∙ sym (chunks_nil m)
chunks_enough zero m (x ∷ t) h k = absurd (omega arith)
chunks_enough (suc n) m [] h k = chunks_nil (suc n) ∙ sym (chunks_nil m)
chunks_enough (suc n) zero (x ∷ t) h k = absurd (omega arith)
chunks_enough (suc n) (suc m) (x ∷ t) h k =
    chunks_go n x t
    ∙ ap (λ (cs : List (List ℕ)). take chunk_most (x ∷ t) ∷ cs) (chunks_enough n m (drop 254 t) (rw length-drop (omega arith)) (rw length-drop (omega arith)))
    ∙ sym (chunks_go m x t)

pub chunks_step : (t : List ℕ) → 0 < length t → chunks t ≡ take chunk_most t ∷ chunks (drop chunk_most t)
chunks_step [] h = absurd (omega arith)
chunks_step (x ∷ t) h =
    chunks_go (length t) x t
    ∙ ap (λ (cs : List (List ℕ)). take chunk_most (x ∷ t) ∷ cs) (chunks_enough (length t) (length (drop 254 t)) (drop 254 t) (rw length-drop (omega arith)) (omega arith))

-- ---- the chunks of the runs, one at a time

module _ (P : ℕ → Bool) where
  -- a front that is not empty begins at once
  starts : (s : List ℕ) → 0 < length (front P s) → after (outside P) s ≡ s
  starts [] h = after_nil (outside P)
  starts (c ∷ s) h = let p = (front_more P c s h).0 in after_no (outside P) c s (rw p)

  -- and what stands behind the bytes that no token has begins with a front that is not empty
  pub found : (s : List ℕ) → 0 < length (after (outside P) s) → 0 < length (front P (after (outside P) s))
  found s h = by_list (after (outside P) s) (λ e. absurd (omega (arith, ap length e))) (λ c u e. rw (e, front_yes P c u (begins P s e)) (omega arith))

  -- no token is left
  pub pieces_none : (s : List ℕ) → after (outside P) s ≡ [] → cut (runs P s) ≡ []
  unfolding cut
  pieces_none s e = rw (runs_end P (length s) s e)

  pieces_run : (s t : List ℕ) → after (outside P) s ≡ t → 0 < length t → cut (runs P s) ≡ chunks (front P t) ++ cut (runs P (after P t))
  unfolding cut
  pieces_run s [] e h = absurd (omega arith)
  pieces_run s (c ∷ u) e h = rw (runs_step P s e)

  -- what is left of a run, and what follows it, is what follows the part that was taken
  behind : (k : ℕ) (t : List ℕ) →
      chunks (drop k (front P t)) ++ cut (runs P (after P t)) ≡ cut (runs P (drop (length (take k (front P t))) t))
  behind k t = pass (dec_lt k (length (front P t)))
    where
      pass : Dec (k < length (front P t)) →
          chunks (drop k (front P t)) ++ cut (runs P (after P t)) ≡ cut (runs P (drop (length (take k (front P t))) t))
      pass (yes h) =
          let f = drop_front P k t (omega arith) in
          let a = drop_after P k t (omega arith) in
          let l : 0 < length (front P (drop k t)) = rw (f, length-drop) (omega arith) in
          let m : 0 < length (drop k t) = omega (arith, simp length-append at (ap length (front_after P (drop k t)))) in
          rw (length-take-le k (front P t) (omega arith)) (sym (pieces_run (drop k t) (drop k t) (starts (drop k t) l) m ∙ rw (f, a)))
      pass (no n) =
          let d : drop k (front P t) ≡ [] = drop_of_length-le (front P t) {i = k} (omega arith) in
          let a : take k (front P t) ≡ front P t = take_all k (front P t) (omega arith) in
          let b : drop (length (front P t)) t ≡ after P t = rw (front_after P t) at (drop-append_seam (front P t) (after P t)) in
          rw (d, a, b, chunks_nil 0)

  -- the first token, and the tokens of what stands behind it
  pub pieces_step : (s t : List ℕ) → after (outside P) s ≡ t → 0 < length t →
      cut (runs P s) ≡ take chunk_most (front P t) ∷ cut (runs P (drop (length (take chunk_most (front P t))) t))
  pieces_step s t e h =
      let l : 0 < length (front P t) = rw e at (found s (rw e h)) in
      pieces_run s t e h
      ∙ ap (λ (cs : List (List ℕ)). cs ++ cut (runs P (after P t))) (chunks_step (front P t) l)
      ∙ ap (λ (cs : List (List ℕ)). take chunk_most (front P t) ∷ cs) (behind chunk_most t)

  pub first_length : (s : List ℕ) → 0 < length (after (outside P) s) → 0 < length (take chunk_most (front P (after (outside P) s)))
  first_length s h = rw length-take (omega (arith, found s h))

  -- so what holds of no tokens, and of a first token before the others, holds of the tokens of every text
  module _ (M : List ℕ → List (List ℕ) → Type 0) (none : (s : List ℕ) → M s [])
      (more : (s h : List ℕ) (ts : List (List ℕ)) → take chunk_most (front P (after (outside P) s)) ≡ h → 0 < length h →
      M (drop (length h) (after (outside P) s)) ts → M s (h ∷ ts)) where
    within : (n : ℕ) (s : List ℕ) → length s ≤ n → M s (cut (runs P s))
    within zero s b =
        by_list (after (outside P) s) (λ e. rw (pieces_none s e) (none s))
        (λ c u e. absurd (omega (arith, after_most (outside P) s, ap length e)))
    within (suc n) s b =
        by_list (after (outside P) s) (λ e. rw (pieces_none s e) (none s))
        (λ c u e.
        let h : 0 < length (after (outside P) s) = omega (arith, ap length e) in
        let l = first_length s h in
        let r = within n (drop (length (take chunk_most (front P (after (outside P) s)))) (after (outside P) s)) (rw length-drop (omega (arith, after_most (outside P) s))) in
        rw (pieces_step s (after (outside P) s) refl h) (more s (take chunk_most (front P (after (outside P) s))) _ refl l r))

    pub by_pieces : (s : List ℕ) → M s (cut (runs P s))
    by_pieces s = within (length s) s (omega arith)

-- ---- tests over all elements of a list

module _ {A : Type 0} (Q : A → Bool) where
  pub all_cons : (x : A) (xs : List A) → Q x ≡ true → all Q xs ≡ true → all Q (x ∷ xs) ≡ true
  unfolding all
  all_cons x xs h k = rw (h, k)

  pub all_one : (x : A) (xs : List A) → all Q (x ∷ xs) ≡ true → (Q x ≡ true) × (all Q xs ≡ true)
  unfolding all
  all_one x xs h = (and-eq-true_iff (Q x) (all Q xs)).0 h

  pub all_nil : all Q [] ≡ true
  unfolding all
  all_nil = refl

  pub all_take : (n : ℕ) (xs : List A) → all Q xs ≡ true → all Q (take n xs) ≡ true
  all_take zero xs h = all_nil
  all_take (suc n) [] h = h
  all_take (suc n) (x ∷ xs) h = let p = all_one x xs h in all_cons x (take n xs) p.0 (all_take n xs p.1)

  pub all_drop : (n : ℕ) (xs : List A) → all Q xs ≡ true → all Q (drop n xs) ≡ true
  all_drop zero xs h = h
  all_drop (suc n) [] h = h
  all_drop (suc n) (x ∷ xs) h = all_drop n xs (all_one x xs h).1

  all_append : (xs ys : List A) → all Q xs ≡ true → all Q ys ≡ true → all Q (xs ++ ys) ≡ true
  all_append [] ys h k = k
  all_append (x ∷ xs) ys h k = let p = all_one x xs h in all_cons x (xs ++ ys) p.0 (all_append xs ys p.1 k)

  pub all_those : (P : A → Bool) (xs : List A) → all Q xs ≡ true → all Q (those P xs) ≡ true
  unfolding those
  all_those P [] h = h
  all_those P (x ∷ xs) h =
      let p = all_one x xs h in
      let r = all_those P xs p.1 in
      by_test (P x) (λ e. rw e (all_cons x (those P xs) p.0 r)) (λ e. rw e r)

front_all : (P : ℕ → Bool) (s : List ℕ) → all P (front P s) ≡ true
front_all P [] = rw (front_nil P) (all_nil P)
front_all P (c ∷ s) =
    by_test (P c) (λ h. rw (front_yes P c s h) (all_cons P c (front P s) h (front_all P s)))
    (λ h. rw (front_no P c s h) (all_nil P))

-- ---- what each token is like

-- the bytes of all tokens
unfoldable pub total : List (List ℕ) → ℕ
total [] = 0
total (t ∷ ts) = length t + total ts

module _ (P : ℕ → Bool) where
  -- Q is true of each token, if it is true of every text of 1 to 255 bytes that P is true of, and R, which is true of the whole text
  pub pieces_all : (R : ℕ → Bool) (Q : List ℕ → Bool) →
      ((t : List ℕ) → 0 < length t → length t ≤ chunk_most → all P t ≡ true → all R t ≡ true → Q t ≡ true) →
      (s : List ℕ) → all R s ≡ true → all Q (cut (runs P s)) ≡ true
  pieces_all R Q f s =
      by_pieces P (λ s ts. all R s ≡ true → all Q ts ≡ true) (λ s h. all_nil Q)
      (λ s t ts e l more h.
      let a : all R (after (outside P) s) ≡ true = rw (after_is (outside P) s) (all_drop R (length (front (outside P) s)) s h) in
      let b : all R (front P (after (outside P) s)) ≡ true = rw (front_is P (after (outside P) s)) (all_take R (length (front P (after (outside P) s))) (after (outside P) s) a) in
      all_cons Q t ts (f t l (rw (← e, length-take) (omega arith)) (rw (← e) (all_take P chunk_most (front P (after (outside P) s)) (front_all P (after (outside P) s)))) (rw (← e) (all_take R chunk_most (front P (after (outside P) s)) b)))
      (more (all_drop R (length t) (after (outside P) s) a)))
      s

  pub pieces_total : (s : List ℕ) → total (cut (runs P s)) ≤ length s
  unfolding total
  pieces_total s = by_pieces P (λ s ts. total ts ≤ length s) (λ s. omega arith)
      (λ s t ts e l more.
      let m = simp length-take at (ap length e) in
      omega (arith, length-drop (length t) (after (outside P) s), front_most P (after (outside P) s), after_most (outside P) s))
      s

-- ---- the chunks of any texts

-- Q is true of each chunk, if it is true of every text of 1 to 255 bytes that R is true of, as it is of the texts
module _ (R : ℕ → Bool) (Q : List ℕ → Bool) (f : (t : List ℕ) → 0 < length t → length t ≤ chunk_most → all R t ≡ true → Q t ≡ true) where
  chunks_all : (n : ℕ) (t : List ℕ) → all R t ≡ true → all Q (chunks_in n t) ≡ true
  unfolding chunks_in
  chunks_all zero t h = all_nil Q
  chunks_all (suc n) [] h = rw (chunks_nil (suc n)) (all_nil Q)
  chunks_all (suc n) (x ∷ t) h =
      rw (chunks_go n x t)
      (all_cons Q (take chunk_most (x ∷ t)) (chunks_in n (drop chunk_most (x ∷ t)))
      (f (take chunk_most (x ∷ t)) (rw length-take (omega arith)) (rw length-take (omega arith)) (all_take R chunk_most (x ∷ t) h))
      (chunks_all n (drop chunk_most (x ∷ t)) (all_drop R chunk_most (x ∷ t) h)))

  pub cut_all : (ts : List (List ℕ)) → all (all R) ts ≡ true → all Q (cut ts) ≡ true
  unfolding cut
  cut_all [] h = all_nil Q
  cut_all (t ∷ ts) h = let p = all_one (all R) t ts h in all_append Q (chunks t) (cut ts) (chunks_all (length t) t p.0) (cut_all ts p.1)

total_append : (xs ys : List (List ℕ)) → total (xs ++ ys) ≡ total xs + total ys
unfolding total
total_append [] ys = omega arith
total_append (x ∷ xs) ys = omega (arith, total_append xs ys)

chunks_total : (n : ℕ) (t : List ℕ) → total (chunks_in n t) ≤ length t
unfolding total chunks_in
chunks_total zero t = omega arith
chunks_total (suc n) [] = omega arith
chunks_total (suc n) (x ∷ t) = omega (arith, chunks_total n (drop 254 t), length-drop 254 t, length-take 254 t)

pub cut_total : (ts : List (List ℕ)) → total (cut ts) ≤ total ts
unfolding total cut
cut_total [] = omega arith
cut_total (t ∷ ts) = omega (arith, total_append (chunks t) (cut ts), chunks_total (length t) t, cut_total ts)

pub those_total : (P : List ℕ → Bool) (ts : List (List ℕ)) → total (those P ts) ≤ total ts
unfolding total those
those_total P [] = omega arith
those_total P (t ∷ ts) =
    let r = those_total P ts in
    by_test (P t) (λ e. rw e (omega arith)) (λ e. rw e (omega arith))
