-- A phrase is found, by the numbers that put its first word on an entry, exactly when some whole number finds every word. Section 'Matching and selection'.
use mathlib.Core.Path.{◌≡◌, refl, sym, ap, ◌∙◌, subst}
use mathlib.Core.Logic.{◌↔◌, ◌⊎◌, inl, inr}
use Prim.Native.Nat.{ℕ, suc, ◌+◌}
use mathlib.Core.List.{List, [], ◌∷◌, Memᴰ}
use mathlib.Core.Bool.{Bool, true, false, ◌&&◌}
use native.Mathlib.Omega.{arith}
use lib.Dec.{eqb}
use lib.IntN.{ℤ, pos, negsuc, neg_ℤ, ◌+ℤ◌, ◌-ℤ◌, +ℤ_assoc, +ℤ-neg_ℤ_cancel, -ℤ-+ℤ_cancel, pos-+ℤ-pos}
use borrow.Author.Tests.{eqb-true, eq-eqb}
use Rattle.rules.specs.Bytes.{same, some, all}
use Rattle.rules.specs.Query.{Word, word}
use Rattle.rules.specs.Lists.{Entry, place, value}
use Rattle.rules.specs.Matching.{is_here, has_term, FoundBy, IsPhrase, is_at, follows_from, starts_on, has_phrase}
use Rattle.rules.proofs.Bools.{clash, and_l, and_r, and_true, both, or_l, or_r, either}
use Rattle.rules.proofs.Stored.Equal.{same_eq, same_refl}

-- ---- `some`

module _ {A : Type 0} (P : A → Bool) where
  pub some_from : (xs : List A) → some P xs ≡ true → (x : A) × (Memᴰ x xs) × (P x ≡ true)
  unfolding some
  some_from [] h = clash h refl
  some_from (x ∷ xs) h = go (either (P x) (some P xs) h) (some_from xs)
    where
      go : (P x ≡ true) ⊎ (some P xs ≡ true) → (some P xs ≡ true → (y : A) × (Memᴰ y xs) × (P y ≡ true))
          → (y : A) × (Memᴰ y (x ∷ xs)) × (P y ≡ true)
      go (inl e) i = (x, Memᴰ.head refl, e)
      go (inr e) i = let r = i e in (r.0, Memᴰ.tail r.1, r.2)

  pub some_in : (x : A) (xs : List A) → Memᴰ x xs → P x ≡ true → some P xs ≡ true
  unfolding some
  some_in x [] m h = elim m [ ]
  some_in x (y ∷ xs) (Memᴰ.head e) h = or_l (some P xs) (ap P (sym e) ∙ h)
  some_in x (y ∷ xs) (Memᴰ.tail m) h = or_r (P y) (some_in x xs m h)

  pub some_alike : (Q : A → Bool) → ((x : A) → P x ≡ Q x) → (xs : List A) → some P xs ≡ some Q xs
  unfolding some
  some_alike Q f [] = refl
  some_alike Q f (x ∷ xs) = rw (f x, some_alike Q f xs)

-- ---- phrases of no word and of one

pub no_phrase : (es : List Entry) (f : List ℕ) → has_phrase es f [] ≡ false
unfolding has_phrase
no_phrase es f = refl

pub one_phrase : (es : List Entry) (f t : List ℕ) (p : ℕ) → has_phrase es f (word p t ∷ []) ≡ has_term es f t
unfolding has_phrase has_term all
one_phrase es f t p = some_alike (starts_on es f p t []) (is_here f t) start es
  where
    start : (e : Entry) → starts_on es f p t [] e ≡ is_here f t e
    start (place g x u) = and_true (same f g && same t u)
    start (value n g b) = refl

-- ---- by pairs: the whole number a - b, added to the position p, gives y where p + a ≡ y + b

unfoldable Found : List Entry → List ℕ → ℕ → ℕ → List Word → Type 0
Found es f a b [] = Unit {0}
Found es f a b (word p t ∷ ws) = ((y : ℕ) × (p + a ≡ y + b) × Memᴰ (place f y t) es) × Found es f a b ws

module _ (es : List Entry) (f : List ℕ) where
  here_from : (t g u : List ℕ) (y : ℕ) → (same f g && same t u) ≡ true → place g y u ≡ place f y t
  here_from t g u y h =
      let i : f ≡ g = same_eq f g (and_l (same f g) (same t u) h) in
      let j : t ≡ u = same_eq t u (and_r (same f g) (same t u) h) in
      cc

  here_in : (t : List ℕ) → (same f f && same t t) ≡ true
  here_in t = both (same_refl f) (same_refl t)

  at_from : (t : List ℕ) (p a : ℕ) (e : Entry) → is_at f t p a e ≡ true → (y : ℕ) × (a ≡ y + p) × (e ≡ place f y t)
  at_from t p a (place g y u) h =
      (y, sym (eqb-true (y + p) a (and_r (same f g && same t u) (eqb (y + p) a) h)), here_from t g u y (and_l (same f g && same t u) (eqb (y + p) a) h))
  at_from t p a (value n g b) h = clash h refl

  at_in : (t : List ℕ) (p a y : ℕ) → a ≡ y + p → is_at f t p a (place f y t) ≡ true
  at_in t p a y e = both (here_in t) (eq-eqb (y + p) a (sym e))

  follow_from : (p x : ℕ) (ws : List Word) → all (follows_from es f p x) ws ≡ true → Found es f x p ws
  unfolding all Found
  follow_from p x [] h = tt
  follow_from p x (word o t ∷ ws) h =
      let Q = is_at f t p (o + x) in
      let s = some_from Q es (and_l (some Q es) (all (follows_from es f p x) ws) h) in
      let a = at_from t p (o + x) s.0 s.2 in
      ((a.0, a.1, subst (λ (e : Entry). Memᴰ e es) a.2 s.1), follow_from p x ws (and_r (some Q es) (all (follows_from es f p x) ws) h))

  follow_in : (a b p x : ℕ) (ws : List Word) → p + a ≡ x + b → Found es f a b ws → all (follows_from es f p x) ws ≡ true
  unfolding all Found
  follow_in a b p x [] e h = refl
  follow_in a b p x (word o t ∷ ws) e h =
      let k = h.0.1 in
      let j : o + x ≡ h.0.0 + p = omega arith in
      both (some_in (is_at f t p (o + x)) (place f h.0.0 t) es h.0.2 (at_in t p (o + x) h.0.0 j)) (follow_in a b p x ws e h.1)

  start_from_lem : (p : ℕ) (t : List ℕ) (ws : List Word) (e : Entry) → starts_on es f p t ws e ≡ true
      → (x : ℕ) × (e ≡ place f x t) × (all (follows_from es f p x) ws ≡ true)
  start_from_lem p t ws (place g x u) h =
      let A = all (follows_from es f p x) ws in
      (x, here_from t g u x (and_l (same f g && same t u) A h), and_r (same f g && same t u) A h)
  start_from_lem p t ws (value n g b) h = clash h refl

  found_from : (w : Word) (ws : List Word) → has_phrase es f (w ∷ ws) ≡ true → (a : ℕ) × (b : ℕ) × Found es f a b (w ∷ ws)
  unfolding has_phrase Found
  found_from (word p t) ws h =
      let s = some_from (starts_on es f p t ws) es h in
      let a = start_from_lem p t ws s.0 s.2 in
      (a.0, p, ((a.0, omega arith, subst (λ (e : Entry). Memᴰ e es) a.1 s.1), follow_from p a.0 ws a.2))

  found_in : (w : Word) (ws : List Word) (a b : ℕ) → Found es f a b (w ∷ ws) → has_phrase es f (w ∷ ws) ≡ true
  unfolding has_phrase Found
  found_in (word p t) ws a b (w, r) =
      some_in (starts_on es f p t ws) (place f w.0 t) es w.2 (both (here_in t) (follow_in a b p w.0 ws w.1 r))

-- ---- by whole numbers

to_whole : (p a y b : ℕ) → p + a ≡ y + b → pos p +ℤ (pos a -ℤ pos b) ≡ pos y
to_whole p a y b e =
    sym (+ℤ_assoc (pos p) (pos a) (neg_ℤ (pos b)))
    ∙ ap (λ (z : ℤ). z -ℤ pos b) (pos-+ℤ-pos p a ∙ ap pos e ∙ sym (pos-+ℤ-pos y b))
    ∙ +ℤ-neg_ℤ_cancel (pos y) (pos b)

of_pos : (m n : ℕ) → pos m ≡ pos n → m ≡ n
of_pos m n e = cc

from_pos : (n p y : ℕ) → pos p +ℤ pos n ≡ pos y → p + n ≡ y + 0
from_pos n p y e = let h : p + n ≡ y = of_pos (p + n) y (sym (pos-+ℤ-pos p n) ∙ e) in omega arith

from_neg : (n p y : ℕ) → pos p +ℤ negsuc n ≡ pos y → p + 0 ≡ y + suc n
from_neg n p y e =
    let h : p ≡ y + suc n =
    of_pos p (y + suc n) (sym (-ℤ-+ℤ_cancel (pos p) (pos (suc n))) ∙ ap (λ (z : ℤ). z +ℤ pos (suc n)) e ∙ pos-+ℤ-pos y (suc n))
    in
    omega arith

module _ (es : List Entry) (f : List ℕ) where
  by_whole : (a b : ℕ) (ws : List Word) → Found es f a b ws → FoundBy es f (pos a -ℤ pos b) ws
  unfolding Found FoundBy
  by_whole a b [] h = tt
  by_whole a b (word p t ∷ ws) h = ((h.0.0, to_whole p a h.0.0 b h.0.1, h.0.2), by_whole a b ws h.1)

  of_whole : (k : ℤ) (a b : ℕ) → ((p y : ℕ) → pos p +ℤ k ≡ pos y → p + a ≡ y + b) → (ws : List Word) → FoundBy es f k ws → Found es f a b ws
  unfolding Found FoundBy
  of_whole k a b g [] h = tt
  of_whole k a b g (word p t ∷ ws) h = ((h.0.0, g p h.0.0 h.0.1, h.0.2), of_whole k a b g ws h.1)

  pub phrase_from : (ws : List Word) → has_phrase es f ws ≡ true → IsPhrase es f ws
  unfolding IsPhrase
  phrase_from [] h = clash h (no_phrase es f)
  phrase_from (w ∷ ws) h = let p = found_from es f w ws h in (pos p.0 -ℤ pos p.1, by_whole p.0 p.1 (w ∷ ws) p.2)

  pub phrase_in_lem : (ws : List Word) → IsPhrase es f ws → has_phrase es f ws ≡ true
  unfolding IsPhrase
  phrase_in_lem [] h = absurd h
  phrase_in_lem (w ∷ ws) (pos n, h) = found_in es f w ws n 0 (of_whole (pos n) n 0 (from_pos n) (w ∷ ws) h)
  phrase_in_lem (w ∷ ws) (negsuc n, h) = found_in es f w ws 0 (suc n) (of_whole (negsuc n) 0 (suc n) (from_neg n) (w ∷ ws) h)

  pub phrase_is : (ws : List Word) → (has_phrase es f ws ≡ true) ↔ IsPhrase es f ws
  phrase_is ws = (phrase_from ws, phrase_in_lem ws)
