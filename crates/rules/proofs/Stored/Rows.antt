-- Rows of parts, a part at a time: `every` and `each` once their fuel suffices, and `some` and `all` over what is read.
use mathlib.Core.Path.{◌≡◌, refl, sym, ap, ◌∙◌}
use Prim.Native.Nat.{ℕ, zero, suc, ◌≤◌}
use mathlib.Core.List.{List, [], ◌∷◌}
use mathlib.Core.Bool.{Bool, true, false, ◌&&◌}
use native.Mathlib.Omega.{arith}
use lib.ListN.{length}
use Rattle.rules.specs.Bytes.{is_empty, rest_of, every_in, every, each_in, each, some, all}
use Rattle.rules.proofs.Bools.{clash, and_l, and_r, and_no_l}
use Rattle.rules.proofs.Stored.Parts.{length_rest}

-- what follows the first part is shorter than the fuel that is left
pub rest_within : (n x : ℕ) (s : List ℕ) → length (x ∷ s) ≤ suc n → length (rest_of (x ∷ s)) ≤ n
rest_within n x s h = rw length_rest (omega arith)

-- a function that goes through a row by fuel, from the front to `rest`, does not depend on the fuel, once there is as much as the row is long
module _ (rest : List ℕ → List ℕ) (within : (n x : ℕ) (s : List ℕ) → length (x ∷ s) ≤ suc n → length (rest (x ∷ s)) ≤ n)
    {B : Type 0} (F : ℕ → List ℕ → B) (end : B) (step : List ℕ → B → B) (stop : (n : ℕ) → F n [] ≡ end)
    (go : (n x : ℕ) (s : List ℕ) → F (suc n) (x ∷ s) ≡ step (x ∷ s) (F n (rest (x ∷ s)))) where
  pub enough : (n m : ℕ) (s : List ℕ) → length s ≤ n → length s ≤ m → F n s ≡ F m s
  enough zero m [] h k = stop zero ∙ sym (stop m)
  enough zero m (x ∷ s) h k = absurd (omega arith)
  enough (suc n) m [] h k = stop (suc n) ∙ sym (stop m)
  enough (suc n) zero (x ∷ s) h k = absurd (omega arith)
  enough (suc n) (suc m) (x ∷ s) h k =
      go n x s ∙ ap (step (x ∷ s)) (enough n m (rest (x ∷ s)) (within n x s h) (within m x s k)) ∙ sym (go m x s)

module _ (P : List ℕ → Bool) where
  every_end : (n : ℕ) → every_in P n [] ≡ true
  unfolding every_in
  every_end zero = refl
  every_end (suc n) = refl

  every_more : (n x : ℕ) (s : List ℕ) → every_in P (suc n) (x ∷ s) ≡ (P (x ∷ s) && every_in P n (rest_of (x ∷ s)))
  unfolding every_in
  every_more n x s = refl

  pub every_in_lem : (n : ℕ) (s : List ℕ) → length s ≤ n → every_in P n s ≡ every P s
  every_in_lem n s h = enough rest_of rest_within (every_in P) true (λ t b. P t && b) every_end every_more n (length s) s h (omega arith)

  pub every_done : (s : List ℕ) → is_empty s ≡ true → every P s ≡ true
  every_done [] e = every_end 0
  every_done (x ∷ s) e = clash e refl

  pub every_step : (s : List ℕ) → is_empty s ≡ false → every P s ≡ (P s && every P (rest_of s))
  every_step [] e = clash refl e
  every_step (x ∷ s) e = every_more (length s) x s ∙ ap (λ (b : Bool). P (x ∷ s) && b) (every_in_lem (length s) (rest_of (x ∷ s)) (rest_within (length s) x s (omega arith)))

  pub every_next : (s : List ℕ) → is_empty s ≡ false → P s ≡ true → every P s ≡ every P (rest_of s)
  every_next s e h = every_step s e ∙ rw h

  pub every_bad : (s : List ℕ) → is_empty s ≡ false → P s ≡ false → every P s ≡ false
  every_bad s e h = every_step s e ∙ and_no_l (every P (rest_of s)) h

  -- a row that passes, by its first part and the others
  pub first : (s : List ℕ) → is_empty s ≡ false → every P s ≡ true → P s ≡ true
  first s e h = and_l (P s) (every P (rest_of s)) (sym (every_step s e) ∙ h)

  pub others : (s : List ℕ) → is_empty s ≡ false → every P s ≡ true → every P (rest_of s) ≡ true
  others s e h = and_r (P s) (every P (rest_of s)) (sym (every_step s e) ∙ h)

-- a row that passes, to go through by induction
pub data Row (P : List ℕ → Bool) : List ℕ → Type 0 where
  done : Row P []
  next : {x : ℕ} {s : List ℕ} → P (x ∷ s) ≡ true → Row P (rest_of (x ∷ s)) → Row P (x ∷ s)

module _ (P : List ℕ → Bool) where
  row_in_lem : (n : ℕ) (s : List ℕ) → length s ≤ n → every P s ≡ true → Row P s
  row_in_lem zero [] l h = done
  row_in_lem (suc n) [] l h = done
  row_in_lem zero (x ∷ s) l h = absurd (omega arith)
  row_in_lem (suc n) (x ∷ s) l h =
      next (first P (x ∷ s) refl h) (row_in_lem n (rest_of (x ∷ s)) (rest_within n x s l) (others P (x ∷ s) refl h))

  pub row : (s : List ℕ) → every P s ≡ true → Row P s
  row s h = row_in_lem (length s) s (omega arith) h

module _ {A : Type 0} (g : List ℕ → A) where
  each_end : (n : ℕ) → each_in g n [] ≡ []
  unfolding each_in
  each_end zero = refl
  each_end (suc n) = refl

  each_more : (n x : ℕ) (s : List ℕ) → each_in g (suc n) (x ∷ s) ≡ g (x ∷ s) ∷ each_in g n (rest_of (x ∷ s))
  unfolding each_in
  each_more n x s = refl

  pub each_in_lem : (n : ℕ) (s : List ℕ) → length s ≤ n → each_in g n s ≡ each g s
  each_in_lem n s h = enough rest_of rest_within (each_in g) [] (λ t l. g t ∷ l) each_end each_more n (length s) s h (omega arith)

  pub each_done : (s : List ℕ) → is_empty s ≡ true → each g s ≡ []
  each_done [] e = each_end 0
  each_done (x ∷ s) e = clash e refl

  pub each_next : (s : List ℕ) → is_empty s ≡ false → each g s ≡ g s ∷ each g (rest_of s)
  each_next [] e = clash refl e
  each_next (x ∷ s) e = each_more (length s) x s ∙ ap {B = List A} (λ l. g (x ∷ s) ∷ l) (each_in_lem (length s) (rest_of (x ∷ s)) (rest_within (length s) x s (omega arith)))

  -- a search through a row
  module _ (Q : A → Bool) where
    pub some_done : (s : List ℕ) → is_empty s ≡ true → some Q (each g s) ≡ false
    unfolding some
    some_done s e = ap (some Q) (each_done s e)

    pub some_yes : (s : List ℕ) → is_empty s ≡ false → Q (g s) ≡ true → some Q (each g s) ≡ true
    unfolding some
    some_yes s e h = ap (some Q) (each_next s e) ∙ rw h

    pub some_no : (s : List ℕ) → is_empty s ≡ false → Q (g s) ≡ false → some Q (each g s) ≡ some Q (each g (rest_of s))
    unfolding some
    some_no s e h = ap (some Q) (each_next s e) ∙ rw h

    pub all_done : (s : List ℕ) → is_empty s ≡ true → all Q (each g s) ≡ true
    unfolding all
    all_done s e = ap (all Q) (each_done s e)

    pub all_yes : (s : List ℕ) → is_empty s ≡ false → Q (g s) ≡ true → all Q (each g s) ≡ all Q (each g (rest_of s))
    unfolding all
    all_yes s e h = ap (all Q) (each_next s e) ∙ rw h

    pub all_no : (s : List ℕ) → is_empty s ≡ false → Q (g s) ≡ false → all Q (each g s) ≡ false
    unfolding all
    all_no s e h = ap (all Q) (each_next s e) ∙ rw h
