-- Decimal numbers, a digit at a time, and how long they are at most.
use mathlib.Core.Path.{◌≡◌, refl, sym, ap, ◌∙◌}
use Prim.Native.Nat.{ℕ, zero, suc, ◌+◌, ◌/◌, ◌%◌, ◌≤◌, ◌<◌}
use mathlib.Core.List.{List, [], ◌∷◌, ◌++◌, append_assoc}
use mathlib.Core.Bool.{Bool, true, false}
use native.Mathlib.Omega.{arith}
use lib.ListN.{length}
use lib.Dec.{ltb}
use borrow.Author.Tests.{ltb-true, ltb-false, lt-ltb, le-ltb}
use Rattle.rules.specs.Show.{digit, decimal_onto, decimal}

-- a number of one digit, and of more
module _ (k n : ℕ) (s : List ℕ) where
  onto_last : n < 10 → decimal_onto (suc k) n s ≡ digit n ∷ s
  unfolding decimal_onto
  onto_last h = rw (lt-ltb n 10 h)

  onto_more : 10 ≤ n → decimal_onto (suc k) n s ≡ decimal_onto k (n / 10) (digit (n % 10) ∷ s)
  unfolding decimal_onto
  onto_more h = rw (le-ltb n 10 h)

-- by whether it has one digit
by_digits_lem : {A : Type 0} (n : ℕ) → (n < 10 → A) → (10 ≤ n → A) → A
by_digits_lem {A} n f g = by (ltb n 10) refl
  where
    by : (b : Bool) → ltb n 10 ≡ b → A
    by true e = f (ltb-true n 10 e)
    by false e = g (ltb-false n 10 e)

-- whatever the fuel, once it is above the number
onto_fuel : (k m n : ℕ) (s : List ℕ) → n < k → n < m → decimal_onto k n s ≡ decimal_onto m n s
onto_fuel zero m n s h g = absurd (omega arith)
onto_fuel (suc k) zero n s h g = absurd (omega arith)
onto_fuel (suc k) (suc m) n s h g =
    by_digits_lem n (λ l. onto_last k n s l ∙ sym (onto_last m n s l))
    (λ l. onto_more k n s l ∙ onto_fuel k m (n / 10) (digit (n % 10) ∷ s) (omega arith) (omega arith) ∙ sym (onto_more m n s l))

onto_append : (k n : ℕ) (s : List ℕ) → decimal_onto k n s ≡ decimal_onto k n [] ++ s
unfolding decimal_onto
onto_append zero n s = refl
onto_append (suc k) n s =
    by_digits_lem n (λ l. onto_last k n s l ∙ ap {B = List ℕ} (λ x. x ++ s) (sym (onto_last k n [] l)))
    (λ l.
    let c = digit (n % 10) in
    onto_more k n s l ∙ onto_append k (n / 10) (c ∷ s) ∙ sym (append_assoc (decimal_onto k (n / 10) []) (c ∷ []) s)
    ∙ ap {B = List ℕ} (λ x. x ++ s) (sym (onto_append k (n / 10) (c ∷ [])) ∙ sym (onto_more k n [] l)))

pub decimal_last : (n : ℕ) → n < 10 → decimal n ≡ digit n ∷ []
decimal_last n h = onto_last n n [] h

pub decimal_more : (n : ℕ) → 10 ≤ n → decimal n ≡ decimal (n / 10) ++ (digit (n % 10) ∷ [])
decimal_more n h =
    onto_more n n [] h ∙ onto_fuel n (suc (n / 10)) (n / 10) (digit (n % 10) ∷ []) (omega arith) (omega arith)
    ∙ onto_append (suc (n / 10)) (n / 10) (digit (n % 10) ∷ [])

-- far more than it has, but enough for sums that must not overflow
onto_long : (k n : ℕ) (s : List ℕ) → length (decimal_onto k n s) ≤ k + length s
unfolding decimal_onto
onto_long zero n s = omega arith
onto_long (suc k) n s =
    by_digits_lem n (λ l. rw (onto_last k n s l) (omega arith)) (λ l. rw (onto_more k n s l) (omega (arith, onto_long k (n / 10) (digit (n % 10) ∷ s))))

pub decimal_long : (n : ℕ) → length (decimal n) ≤ suc n
decimal_long n = omega (arith, onto_long (suc n) n [])
