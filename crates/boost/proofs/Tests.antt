-- Tests of two numbers, as the code makes them. Assumes nothing.
use mathlib.Core.Path.{◌≡◌, sym, ◌∙◌, subst}
use mathlib.Core.Bool.{Bool, true, false, true≢false}
use Prim.Native.Nat.{ℕ}
use lib.Dec.{T, eqb, eqb→eq, not_T}
use lib.Ieee.Fits.{eq→eqb}
use lib.Ieee.Bits.{is_true, is_false}

pub eq_yes : (a b : ℕ) → a ≡ b → eqb a b ≡ true
eq_yes a b e = is_true (eqb a b) (eq→eqb e)

pub eq_no : (a b : ℕ) → (a ≡ b → ⊥) → eqb a b ≡ false
eq_no a b n = is_false (eqb a b) (not_T (eqb a b) (λ (t : T (eqb a b)). n (eqb→eq a b t)))

pub eq_of : (b : Bool) (m n : ℕ) → b ≡ eqb m n → b ≡ true → m ≡ n
eq_of b m n e f = eqb→eq m n (subst T (sym (sym e ∙ f)) tt)

pub ne_of : (b : Bool) (m n : ℕ) → b ≡ eqb m n → b ≡ false → m ≡ n → ⊥
ne_of b m n e f h = true≢false (sym (eq_yes m n h) ∙ sym e ∙ f)
