-- What the table tells of an ASCII byte: its flags are the tests of the rules. And that a byte of a text is one.
use mathlib.Core.Path.{◌≡◌, sym, ap, ◌∙◌}
use mathlib.Core.Bool.{Bool, true, false, ◌||◌}
use Prim.Native.Nat.{ℕ, zero, suc, ◌/◌, ◌%◌, ◌≤◌, ◌<◌}
use mathlib.Core.List.{List, [], ◌∷◌}
use native.Mathlib.Omega.{arith}
use lib.Dec.{T, leb, ltb, eqb, eqb→eq}
use lib.ListN.{get_or}
use borrow.Author.Tests.{eq-eqb, ne_eqb, eqb-true, leb-true, le-leb, le-ltb}
use Rattle.rules.specs.Bytes.{is_text}
use Rattle.rules.specs.Analysis.{is_space, ends_term, is_letter, class_of, classes}
use Rattle.rules.proofs.Bools.{fails, clash, and_l, and_r}
use Rattle.rules.proofs.Text.Classes.{every_from, at_each, entries, class_within, space_flag, end_flag, letter_flag}

pub text_byte : (s : List ℕ) (i : ℕ) → is_text s ≡ true → get_or s i 0 < 128
unfolding is_text
text_byte [] i h = omega arith
text_byte (x ∷ s) zero h = let l = leb-true x 0x7f (and_l (leb x 0x7f) (is_text s) h) in omega (arith, l)
text_byte (x ∷ s) (suc i) h = text_byte s i (and_r (leb x 0x7f) (is_text s) h)

-- ---- an entry of 64 or more is 64

highest : ℕ → ℕ → Bool
highest k x = ltb x 64 || eqb x 64

highest_each : T (every_from highest 0 classes)
unfolding highest classes
highest_each = tt

letter_highest : (c : ℕ) → c < 128 → 64 ≤ get_or classes c 0 → get_or classes c 0 ≡ 64
unfolding highest
letter_highest c h l =
    let t : T (eqb (get_or classes c 0) 64) = rw (le-ltb (get_or classes c 0) 64 l) at (at_each highest classes highest_each c (rw entries h)) in
    eqb→eq (get_or classes c 0) 64 t

-- a letter does not end a term
pub letter_goes_on : (c : ℕ) → c < 128 → is_letter c ≡ true → ends_term c ≡ false
letter_goes_on c h l =
    let x : class_of c ≡ get_or classes c 0 = sym (class_within c h) in
    let high : leb 64 (class_of c) ≡ true = letter_flag c ∙ l in
    let is : class_of c ≡ 64 = x ∙ letter_highest c h (leb-true 64 (get_or classes c 0) (rw x at high)) in
    sym (end_flag c) ∙ ap (λ (y : ℕ). eqb (y / 2 % 2) 1) is

-- ---- what the code reads in the table

module _ {x : ℕ} (c : ℕ) (h : c < 128) (e : x ≡ get_or classes c 0) where
  class_is : class_of c ≡ x
  class_is = sym (e ∙ class_within c h)

  pub space_is : is_space c ≡ eqb (x % 2) 1
  space_is = sym (space_flag c) ∙ ap (λ (y : ℕ). eqb (y % 2) 1) class_is

  pub end_is : ends_term c ≡ eqb (x / 2 % 2) 1
  end_is = sym (end_flag c) ∙ ap (λ (y : ℕ). eqb (y / 2 % 2) 1) class_is

  pub letter_is : is_letter c ≡ leb 64 x
  letter_is = sym (letter_flag c) ∙ ap (λ (y : ℕ). leb 64 y) class_is

  pub space_told : x % 2 ≡ 1 → is_space c ≡ true
  space_told g = space_is ∙ eq-eqb (x % 2) 1 g

  pub no_space_told : (x % 2 ≡ 1 → ⊥) → is_space c ≡ false
  no_space_told g = space_is ∙ ne_eqb (x % 2) 1 g

  pub letter_told : 64 ≤ x → is_letter c ≡ true
  letter_told g = letter_is ∙ le-leb 64 x g

-- a letter is not a byte that is none
pub letter_other : (c : ℕ) → is_letter c ≡ true → (x : ℕ) → is_letter x ≡ false → eqb c x ≡ false
letter_other c h x n = fails (eqb c x) (λ e. clash h (ap is_letter (eqb-true c x e) ∙ n))
