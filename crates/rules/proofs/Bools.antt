-- Laws of tests: `&&`, `||`, `cond`, and a test that is both true and false.
use mathlib.Core.Path.{◌≡◌, refl, sym, ◌∙◌}
use mathlib.Core.Logic.{◌⊎◌, inl, inr}
use mathlib.Core.Bool.{Bool, true, false, not, ◌&&◌, ◌||◌, cond, true≢false}
use borrow.Author.Tests.{not-true, not-false}

pub clash : {A : Type 0} {b : Bool} → b ≡ true → b ≡ false → A
clash p q = absurd (true≢false (sym p ∙ q))

pub split : (b : Bool) → (b ≡ true) ⊎ (b ≡ false)
split true = inl refl
split false = inr refl

-- a test that can not pass
pub fails : (b : Bool) → (b ≡ true → ⊥) → b ≡ false
fails true h = absurd (h refl)
fails false h = refl

-- two tests that are true alike are one
pub alike : (a b : Bool) → (a ≡ true → b ≡ true) → (b ≡ true → a ≡ true) → a ≡ b
alike true b h k = sym (h refl)
alike false true h k = k refl
alike false false h k = refl

-- a flag that a callee says is b, tested by `!`
pub told_no : {r b : Bool} → r ≡ b → not r ≡ true → b ≡ false
told_no {r} e h = sym e ∙ not-true r h

pub told_yes : {r b : Bool} → r ≡ b → not r ≡ false → b ≡ true
told_yes {r} e h = sym e ∙ not-false r h

-- ---- `&&`

pub and_l : (a b : Bool) → a && b ≡ true → a ≡ true
and_l true b h = refl
and_l false b h = h

pub and_r : (a b : Bool) → a && b ≡ true → b ≡ true
and_r true b h = h
and_r false b h = clash h refl

pub both : {a b : Bool} → a ≡ true → b ≡ true → a && b ≡ true
both h k = simp (h, k)

pub and_no_l : {a : Bool} (b : Bool) → a ≡ false → a && b ≡ false
and_no_l b h = rw h

pub and_no_r : (a : Bool) {b : Bool} → b ≡ false → a && b ≡ false
and_no_r true h = h
and_no_r false h = refl

pub and_true : (a : Bool) → a && true ≡ a
and_true true = refl
and_true false = refl

pub and_false : (a : Bool) → a && false ≡ false
and_false a = and_no_r a refl

pub and_same : (a b : Bool) → a && (a && b) ≡ a && b
and_same true b = refl
and_same false b = refl

pub and_swap : (a b c : Bool) → a && (b && c) ≡ b && (a && c)
and_swap true b c = refl
and_swap false b c = sym (and_false b)

-- four tests in a row
pub and_four : (a b c d : Bool) → a && (b && (c && d)) ≡ true → (a ≡ true) × (b ≡ true) × (c ≡ true) × (d ≡ true)
and_four a b c d h =
    let k = and_r a (b && (c && d)) h in
    let l = and_r b (c && d) k in
    (and_l a (b && (c && d)) h, and_l b (c && d) k, and_l c d l, and_r c d l)

-- ---- `||`

pub or_l : {a : Bool} (b : Bool) → a ≡ true → a || b ≡ true
or_l b h = rw h

pub or_r : (a : Bool) {b : Bool} → b ≡ true → a || b ≡ true
or_r true h = refl
or_r false h = h

pub neither : {a b : Bool} → a ≡ false → b ≡ false → a || b ≡ false
neither h k = simp (h, k)

pub either : (a b : Bool) → a || b ≡ true → (a ≡ true) ⊎ (b ≡ true)
either true b h = inl refl
either false b h = inr h

pub or_no_l : (a b : Bool) → a || b ≡ false → a ≡ false
or_no_l true b h = h
or_no_l false b h = refl

pub or_no_r : (a b : Bool) → a || b ≡ false → b ≡ false
or_no_r true b h = clash refl h
or_no_r false b h = h

pub or_false : (a : Bool) → a || false ≡ a
or_false true = refl
or_false false = refl

pub or_assoc : (a b c : Bool) → a || (b || c) ≡ (a || b) || c
or_assoc true b c = refl
or_assoc false b c = refl

pub or_same : (a b : Bool) → a || (a || b) ≡ a || b
or_same true b = refl
or_same false b = refl

pub or_swap : (a b c : Bool) → a || (b || c) ≡ b || (a || c)
or_swap true b c = sym (or_r b refl)
or_swap false b c = refl

-- ---- `cond`

module _ {A : Type 0} {b : Bool} (x y : A) where
  pub cond_yes : b ≡ true → cond b x y ≡ x
  cond_yes h = rw h

  pub cond_no : b ≡ false → cond b x y ≡ y
  cond_no h = rw h
