-- What classes tell of bytes in a word. Assumes nothing.
use mathlib.Core.Path.{◌≡◌, sym, ap, ◌∙◌}
use mathlib.Core.Logic.{inl}
use mathlib.Core.Bool.{Bool, true, false, ◌||◌}
use mathlib.Core.List.{List}
use Prim.Native.Nat.{ℕ, zero, suc, ◌/◌, ◌%◌, ◌+◌, ◌-◌, ◌≤◌, ◌<◌}
use native.Mathlib.Omega.{arith}
use lib.Dec.{leb}
use lib.ListN.{length, get_or}
use borrow.Author.Tests.{eq-eqb, not-true}
use Rattle.rules.specs.Words.{is, a_letter, is_mid_letters, is_mid_numbers, values, word_break}
use Rattle.rules.specs.Analysis.{class_of}
use Rattle.rules.specs.InWords.{is_solid, is_inner, bridged, value_at, is_bridge, is_within}
use Rattle.rules.proofs.Bools.{and_false}
use Rattle.rules.proofs.Text.Classes.{letters_flag, numbers_flag, joins_flag, alphanumeric_flag, letter_flag, letter_value, digit_value}
use Rattle.rules.proofs.Text.Values.{bridged_by, nothing_bridged, no_first, no_last, outer_joins}
use Rattle.rules.proofs.Text.Words.{value_in, value_past, way_joined, joined_first, joined_is}
use Rattle.analysis.specs.Words.{joins_by}

-- ---- three bytes

letter_told : (c : ℕ) → leb 64 (class_of c) ≡ is (word_break c) a_letter
letter_told c = letter_flag c ∙ sym (letter_value c)

solid_told : (c : ℕ) → leb 32 (class_of c) ≡ is_solid (word_break c)
solid_told c = alphanumeric_flag c ∙ rw (letter_value, digit_value)

pub joins_is : (b m d : ℕ) → joins_by (class_of b) (class_of m) (class_of d) ≡ bridged (word_break b) (word_break m) (word_break d)
unfolding joins_by
joins_is b m d =
    rw (letter_told b, letter_told d, letters_flag m, solid_told b, solid_told d, numbers_flag m) (bridged_by (word_break b) (word_break m) (word_break d))

-- a byte that joins nothing
pub joins_none : (m : ℕ) → class_of m / 4 % 4 ≡ 0 → is_mid_letters (word_break m) || is_mid_numbers (word_break m) ≡ false
joins_none m e = not-true (is_mid_letters (word_break m) || is_mid_numbers (word_break m)) (sym (joins_flag m) ∙ eq-eqb (class_of m / 4 % 4) 0 e)

-- ---- at a place

module _ (s : List ℕ) where
  pub bridge_at : (i : ℕ) → suc (suc i) < length s → is_bridge s (suc i) ≡ bridged (word_break (get_or s i 0)) (word_break (get_or s (suc i) 0)) (word_break (get_or s (suc (suc i)) 0))
  unfolding is_bridge
  bridge_at i h = rw (value_in s i (omega arith), value_in s (suc i) (omega arith), value_in s (suc (suc i)) h)

  pub bridge_none : (i : ℕ) → suc i < length s → is_mid_letters (word_break (get_or s (suc i) 0)) || is_mid_numbers (word_break (get_or s (suc i) 0)) ≡ false → is_bridge s (suc i) ≡ false
  unfolding is_bridge
  bridge_none i h e =
      nothing_bridged (value_at s (suc (suc i))) (value_at s (suc (suc (suc i)))) (value_at s (suc (suc (suc (suc i))))) (rw (value_in s (suc i) h) e)

  pub bridge_last : (i : ℕ) → length s ≤ suc i → is_bridge s i ≡ false
  unfolding is_bridge
  bridge_last i h = rw (value_past s (suc i) h) (no_last (value_at s (suc i)) (value_at s (suc (suc i))))

  bridge_first : is_bridge s 0 ≡ false
  unfolding is_bridge values
  bridge_first = no_first (value_at s 2) (value_at s 3)

  -- ---- a place in a word

  pub within_first : is_within s 0 ≡ false
  unfolding is_within
  within_first = rw (joined_first s) (and_false (is_inner (value_at s 1) || is_inner (value_at s 2)))

  pub within_behind : (i : ℕ) → is_inner (value_at s (suc i)) ≡ true → is_within s i ≡ is_inner (value_at s (suc (suc i))) || is_bridge s i
  unfolding is_within
  within_behind i e = rw e (way_joined s i (inl e))

  pub within_none : (i : ℕ) → is_inner (value_at s (suc i)) ≡ false → is_inner (value_at s (suc (suc i))) ≡ false → is_within s i ≡ false
  unfolding is_within
  within_none i e f = rw (e, f)

  pub within_before : (i : ℕ) → is_inner (value_at s (suc (suc i))) ≡ false → is_inner (value_at s (suc (suc (suc i)))) ≡ true → is_within s (suc i) ≡ is_bridge s i
  unfolding is_within is_bridge
  within_before i e f =
      rw (e, f) (joined_is s (suc i) ∙ outer_joins (value_at s (suc i)) (value_at s (suc (suc i))) (value_at s (suc (suc (suc i)))) (value_at s (suc (suc (suc (suc i))))) e f)

  pub within_one : is_inner (value_at s 2) ≡ false → is_inner (value_at s 3) ≡ true → is_within s 1 ≡ false
  within_one e f = within_before 0 e f ∙ bridge_first

-- ---- as the code asks

pub or_skip : {a : Bool} (b : Bool) → a ≡ false → a || b ≡ b
or_skip b h = rw h

module _ (s : List ℕ) where
  pub told_none : (i : ℕ) → 0 < i → i < length s → {x : ℕ} → x ≡ class_of (get_or s i 0) → x / 4 % 4 ≡ 0 → false ≡ is_bridge s i
  told_none zero h l e z = absurd (omega arith)
  told_none (suc i) h l e z = sym (bridge_none s i l (joins_none (get_or s (suc i) 0) (ap (λ (y : ℕ). y / 4 % 4) (sym e) ∙ z)))

  pub told_last : (i : ℕ) → length s - i < 2 → i < length s → false ≡ is_bridge s i
  told_last i h l = sym (bridge_last s i (omega arith))

  pub told_bridge : (i : ℕ) → 0 < i → 2 ≤ length s - i → {x y z : ℕ} {r : Bool} → x ≡ class_of (get_or s i 0) → y ≡ class_of (get_or s (i - 1) 0) → z ≡ class_of (get_or s (i + 1) 0) → r ≡ joins_by y x z → r ≡ is_bridge s i
  told_bridge zero h l e f g m = absurd (omega arith)
  told_bridge (suc i) h l {x} {y} {z} e f g m =
      let u : suc i - 1 ≡ i = omega arith in
      let v : suc i + 1 ≡ suc (suc i) = omega arith in
      let f' : y ≡ class_of (get_or s i 0) = f ∙ ap (λ (k : ℕ). class_of (get_or s k 0)) u in
      let g' : z ≡ class_of (get_or s (suc (suc i)) 0) = g ∙ ap (λ (k : ℕ). class_of (get_or s k 0)) v in
      m ∙ rw (e, f', g') (joins_is (get_or s i 0) (get_or s (suc i) 0) (get_or s (suc (suc i)) 0)) ∙ sym (bridge_at s i (omega arith))

  pub told_zero : (at : ℕ) → at ≡ 0 → false ≡ is_within s at
  told_zero at e = sym (ap (is_within s) e ∙ within_first s)

  -- the byte before a place
  before_is : (at : ℕ) → (at ≡ 0 → ⊥) → suc (suc (at - 1)) ≡ suc at
  before_is at n = omega arith

  module _ (at : ℕ) (n : at ≡ 0 → ⊥) {r : Bool} (e : r ≡ is_inner (value_at s (suc (suc (at - 1))))) where
    inner_before : {b : Bool} → r ≡ b → is_inner (value_at s (suc at)) ≡ b
    inner_before f = sym (e ∙ ap (λ (k : ℕ). is_inner (value_at s k)) (before_is at n)) ∙ f

    pub told_within : {q : Bool} → r ≡ true → q ≡ (is_inner (value_at s (suc (suc at))) || is_bridge s at) → q ≡ is_within s at
    told_within f g = g ∙ sym (within_behind s at (inner_before f))

    module _ (f : r ≡ false) {p : Bool} (g : p ≡ is_inner (value_at s (suc (suc at)))) where
      pub told_outside : p ≡ false → false ≡ is_within s at
      told_outside h = sym (within_none s at (inner_before f) (sym g ∙ h))

      pub told_one : p ≡ true → at ≡ 1 → false ≡ is_within s at
      told_one h z =
          sym
          (ap (is_within s) z
          ∙ within_one s (ap (λ (k : ℕ). is_inner (value_at s (suc k))) (sym z) ∙ inner_before f) (ap (λ (k : ℕ). is_inner (value_at s (suc (suc k)))) (sym z) ∙ sym g ∙ h))

      pub told_before : {q : Bool} → p ≡ true → q ≡ is_bridge s (at - 1) → q ≡ is_within s at
      told_before h k = k ∙ step (at - 1) (omega arith)
        where
          step : (b : ℕ) → at ≡ suc b → is_bridge s b ≡ is_within s at
          step b z =
              sym
              (ap (is_within s) z
              ∙ within_before s b (ap (λ (k : ℕ). is_inner (value_at s (suc k))) (sym z) ∙ inner_before f) (ap (λ (k : ℕ). is_inner (value_at s (suc (suc k)))) (sym z) ∙ sym g ∙ h))
