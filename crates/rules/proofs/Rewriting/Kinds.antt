-- Which kind stands for which: its own, and a Must for a Filter. Section 'One round of rewriting'.
use mathlib.Core.Path.{◌≡◌, refl}
use mathlib.Core.Logic.{◌⊎◌, inl, inr}
use Prim.Native.Nat.{ℕ}
use mathlib.Core.Bool.{Bool, true, not}
use Rattle.rules.specs.Query.{Kind, must, should, must_not, filter}
use Rattle.rules.specs.Rewriting.{is_needed, summable, stands_for}
use Rattle.rules.specs.Matching.{allows}
use Rattle.rules.proofs.Bools.{clash, or_r}

module _ (strict : Bool) (m : ℕ) where
  pub stands_is : (j k : Kind) → stands_for strict m j k ≡ true → (j ≡ k) ⊎ ((j ≡ must) × (k ≡ filter))
  stands_is must must h = inl refl
  stands_is must should h = clash h refl
  stands_is must must_not h = clash h refl
  stands_is must filter h = inr (refl, refl)
  stands_is should must h = clash h refl
  stands_is should should h = inl refl
  stands_is should must_not h = clash h refl
  stands_is should filter h = clash h refl
  stands_is must_not must h = clash h refl
  stands_is must_not should h = clash h refl
  stands_is must_not must_not h = inl refl
  stands_is must_not filter h = clash h refl
  stands_is filter must h = clash h refl
  stands_is filter should h = clash h refl
  stands_is filter must_not h = clash h refl
  stands_is filter filter h = inl refl

  -- a summable clause for those of its own kind
  pub stands_self : (k : Kind) → summable m k ≡ true → stands_for strict m k k ≡ true
  stands_self must h = refl
  stands_self should h = or_r (not strict) h
  stands_self must_not h = refl
  stands_self filter h = refl

  -- a law of a kind itself, and of a Must and a Filter
  stands_by : (P : Kind → Kind → Type 0) → ((k : Kind) → P k k) → P must filter → (j k : Kind) → stands_for strict m j k ≡ true → P j k
  stands_by P own other j k h = go (stands_is j k h)
    where
      go : (j ≡ k) ⊎ ((j ≡ must) × (k ≡ filter)) → P j k
      go (inl e) = rw e (own k)
      go (inr e) = rw (e.0, e.1) other

  pub stands_needed : (j k : Kind) → stands_for strict m j k ≡ true → is_needed j ≡ is_needed k
  stands_needed = stands_by (λ j k. is_needed j ≡ is_needed k) (λ k. refl) refl

  pub stands_allows : (b : Bool) (j k : Kind) → stands_for strict m j k ≡ true → allows j b ≡ allows k b
  stands_allows b = stands_by (λ j k. allows j b ≡ allows k b) (λ k. refl) refl

  -- for a summable clause its own kind alone
  pub stands_same : (j k : Kind) → stands_for strict m j k ≡ true → summable m k ≡ true → j ≡ k
  stands_same = stands_by (λ j k. summable m k ≡ true → j ≡ k) (λ k h. refl) (λ h. clash h refl)
