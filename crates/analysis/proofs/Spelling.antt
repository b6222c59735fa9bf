-- How a token is written out: byte by byte, as long as it is, and ASCII where it is ASCII. Assumes nothing.
use mathlib.Core.Path.{◌≡◌, refl, sym, ap, ◌∙◌}
use mathlib.Core.Bool.{Bool, true, false, cond}
use mathlib.Core.List.{List, [], ◌∷◌, map}
use Prim.Native.Nat.{ℕ}
use lib.Dec.{eqb}
use lib.ListN.{length, length-map}
use Rattle.rules.specs.Bytes.{is_text}
use borrow.Author.Tests.{ne_eqb}
use Rattle.rules.specs.Analysis.{lower, lowercase, is_words}
use Rattle.rules.proofs.Bools.{or_r, neither, cond_yes, cond_no}
use Rattle.rules.proofs.Text.Tokens.{lowercase_text}
use Rattle.analysis.specs.Tokens.{lowers, spelled, written_byte}

as_it_is : (t : List ℕ) → t ≡ map (λ c. c) t
as_it_is [] = refl
as_it_is (c ∷ t) = ap (λ (u : List ℕ). c ∷ u) (as_it_is t)

module _ (a : ℕ) (t : List ℕ) where
  pub spelled_bytes : spelled a t ≡ map (written_byte a) t
  unfolding spelled written_byte
  spelled_bytes = pass (lowers a)
    where
      pass : (b : Bool) → cond b (lowercase t) t ≡ map (λ c. cond b (lower c) c) t
      pass true = refl
      pass false = as_it_is t

  pub spelled_length : length (spelled a t) ≡ length t
  spelled_length = ap length spelled_bytes ∙ length-map t (written_byte a)

  pub spelled_text : is_text t ≡ true → is_text (spelled a t) ≡ true
  unfolding spelled
  spelled_text h = pass (lowers a)
    where
      pass : (b : Bool) → is_text (cond b (lowercase t) t) ≡ true
      pass true = lowercase_text t h
      pass false = h

-- ---- a byte, as the code asks

module _ (a c : ℕ) where
  pub written_words : {r : ℕ} → is_words a ≡ true → r ≡ lower c → r ≡ written_byte a c
  unfolding written_byte
  written_words x e = e ∙ sym (cond_yes (lower c) c (or_r (eqb a 2) x))

  pub written_plain : (a ≡ 2 → ⊥) → is_words a ≡ false → c ≡ written_byte a c
  unfolding written_byte
  written_plain n x = sym (cond_no (lower c) c (neither (ne_eqb a 2 n) x))
