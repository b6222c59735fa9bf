-- Laws of `Lays`: one stretch behind another, and loops that lay a text piece by piece.
use mathlib.Core.Path.{◌≡◌, refl, sym, ap, subst, ◌∙◌}
use Prim.Native.Nat.{ℕ, ◌+◌, ◌≤◌, ◌<◌}
use mathlib.Core.List.{List, [], ◌∷◌, ◌++◌, append_assoc, append-nil}
use native.Mathlib.Omega.{arith}
use lib.ListN.{length, set, length-append}
use Rattle.numbers.specs.Laid.{laid, Put}
use Rattle.numbers.proofs.Laying.{length_laid, laid_none, laid_more, laid_sets}
use Rattle.show.specs.Lays.{Lays, place_most}

-- ---- one stretch

pub lays_none : (out : List ℕ) (at : ℕ) → Lays out at [] at out
lays_none out at = record { place = λ h. omega arith; bytes = λ h f. sym (laid_none out at) }

pub lays_as : {out left s t : List ℕ} {at next : ℕ} → s ≡ t → Lays out at s next left → Lays out at t next left
lays_as {out} {left} {at = at} {next = next} e L = subst (λ (x : List ℕ). Lays out at x next left) e L

pub of_put : {out left s : List ℕ} {at next : ℕ} → Put out at s next left → Lays out at s next left
of_put P = record { place = λ h. P.place; bytes = λ h f. P.bytes }

-- what is beyond every place, and what does not fit
pub lays_far : (out left s : List ℕ) (at next : ℕ) → place_most < at + length s → Lays out at s next left
lays_far out left s at next h = record { place = λ g. absurd (omega arith); bytes = λ g f. absurd (omega arith) }

pub lays_beyond : (out left s : List ℕ) (at next : ℕ) → next ≡ at + length s → length out < next → Lays out at s next left
lays_beyond out left s at next e h = record { place = λ g. e; bytes = λ g f. absurd (omega arith) }

pub lays_byte : (out : List ℕ) (at b : ℕ) → at < length out → Lays out at (b ∷ []) (at + 1) (set out at b)
lays_byte out at b h = record { place = λ g. refl; bytes = λ g f. laid_sets (b ∷ []) out at f }

-- a digit, by what it is a digit of
pub lays_digit : {out left : List ℕ} {at next b c : ℕ} → b ≡ c → Lays out at (b ∷ []) next left → Lays out at (c ∷ []) next left
lays_digit e L = lays_as (ap {B = List ℕ} (λ x. x ∷ []) e) L

-- ---- one behind the other

pub lays_then : {out out₁ out₂ s t : List ℕ} {at p q : ℕ} → Lays out at s p out₁ → Lays out₁ p t q out₂ → Lays out at (s ++ t) q out₂
lays_then {out} {out₁} {out₂} {s} {t} {at} {p} {q} P Q = record { place = λ g. behind g; bytes = λ g f. both g f }
  where
    behind : at + length (s ++ t) ≤ place_most → q ≡ at + length (s ++ t)
    behind g =
        let n = length-append s t in
        let e : p ≡ at + length s = P.place (omega arith) in
        Q.place (omega arith) ∙ omega arith

    both : at + length (s ++ t) ≤ place_most → at + length (s ++ t) ≤ length out → out₂ ≡ laid out at (s ++ t)
    both g f =
        let n = length-append s t in
        let h : at + length s + length t ≤ length out = omega arith in
        let k : p ≡ at + length s = P.place (omega arith) in
        let e : out₁ ≡ laid out at s = P.bytes (omega arith) (omega arith) in
        let l : length out₁ ≡ length out = ap length e ∙ length_laid out at s (omega arith) in
        Q.bytes (omega arith) (omega arith) ∙ ap (λ (x : List ℕ). laid x p t) e ∙ ap (λ (i : ℕ). laid (laid out at s) i t) k
        ∙ laid_more out at s t h

-- ---- piece by piece

-- of the text `all`, what is `left` is not laid yet
pub record Going (all left out₀ : List ℕ) (at : ℕ) (out : List ℕ) (a : ℕ) : Type 0 where
  pub done : List ℕ
  pub split : all ≡ done ++ left
  pub laid : Lays out₀ at done a out

pub going_start : (all out : List ℕ) (at : ℕ) → Going all all out at out at
going_start all out at = record { done = []; split = refl; laid = lays_none out at }

module _ {all left out₀ : List ℕ} {at : ℕ} {out : List ℕ} {a : ℕ} (g : Going all left out₀ at out a) where
  module _ (x left' : List ℕ) (e : left ≡ x ++ left') where
    pub going_next : {out' : List ℕ} {a' : ℕ} → Lays out a x a' out' → Going all left' out₀ at out' a'
    going_next L = record {
      done = g.done ++ x;
      split = g.split ∙ ap {B = List ℕ} (λ l. g.done ++ l) e ∙ sym (append_assoc g.done x left');
      laid = lays_then g.laid L;
    }

  pub going_end : left ≡ [] → Lays out₀ at all a out
  going_end e = lays_as (sym (g.split ∙ ap {B = List ℕ} (λ l. g.done ++ l) e ∙ append-nil g.done)) g.laid
