-- Answers of calls whose reply is never empty: an answer of no bytes is a refusal, so that its numbers tell what was answered.
use mathlib.Core.Path.{◌≡◌, refl, sym, ap, subst, ◌∙◌}
use Prim.Native.Nat.{ℕ, ◌<◌}
use mathlib.Core.List.{List}
use mathlib.Core.Bool.{Bool, true, false, cond}
use native.Mathlib.Omega.{arith}
use borrow.Author.Tests.{ne_eqb}
use lib.ListN.{length}
use lib.Dec.{leb, eqb}
use Rattle.rules.specs.Numbers.{Refusal, place_of, Read, got, refused, need, and_then, long_answer, short_room}
use Rattle.rules.specs.Answers.{Answer, Reply, fitting, leave_with, met, call, call_at}
use Rattle.rules.proofs.Stored.Refusals.{number_some}

abbrev pub Telling : Answer → Type 0
Telling a = a.refusal ≡ 0 → 0 < a.written

-- a reply that holds some bytes
abbrev pub Some : Read Reply → Type 0
Some r = (a : Reply) → r ≡ got a → 0 < length a.bytes

telling : (w : Refusal → ℕ) (n : ℕ) (r : Read Reply) (out room : List ℕ) → Some r → Telling (leave_with w (met n r out room) out room).answer
telling w n r out room = by (leb n (length room)) r
  where
    fitted : (b : Bool) (a : Reply) → 0 < length a.bytes → Telling (leave_with w (need b long_answer (got a)) out room).answer
    fitted true a h e = h
    fitted false a h e = absurd (number_some long_answer e)

    by : (b : Bool) (r : Read Reply) → Some r → Telling (leave_with w (need b short_room (and_then r (fitting (length out)))) out room).answer
    by false r h e = absurd (number_some short_room e)
    by true (refused x) h e = absurd (number_some x e)
    by true (got a) h e = fitted (leb (length a.bytes) (length out)) a (h a refl) e

pub call_telling : (n : ℕ) (r : Read Reply) (out room : List ℕ) → Some r → Telling (call n r out room).answer
unfolding call
call_telling = telling (λ x. 0)

pub call_at_telling : (n : ℕ) (r : Read Reply) (out room : List ℕ) → Some r → Telling (call_at n r out room).answer
unfolding call_at
call_at_telling = telling place_of

-- what a type P answers, by the numbers alone: its refusal and the place of that, or its bytes
abbrev pub of_answer : {P : Type 0} → (ℕ → ℕ → P) → (ℕ → P) → Answer → P
of_answer refuse write a = cond (eqb a.refusal 0) (write a.written) (refuse a.refusal a.place)

pub refusal_told : {P : Type 0} (refuse : ℕ → ℕ → P) (write : ℕ → P) (n p : ℕ) → (n ≡ 0 → 0 < 0) → cond (eqb n 0) (write 0) (refuse n p) ≡ refuse n p
refusal_told refuse write n p t = rw (ne_eqb n 0 (λ e. absurd (let z = t e in omega arith)))

-- two that answer the same are one, where the numbers tell
pub same_answer : {P : Type 0} (answer : P → Answer) (of : Answer → P) → ((p : P) → Telling (answer p) → of (answer p) ≡ p) → (p q : P) → answer p ≡ answer q → Telling (answer p) → p ≡ q
same_answer answer of back p q e t = sym (back p t) ∙ ap of e ∙ back q (subst Telling e t)
