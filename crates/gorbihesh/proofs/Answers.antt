-- No second answer: two answers that meet a public contract for the same input are one, and so is every byte that was lent. Section 'Proof obligations on answers'.
-- A law for each form that a contract has; docs/ANSWERS.md says which function has which.
use mathlib.Core.Path.{◌≡◌, sym, ap, ◌∙◌}
use Prim.Native.Nat.{ℕ}
use mathlib.Core.List.{List}
use Rattle.rules.specs.Answers.{Left}
use Rattle.numbers.specs.Laid.{Put}
use mathlib.Core.Bool.{Bool}
use Rattle.std.specs.Prelude.{Result}
use Rattle.names.specs.declared.refusal.Refusal.{Refusal}
use Rattle.names.specs.declared.refusal.Fault.{Fault}
use Rattle.parser.specs.Parsed.{Parses}
use Rattle.rewriter.specs.Rounds.{Rewrites}
use Rattle.rewriter.specs.declared.rounds.Rounds.{Rounds}
use Rattle.selection.specs.Select.{Selects, SelectsBytes}
use Rattle.gorbihesh.specs.Edge.{left}

-- ---- the law: what two answers equal is the same for both

pub no_second : {A : Type 0} {x y z : A} → x ≡ z → y ≡ z → x ≡ y
no_second p q = p ∙ sym q

-- the same where the equation is about whatever the input is the stored form of
pub no_second_of : {Q A : Type 0} {P : Q → Type 0} {f : Q → A} {x y : A} (q : Q) → P q → ((p : Q) → P p → x ≡ f p) → ((p : Q) → P p → y ≡ f p) → x ≡ y
no_second_of q i p r = no_second (p q i) (r q i)

-- ---- a writer

pub no_second_put : {out s left left' : List ℕ} {at next next' : ℕ} → Put out at s next left → Put out at s next' left' → (next ≡ next') × (left ≡ left')
no_second_put p q = (no_second p.place q.place, no_second p.bytes q.bytes)

-- ---- an exported call: five numbers, the output, the room

pub no_second_call : {given : Left} {a b c d e a' b' c' d' e' : ℕ} {out room out' room' : List ℕ} → left a b c d e out room ≡ given
    → left a' b' c' d' e' out' room' ≡ given → (a ≡ a') × (b ≡ b') × (c ≡ c') × (d ≡ d') × (e ≡ e') × (out ≡ out') × (room ≡ room')
no_second_call p q =
    let e = no_second p q in (
      ap (λ (x : Left). x.answer.refusal) e,
      ap (λ (x : Left). x.answer.written) e,
      ap (λ (x : Left). x.answer.count) e,
      ap (λ (x : Left). x.answer.rounds) e,
      ap (λ (x : Left). x.answer.place) e,
      ap (λ (x : Left). x.output) e,
      ap (λ (x : Left). x.room) e,
    )

-- ---- rewriting: the answer is what the call makes of its reply, and its numbers tell what was left

pub no_second_rewrite : {strict : Bool} {s out room out' room' out'' room'' : List ℕ} {r r' : Result Rounds Refusal} → Rewrites strict s out room r out' room'
    → Rewrites strict s out room r' out'' room'' → (r ≡ r') × (out' ≡ out'') × (room' ≡ room'')
no_second_rewrite p q = let e = no_second p.is q.is in (no_second p.answer q.answer, ap (λ (x : Left). x.output) e, ap (λ (x : Left). x.room) e)

-- ---- selection

module _ {s l rows rows' rows'' : List ℕ} {r r' : Result ℕ Refusal} where
  pub no_second_select : Selects s l rows rows' r → Selects s l rows rows'' r' → (r ≡ r') × (rows' ≡ rows'')
  no_second_select p q = (no_second p.answer q.answer, no_second p.rows q.rows)

  pub no_second_select_bytes : {room room' room'' : List ℕ} → SelectsBytes s l rows room rows' room' r → SelectsBytes s l rows room rows'' room'' r'
      → (r ≡ r') × (rows' ≡ rows'') × (room' ≡ room'')
  no_second_select_bytes p q = (no_second p.is q.is, no_second p.output q.output, no_second p.cleared q.cleared)

-- ---- parsing: the answer is what the call makes of its reply, and its numbers tell what was left

module _ {o a : ℕ} {f es text out room out' room' out'' room'' : List ℕ} {p p' : Result ℕ Fault} where
  pub no_second_parse : Parses o a f es text out room out' room' p → Parses o a f es text out room out'' room'' p' → (p ≡ p') × (out' ≡ out'') × (room' ≡ room'')
  no_second_parse P Q = let e = no_second P.is Q.is in (no_second P.answer Q.answer, ap (λ (x : Left). x.output) e, ap (λ (x : Left). x.room) e)
