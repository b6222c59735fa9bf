-- From the answers of the crates below to the five numbers of an exported call. Assumes nothing.
use mathlib.Core.Path.{◌≡◌, sym, ap, subst, ◌∙◌}
use Prim.Native.Nat.{ℕ, ◌*◌, ◌≤◌}
use mathlib.Core.Bool.{Bool}
use mathlib.Core.List.{List}
use Rattle.rules.specs.Numbers.{text_most, list_most, rewriter_bytes, selection_bytes}
use Rattle.rules.specs.Bytes.{Bytes}
use Rattle.rules.specs.Answers.{Answer, Left, parse_left, rewrite_left, select_left}
use Rattle.rules.proofs.Rewriting.Spans.{rewrite_small}
use Rattle.parser.specs.Parsed.{answer_of, left_of, Parses}
use Rattle.std.specs.Prelude.{Result, Ok, Err}
use Rattle.names.specs.Refusals.{numbered}
use Rattle.names.specs.declared.refusal.Refusal.{Refusal}
use Rattle.names.specs.declared.refusal.Fault.{Fault}
use Rattle.rewriter.specs.Rounds.{left as rewritten_left, Rewrites}
use Rattle.rewriter.specs.declared.rounds.Rounds.{Rounds}
use Rattle.selection.specs.Select.{told, SelectsBytes}
use Rattle.gorbihesh.specs.Edge.{left, Told}

told_left : {a b c d e refusal len count rounds place : ℕ} → Told a b c d e refusal len count rounds place → (out room : List ℕ)
    → left refusal len count rounds place out room ≡ left a b c d e out room
told_left (p, q, r, s, t) out room = rw (p, q, r, s, t)

-- ---- parsing

module _ {o a : ℕ} {f es text out room out' room' : List ℕ} {p : Result ℕ Fault} (P : Parses o a f es text out room out' room' p) where
  pub parse_short : {n : ℕ} → p ≡ Ok n → n ≤ selection_bytes
  parse_short e = subst (λ (x : Result ℕ Fault). (answer_of x).written ≤ selection_bytes) e P.short

  pub parse_near : {e : Fault} → p ≡ Err e → e.place ≤ text_most
  parse_near e = subst (λ (x : Result ℕ Fault). (answer_of x).place ≤ text_most) e P.near

  pub parse_left_lem : {n refusal len count rounds place : ℕ} → p ≡ Ok n → Told 0 n 0 0 0 refusal len count rounds place → left refusal len count rounds place out' room' ≡ parse_left o a f es text out room
  parse_left_lem e t = told_left t out' room' ∙ ap (λ (x : Result ℕ Fault). left_of x out' room') (sym e) ∙ P.is

  pub parse_refused : {x : Fault} {n refusal len count rounds place : ℕ} → p ≡ Err x → n ≡ numbered x.refusal → Told n 0 0 0 x.place refusal len count rounds place
      → left refusal len count rounds place out' room' ≡ parse_left o a f es text out room
  parse_refused {x} e d t = told_left t out' room' ∙ ap (λ (k : ℕ). left k 0 0 0 x.place out' room') d ∙ ap (λ (x : Result ℕ Fault). left_of x out' room') (sym e) ∙ P.is

-- ---- rewriting

-- of all numbers that the definition leaves, a refusal's too
module _ (strict : Bool) (s out room : List ℕ) (B : Bytes s) {out' room' : List ℕ} {a b c : ℕ} (e : left a b 0 c 0 out' room' ≡ rewrite_left strict s out room) where
  pub rewrite_short : b ≤ selection_bytes
  rewrite_short = rw (ap (λ (x : Left). x.answer.written) e) (rewrite_small strict s B out room).0

  pub rewrite_few : c ≤ rewriter_bytes
  rewrite_few = rw (ap (λ (x : Left). x.answer.rounds) e) (rewrite_small strict s B out room).1

module _ {strict : Bool} {s out room out' room' : List ℕ} {r : Result Rounds Refusal} (R : Rewrites strict s out room r out' room') where
  rewritten_is : {x : Result Rounds Refusal} → r ≡ x → rewritten_left x out' room' ≡ rewrite_left strict s out room
  rewritten_is e = ap (λ (x : Result Rounds Refusal). rewritten_left x out' room') (sym e) ∙ R.is

  pub rewritten_short : Bytes s → {a : Rounds} → r ≡ Ok a → a.len ≤ selection_bytes
  rewritten_short B e = rewrite_short strict s out room B (rewritten_is e)

  pub rewritten_few : Bytes s → {a : Rounds} → r ≡ Ok a → a.rounds ≤ rewriter_bytes
  rewritten_few B e = rewrite_few strict s out room B (rewritten_is e)

  pub rewrite_left_lem : {a : Rounds} {refusal len count rounds place : ℕ} → r ≡ Ok a → Told 0 a.len 0 a.rounds 0 refusal len count rounds place
      → left refusal len count rounds place out' room' ≡ rewrite_left strict s out room
  rewrite_left_lem e t = told_left t out' room' ∙ rewritten_is e

  pub rewrite_refused : {x : Refusal} {n refusal len count rounds place : ℕ} → r ≡ Err x → n ≡ numbered x → Told n 0 0 0 0 refusal len count rounds place
      → left refusal len count rounds place out' room' ≡ rewrite_left strict s out room
  rewrite_refused e d t = told_left t out' room' ∙ ap (λ (k : ℕ). left k 0 0 0 0 out' room') d ∙ rewritten_is e

-- ---- selection

module _ {s l rows room rows' room' : List ℕ} {r : Result ℕ Refusal} (S : SelectsBytes s l rows room rows' room' r) where
  pub select_few : {n : ℕ} → r ≡ Ok n → n ≤ list_most
  select_few e = subst (λ (x : Result ℕ Refusal). (told x).count ≤ list_most) e S.few

  left_of_lem : {a : Answer} → a ≡ told r → record { answer = a; output = rows'; room = room' } ≡ select_left s l rows room
  left_of_lem e = rw (e ∙ S.answer, S.output, S.cleared)

  pub select_left_lem : {n refusal len count rounds place : ℕ} → r ≡ Ok n → Told 0 (4 * n) n 0 0 refusal len count rounds place
      → left refusal len count rounds place rows' room' ≡ select_left s l rows room
  select_left_lem e t = told_left t rows' room' ∙ left_of_lem (ap told (sym e))

  pub select_refused : {c : Refusal} {n refusal len count rounds place : ℕ} → r ≡ Err c → n ≡ numbered c → Told n 0 0 0 0 refusal len count rounds place
      → left refusal len count rounds place rows' room' ≡ select_left s l rows room
  select_refused e k t = told_left t rows' room' ∙ ap (λ (m : ℕ). left m 0 0 0 0 rows' room') k ∙ left_of_lem (ap told (sym e))
