-- No second answer meets the contract of `show`: no text is empty, so an answer of no bytes is a refusal. Section 'Proof obligations on answers'.
use mathlib.Core.Path.{◌≡◌, refl, sym, ap, subst, ◌∙◌}
use Prim.Native.Nat.{ℕ, ◌<◌}
use mathlib.Core.List.{List}
use native.Mathlib.Omega.{arith}
use lib.ListN.{length}
use Rattle.rules.specs.Numbers.{Read, got, refused, on_read, and_then, rewrite_room}
use Rattle.rules.specs.Bytes.{ascii}
use Rattle.rules.specs.Query.{Query}
use Rattle.rules.specs.Stored.{encode}
use Rattle.rules.specs.Reading.{read_for_rewriting}
use Rattle.rules.specs.Setup.{Setup}
use Rattle.rules.specs.Parsing.{parse}
use Rattle.rules.specs.Rewriting.{Rewritten, rewritten, original, rewrite}
use Rattle.rules.specs.Show.{show_rewritten, show_parsed, show_setup, first_line, second_line, or_refusal, show_text}
use Rattle.rules.specs.Answers.{Left}
use Rattle.rules.proofs.Answers.{Telling, call_telling, of_answer, refusal_told, same_answer}
use Rattle.rules.proofs.Stored.Refusals.{got_same}
use Rattle.show.specs.Answer.{text_reply, show_left, answer_of, left_of}
use Rattle.std.specs.Prelude.{Result, Ok, Err}
use Rattle.names.specs.Refusals.{numbered}
use Rattle.names.specs.declared.refusal.Refusal.{Refusal}
use Rattle.names.proofs.Refusals.{with_number, back}

rewritten_some : (q : Query) (r : Rewritten) → 0 < length (show_rewritten q r)
unfolding show_rewritten ascii
rewritten_some q (rewritten p n) = omega arith

parsed_some : (q : Query) → 0 < length (or_refusal (show_parsed q))
unfolding show_parsed ascii
parsed_some q = by (read_for_rewriting (encode q))
  where
    by : (r : Read Query) → 0 < length (or_refusal (on_read (λ (p : Query). show_rewritten p (rewrite original p)) r))
    by (got p) = rewritten_some p (rewrite original p)
    by (refused x) = omega arith

text_some : (s : List ℕ) → 0 < length (show_text s)
unfolding show_text ascii
text_some s = by (show_setup (first_line s))
  where
    then : (r : Read Query) → 0 < length (or_refusal (and_then r show_parsed))
    then (got q) = parsed_some q
    then (refused x) = omega arith

    by : (r : Read Setup) → 0 < length (or_refusal (and_then r (λ (st : Setup). and_then (parse st (second_line s)) show_parsed)))
    by (got st) = then (parse st (second_line s))
    by (refused x) = omega arith

told : (p : Result ℕ Refusal) → Telling (answer_of p) → of_answer (λ n w. Err (with_number n)) Ok (answer_of p) ≡ p
told (Err r) t = refusal_told (λ n w. Err (with_number n)) Ok (numbered r) 0 t ∙ ap Err (back r)
told (Ok n) t = refl

module _ (s out room : List ℕ) {out' room' out'' room'' : List ℕ} {p q : Result ℕ Refusal} where
  pub no_second_show : left_of p out' room' ≡ show_left s out room → left_of q out'' room'' ≡ show_left s out room → (p ≡ q) × (out' ≡ out'') × (room' ≡ room'')
  unfolding show_left
  no_second_show P Q =
      let e = P ∙ sym Q in
      let t = call_telling rewrite_room (got (text_reply (show_text s))) out room (λ a h. subst (λ b. 0 < length b.bytes) (got_same h) (text_some s)) in (
        same_answer answer_of (of_answer (λ n w. Err (with_number n)) Ok) told p q (ap (λ (x : Left). x.answer) e) (subst Telling (sym (ap (λ (x : Left). x.answer) P)) t),
        ap (λ (x : Left). x.output) e,
        ap (λ (x : Left). x.room) e,
      )
