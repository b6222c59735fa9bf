-- How large the numbers of a rewriting's answer are, for a caller that narrows them. Section 'One round of rewriting'.
use mathlib.Core.Path.{◌≡◌, refl, subst}
use mathlib.Core.Bool.{Bool, true, false}
use Prim.Native.Nat.{ℕ, ◌≤◌}
use mathlib.Core.List.{List}
use native.Mathlib.Omega.{arith}
use lib.ListN.{length}
use lib.Dec.{leb}
use Rattle.rules.specs.Numbers.{Read, got, refused, need, on_read, and_then, long_answer, short_room, rewriter_bytes, selection_bytes, rewrite_room}
use Rattle.rules.specs.Bytes.{Bytes}
use Rattle.rules.specs.Query.{Query}
use Rattle.rules.specs.Reading.{read_for_rewriting}
use Rattle.rules.specs.Rewriting.{rewrite, weight}
use Rattle.rules.specs.Answers.{Reply, fitting, leave, call, rewritten_reply, rewrite_reply, rewrite_left}
use Rattle.rules.proofs.Stored.Refusals.{no_got}
use Rattle.rules.proofs.Rewriting.Bounds.{within_bytes}
use Rattle.rules.proofs.Rewriting.Measures.{weight_length}
use Rattle.rules.proofs.Choosing.Demands.{was_short, rounds_bounded, reply_bytes, reply_rounds}

-- a reply of at most m bytes, made in at most k rounds
abbrev Small : ℕ → ℕ → Reply → Type 0
Small m k a = (length a.bytes ≤ m) × (a.rounds ≤ k)

call_small : (n m k : ℕ) (r : Read Reply) (out room : List ℕ) → ((a : Reply) → r ≡ got a → Small m k a)
    → ((call n r out room).answer.written ≤ m) × ((call n r out room).answer.rounds ≤ k)
unfolding call
call_small n m k r out room small = by (leb n (length room)) r small
  where
    fitted : (b : Bool) (a : Reply) → Small m k a
        → ((leave (need b long_answer (got a)) out room).answer.written ≤ m) × ((leave (need b long_answer (got a)) out room).answer.rounds ≤ k)
    fitted true a s = s
    fitted false a s = (omega arith, omega arith)

    by : (b : Bool) (r : Read Reply) → ((a : Reply) → r ≡ got a → Small m k a)
        → ((leave (need b short_room (and_then r (fitting (length out)))) out room).answer.written ≤ m)
        × ((leave (need b short_room (and_then r (fitting (length out)))) out room).answer.rounds ≤ k)
    by false r h = (omega arith, omega arith)
    by true (refused x) h = (omega arith, omega arith)
    by true (got a) h = fitted (leb (length a.bytes) (length out)) a (h a refl)

module _ (strict : Bool) (s : List ℕ) (B : Bytes s) where
  reply_small : (a : Reply) → rewrite_reply strict s ≡ got a → Small selection_bytes rewriter_bytes a
  unfolding rewrite_reply
  reply_small a e = by (read_for_rewriting s) refl e
    where
      made : (q : Query) → read_for_rewriting s ≡ got q → Small selection_bytes rewriter_bytes (rewritten_reply (rewrite strict q))
      made q read = (
        rw (reply_bytes (rewrite strict q)) (within_bytes strict q (weight q) (was_short s B q read)),
        rw (reply_rounds (rewrite strict q)) (omega (arith, rounds_bounded s B q read strict, weight_length q, was_short s B q read)),
      )

      by : (o : Read Query) → read_for_rewriting s ≡ o → on_read (λ (q : Query). rewritten_reply (rewrite strict q)) o ≡ got a → Small selection_bytes rewriter_bytes a
      by (refused x) read e = no_got e
      by (got q) read e = let same : rewritten_reply (rewrite strict q) ≡ a = cc in subst (Small selection_bytes rewriter_bytes) same (made q read)

  -- the answer of a rewriting has at most 65,535 bytes, made in at most 32,768 rounds
  pub rewrite_small : (out room : List ℕ) → ((rewrite_left strict s out room).answer.written ≤ selection_bytes) × ((rewrite_left strict s out room).answer.rounds ≤ rewriter_bytes)
  unfolding rewrite_left
  rewrite_small out room = call_small rewrite_room selection_bytes rewriter_bytes (rewrite_reply strict s) out room reply_small
