-- Demand 3: selecting with the rewritten query lists every record that the query as written matches, and no other. Sections 'One round of rewriting' and 'Matching and selection'.
use mathlib.Core.Path.{◌≡◌, refl, ap, ◌∙◌}
use mathlib.Core.Logic.{◌↔◌}
use Prim.Native.Nat.{ℕ, ◌≤◌}
use mathlib.Core.List.{List, Memᴰ}
use mathlib.Core.Bool.{Bool}
use lib.ListN.{length}
use Rattle.rules.specs.Numbers.{rewriter_bytes, rewriter_depth, selection_bytes, selection_depth, got, on_read}
use Rattle.rules.specs.Bytes.{Bytes}
use Rattle.rules.specs.Query.{Query, depth}
use Rattle.rules.specs.Stored.{encode, Valid}
use Rattle.rules.specs.Reading.{read_for_rewriting, read_for_selection}
use Rattle.rules.specs.Rewriting.{weight, largest, Fair, Rewritten, rewritten, rewrite, result_of, count_of}
use Rattle.rules.specs.Lists.{Entry, read_list}
use Rattle.rules.specs.Matching.{chosen, IsChosen, RisingFrom}
use Rattle.rules.specs.Answers.{Reply, rewrite_reply, rewritten_reply, selected}
use Rattle.rules.proofs.Stored.Inverse.{read_encode}
use Rattle.rules.proofs.Stored.Sound.{read_sound}
use Rattle.rules.proofs.Choosing.Choices.{exact, rising, chosen_alike, selected_is}
use Rattle.rules.proofs.Rewriting.Bounds.{within_bytes, within_depth}
use Rattle.rules.proofs.Rewriting.Weights.{valid_rewrite, few_rounds}
use Rattle.rules.proofs.Rewriting.Truth.{matches_rewrite}

-- What is asked for of a stored query s that the rewriter reads as q, and a list l that is read as rs: s is rewritten in at most as many rounds as q weighs,
-- and what is written for it selects every record that q is true of, and no other, each once, rising.
pub record Demand (strict : Bool) (s l : List ℕ) (q : Query) (rs : List (List Entry)) : Type 0 where
  pub reply : Reply
  pub is_rewritten_lem : rewrite_reply strict s ≡ got reply
  pub few : reply.rounds ≤ weight q
  pub rows : List ℕ
  pub is_selected : selected reply.bytes l ≡ got rows
  pub these : (k : ℕ) → Memᴰ k rows ↔ IsChosen q rs k
  pub in_order : RisingFrom 0 rows

pub reply_bytes : (r : Rewritten) → (rewritten_reply r).bytes ≡ encode (result_of r)
reply_bytes (rewritten q n) = refl

pub reply_rounds : (r : Rewritten) → (rewritten_reply r).rounds ≡ count_of r
reply_rounds (rewritten q n) = refl

-- a stored query that the rewriter accepts
module _ (s : List ℕ) (B : Bytes s) (q : Query) (read : read_for_rewriting s ≡ got q) where
  pub was_short : length (encode q) ≤ rewriter_bytes
  was_short = let r = read_sound rewriter_bytes rewriter_depth s q B read in rw r.1.form r.0

  was_flat : depth q ≤ rewriter_depth
  was_flat = (read_sound rewriter_bytes rewriter_depth s q B read).1.deep

  was_valid : Valid q
  was_valid = (read_sound rewriter_bytes rewriter_depth s q B read).1.valid

  module _ (strict : Bool) where
    -- what it becomes is accepted by selection, as it was meant
    pub accepted : read_for_selection (encode (result_of (rewrite strict q))) ≡ got (result_of (rewrite strict q))
    accepted =
        read_encode selection_bytes selection_depth (result_of (rewrite strict q)) (valid_rewrite strict q was_valid)
        (within_depth strict q (weight q) was_flat) (within_bytes strict q (weight q) was_short)

    pub rounds_bounded : count_of (rewrite strict q) ≤ weight q
    rounds_bounded = few_rounds strict q was_valid

    -- and lists what the query as written is true of
    pub same_choice : Fair strict (largest q) → (l : List ℕ) (rs : List (List Entry)) → read_list l ≡ got rs
        → selected (encode (result_of (rewrite strict q))) l ≡ got (chosen q rs)
    same_choice h l rs e =
        selected_is (encode (result_of (rewrite strict q))) l (result_of (rewrite strict q)) rs accepted e
        ∙ ap got (chosen_alike (result_of (rewrite strict q)) q (λ es. matches_rewrite es strict q h) 0 rs)

    pub reply_is : rewrite_reply strict s ≡ got (rewritten_reply (rewrite strict q))
    unfolding rewrite_reply
    reply_is = ap (on_read (λ (p : Query). rewritten_reply (rewrite strict p))) read

    pub demand : Fair strict (largest q) → (l : List ℕ) (rs : List (List Entry)) → read_list l ≡ got rs → Demand strict s l q rs
    demand h l rs e = record {
      reply = rewritten_reply (rewrite strict q);
      is_rewritten_lem = reply_is;
      few = rw (reply_rounds (rewrite strict q)) rounds_bounded;
      rows = chosen q rs;
      is_selected = rw (reply_bytes (rewrite strict q)) (same_choice h l rs e);
      these = exact q rs;
      in_order = rising q rs;
    }
