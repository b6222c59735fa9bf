-- A note at a token leaves the tokens and the other notes as they were, and what is noted as a word a word. Assumes nothing.
use mathlib.Core.Path.{◌≡◌, refl, sym, ap, ◌∙◌}
use Prim.Native.Nat.{ℕ, zero, suc, ◌+◌, ◌*◌, ◌/◌, ◌%◌, ◌≤◌, ◌<◌}
use mathlib.Core.List.{List}
use native.Mathlib.Omega.{arith}
use native.Mathlib.Decide.{ℕ_discrete}
use lib.ListN.{length, get_or, set, length-set}
use lib.Seq.{get_or-set_same, get_or-set_other, take-set-le}
use Rattle.rules.specs.Numbers.{text_most}
use Rattle.rules.specs.Lexing.{Token}
use Rattle.rules.specs.Parsing.{token_of}
use Rattle.analysis.specs.Tokens.{OneWord}
use Rattle.row.specs.Row.{room_least, entry_at, place_in, size_in, token_at, Below, Laid, name_from, word_note, Worded, Renoted}
use Rattle.row.proofs.Rows.{token_is, token_like, tokens_same}

-- the byte that holds a note holds a part of a place too
rest_of : (x a : ℕ) → (x % 32 + a * 32) % 32 ≡ x % 32
rest_of x a = omega arith

note_of_lem : (x a : ℕ) → (x % 32 + a * 32) / 32 ≡ a
note_of_lem x a = omega arith

module _ (room : List ℕ) (i a : ℕ) (few : i < text_most) (long : room_least ≤ length room) where
  abbrev byte : ℕ
  byte = get_or room (entry_at i + 1) 0 % 32 + a * 32

  abbrev after : List ℕ
  after = set room (entry_at i + 1) byte

  this_byte : get_or after (entry_at i + 1) 0 ≡ byte
  this_byte = get_or-set_same room (entry_at i + 1) byte 0 (omega arith)

  other_byte : (j : ℕ) → (j ≡ entry_at i + 1 → ⊥) → get_or after j 0 ≡ get_or room j 0
  other_byte j n = get_or-set_other room (entry_at i + 1) j byte 0 n

  rest_kept : (j : ℕ) → get_or after j 0 % 32 ≡ get_or room j 0 % 32
  rest_kept j = pass (ℕ_discrete j (entry_at i + 1))
    where
      pass : Dec (j ≡ entry_at i + 1) → get_or after j 0 % 32 ≡ get_or room j 0 % 32
      pass (yes e) = rw e (ap (λ (x : ℕ). x % 32) this_byte ∙ rest_of (get_or room (entry_at i + 1) 0) a)
      pass (no n) = ap (λ (x : ℕ). x % 32) (other_byte j n)

  place_kept : (k : ℕ) → place_in after k ≡ place_in room k
  place_kept k = rw (rest_kept (entry_at k + 1), other_byte (entry_at k + 2) (λ e. omega arith))

  size_kept : (k : ℕ) → size_in after k ≡ size_in room k
  size_kept k = rw (other_byte (entry_at k + 2) (λ e. omega arith), other_byte (entry_at k + 3) (λ e. omega arith))

  token_kept : (k : ℕ) → Below text_most room k → token_at after k ≡ token_at room k
  token_kept k b =
      token_like after room k text_most (other_byte (entry_at k) (λ e. omega arith)) (place_kept k) (size_kept k)
      (take-set-le text_most room (entry_at i + 1) byte (omega arith)) b

  pub renoted : Renoted i a room (set room (entry_at i + 1) (get_or room (entry_at i + 1) 0 % 32 + a * 32))
  renoted = record {
    is = refl;
    size = length-set room (entry_at i + 1) byte;
    noted = ap (λ (x : ℕ). x / 32) this_byte ∙ note_of_lem (get_or room (entry_at i + 1) 0) a;
    others = λ k n. ap (λ (x : ℕ). x / 32) (other_byte (entry_at k + 1) (λ e. n (omega arith)));
    tokens = λ n l. tokens_same after room n (λ k h. token_kept k (l k h));
    laid = λ n l k h. rw (place_kept k, size_kept k) (l k h);
  }

-- ---- for who puts notes into a row

module _ {i a n : ℕ} {before after : List ℕ} (R : Renoted i a before after) (laid : Laid before n) where
  pub token_noted : (k : ℕ) → k < n → token_at after k ≡ token_at before k
  token_noted k h = sym (token_is after n k _ h) ∙ ap (λ (ts : List Token). token_of ts k) (R.tokens n laid) ∙ token_is before n k _ h

  pub name_noted : (field : List ℕ) (k : ℕ) → k ≤ n → name_from after field k ≡ name_from before field k
  name_noted field zero h = refl
  name_noted field (suc k) h = ap (λ (t : Token). t.text) (token_noted k (omega arith))

  pub worded_noted : (a ≡ word_note → ⊥) → Worded before n → Worded after n
  worded_noted other w k h e = pass (ℕ_discrete k i)
    where
      pass : Dec (k ≡ i) → OneWord (token_at after k).text
      pass (yes z) = absurd (other (sym R.noted ∙ rw z at e))
      pass (no z) = rw (token_noted k h) (w k h (sym (R.others k z) ∙ e))
