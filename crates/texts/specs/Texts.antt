-- What reading a term or a quote leaves in the room, and what it answers.
use Rattle.std.specs.Prelude.{◌≡◌, Result, Ok, Err, ℕ, Bool, ◌+◌, ◌≤◌, ◌<◌, List, [], ◌∷◌, ◌++◌, true, false, get_or, length, take, drop}
use Rattle.rules.specs.Numbers.{faulty, nothing_escaped, Read, got, refused, on_read}
use Rattle.rules.specs.Numbers as rules
use Rattle.rules.specs.Bytes.{all}
use Rattle.rules.specs.Analysis.{is_letter}
use Rattle.rules.specs.Lexing.{Piece, piece, before, is_backslash, start_in}
use Rattle.texts.specs.declared.Ended.{Ended}
use Rattle.names.specs.Refusals.{coded_fault}
use Rattle.names.specs.declared.refusal.Fault.{Fault}

-- what was read before goes in front
abbrev pub on_front : List ℕ → Piece → Piece
on_front u (piece t s) = piece (u ++ t) s

-- how what is read from a text of n bytes goes on behind a byte that does not stop it
pub record Unescapes (n : ℕ) (read : List ℕ → Read Piece) (stop : ℕ → Bool) : Type 0 where
  pub plain : (c : ℕ) (s : List ℕ) → stop c ≡ false → is_backslash c ≡ false → read (c ∷ s) ≡ before c (read s)
  pub escaped : (c d : ℕ) (s : List ℕ) → stop c ≡ false → is_backslash c ≡ true → read (c ∷ d ∷ s) ≡ before d (read s)
  pub dangling : (c : ℕ) → stop c ≡ false → is_backslash c ≡ true → read (c ∷ []) ≡ refused (faulty nothing_escaped (start_in n (c ∷ [])))

-- a test of the bytes of a text answers what `stop` does
abbrev pub Tells : (ℕ → Bool → Type 0) → List ℕ → (ℕ → Bool) → Type 0
Tells answers text stop = (i : ℕ) (b : Bool) → i < length text → answers (get_or text i 0) b → b ≡ stop (get_or text i 0)

-- the answer for what is read from `from` on, up to a byte that stops it or to the end: a refusal and its place, or how far it was read, and what was laid in `out`
abbrev pub Until : Result Ended Fault → (List ℕ → Read Piece) → (ℕ → Bool) → List ℕ → ℕ → List ℕ → Type 0
Until (Err e) read stop text from out =
    (read (drop from text) ≡ refused (faulty nothing_escaped e.place)) × (e.refusal ≡ coded_fault nothing_escaped) × (e.place < length text)
Until (Ok t) read stop text from out =
    (read (drop from text) ≡ on_read (on_front (take t.len out)) (read (drop t.next text))) × (t.next ≤ length text) × (from + t.len ≤ t.next)
    × (t.next < length text → stop (get_or text t.next 0) ≡ true) × (t.word ≡ false)

-- the text is letters only, and ended where they end
pub record Spelled (at next len : ℕ) (after : List ℕ) : Type 0 where
  pub letters : all is_letter (take len (drop at after)) ≡ true
  pub ended : at + len ≡ next

-- the answer for what is read: a refusal and its place, or the text, which stands in the room from `at` on, where it ended, and if it is a word
abbrev pub Reads : Result Ended Fault → Read Piece → List ℕ → ℕ → List ℕ → Type 0
Reads (Err e) o text at after = (f : rules.Fault) × (o ≡ refused (faulty f e.place)) × (e.refusal ≡ coded_fault f) × (e.place < length text)
Reads (Ok t) o text at after =
    (o ≡ got (piece (take t.len (drop at after)) (drop t.next text))) × (t.next ≤ length text) × (at + t.len ≤ t.next)
    × (t.word ≡ true → Spelled at t.next t.len after)
