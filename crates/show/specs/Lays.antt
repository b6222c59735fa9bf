-- What every writer of the show text says: the bytes laid where they fit, and in any case how far they reach.
use Rattle.std.specs.Prelude.{◌≡◌, ℕ, ◌+◌, ◌≤◌, ◌/◌, ◌%◌, List, [], ◌∷◌, ◌++◌, cond, length}
use Rattle.rules.specs.Bytes.{ascii}
use Rattle.rules.specs.Show.{digit, hex, is_plain}
use Rattle.numbers.specs.Laid.{laid}

-- no place is beyond it: sums of places do not overflow, and no text is as long
abbrev pub place_most : ℕ
place_most = 0x4000_0000_0000_0000

-- s belongs at a place: it is laid where the output is long enough, and counted in any case
pub record Lays (out : List ℕ) (at : ℕ) (s : List ℕ) (next : ℕ) (left : List ℕ) : Type 0 where
  pub place : at + length s ≤ place_most → next ≡ at + length s
  pub bytes : at + length s ≤ place_most → at + length s ≤ length out → left ≡ laid out at s

-- a byte in hex, and as it is shown in a text
abbrev pub hex_byte : ℕ → List ℕ
hex_byte c = digit (c / 16) ∷ digit (c % 16) ∷ []

abbrev pub shown_byte : ℕ → List ℕ
shown_byte c = cond (is_plain c) (c ∷ []) (ascii "\\" ++ hex (c ∷ []))
