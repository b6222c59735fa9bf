-- Words as the code goes through them: what classes tell of three bytes, where a token begins, and which word begins there.
use Rattle.std.specs.Prelude.{◌≡◌, ◌⊎◌, ℕ, suc, ◌/◌, ◌%◌, ◌≤◌, ◌<◌, List, Bool, true, false, not, ◌&&◌, cond, length, leb, eqb}
use Rattle.rules.specs.Bytes.{some}
use Rattle.rules.specs.Words.{joined, is_alphanumeric}
use Rattle.rules.specs.InWords.{is_inner, value_at, is_within, word_at, token_start, pieces_from}

-- by the classes of three bytes, the second joins the others
unfoldable pub joins_by : ℕ → ℕ → ℕ → Bool
joins_by b m d = cond (leb 64 b) (leb 64 d && eqb (m / 4 % 2) 1) (leb 32 b && (leb 32 d && (not (leb 64 d) && eqb (m / 8 % 2) 1)))

-- from a place on, bytes that hold together go up to r: to the end, or to one that does not hold
pub record Held (s : List ℕ) (from end r : ℕ) : Type 0 where
  -- these leave no other answer
  pub low : from ≤ r
  pub high : r ≤ end
  pub each : (k : ℕ) → from ≤ k → k < r → is_inner (value_at s (suc (suc k))) ≡ true
  pub stop : r < end → is_inner (value_at s (suc (suc r))) ≡ false

-- a token begins at a place: it stands in a word, or a word that has a letter or a digit begins there
abbrev pub Begins : List ℕ → ℕ → Type 0
Begins s at =
    (is_within s at ≡ true)
    ⊎ ((joined s at ≡ false) × (at < length s) × (some is_alphanumeric (word_at s at) ≡ true) × (is_inner (value_at s (suc (suc at))) ≡ true))

-- the first token from a place on begins at r, and the tokens from there on are the same; r is the end, where there is none
pub record Starts (s : List ℕ) (at r : ℕ) : Type 0 where
  -- this leaves no other answer
  pub place : r ≡ token_start s at
  pub low : at ≤ r
  pub high : r ≤ length s
  pub same : pieces_from s at ≡ pieces_from s r
  pub begins : r < length s → Begins s r
