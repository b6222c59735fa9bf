-- Lines of a list: where a part of one ends, decimals, bytes in hex.
use Rattle.std.specs.Prelude.{◌≡◌, List, [], ◌∷◌, ℕ, ◌+◌, ◌*◌, ◌/◌, ◌%◌, ◌≤◌, ◌<◌, min, length, get_or}

-- the part of s that begins at `at` ends at r: at the first b from there on, or at the end of all
pub record EndsAt (s : List ℕ) (at b r : ℕ) : Type 0 where
  pub from : at ≤ r
  pub within : r ≤ length s
  pub before : (k : ℕ) → k < r → at ≤ k → get_or s k 0 ≡ b → ⊥
  pub found : r < length s → get_or s r 0 ≡ b

-- the number that decimal digits make behind n, of which the last four count
unfoldable pub decimal_of : ℕ → List ℕ → ℕ
decimal_of n [] = n
decimal_of n (c ∷ s) = decimal_of (n % 1000 * 10 + c % 16) s

-- a digit 0 to 9 or a to f
abbrev pub digit_of : ℕ → ℕ
digit_of c = (c % 16 + c / 64 * 9) % 16

-- the byte that the i-th pair of digits makes
unfoldable pub pair_at : List ℕ → ℕ → ℕ
pair_at s i = digit_of (get_or s (i + i) 0) * 16 + digit_of (get_or s (i + i + 1) 0)

-- the first r bytes are those of the digits, as many as there are or as there is room for; what is behind them stays
pub record Decoded (hex before : List ℕ) (r : ℕ) (after : List ℕ) : Type 0 where
  pub count : r ≡ min (length hex / 2) (length before)
  pub kept : length after ≡ length before
  pub here : (k : ℕ) → k < r → get_or after k 0 ≡ pair_at hex k
  pub behind : (k : ℕ) → r ≤ k → get_or after k 0 ≡ get_or before k 0

-- the digits are those of the bytes, no more and no fewer
pub record IsHex (bytes hex : List ℕ) : Type 0 where
  pub size : length hex ≡ length bytes + length bytes
  pub each : (k : ℕ) → k < length bytes → get_or bytes k 0 ≡ pair_at hex k
