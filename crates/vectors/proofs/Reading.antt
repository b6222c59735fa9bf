-- Laws of reading a line: one more digit of a decimal; and what is kept while bytes in hex are decoded.
use mathlib.Core.Path.{◌≡◌}
use mathlib.Core.List.{List}
use Prim.Native.Nat.{ℕ, ◌+◌, ◌*◌, ◌%◌, ◌≤◌, ◌<◌}
use native.Mathlib.Numerals.{add-one}
use lib.ListN.{length, get_or, drop}
use lib.Seq.{drop-cons, drop-length}
use Rattle.vectors.specs.Line.{decimal_of, pair_at}

pub decimal_turn : (s : List ℕ) (n i : ℕ) → i < length s → (d : ℕ) → d ≡ get_or s i 0 % 16 → decimal_of (n % 1000 * 10 + d) (drop (i + 1) s) ≡ decimal_of n (drop i s)
unfolding decimal_of
decimal_turn s n i h d e = rw (e, add-one, drop-cons s i 0)

pub decimal_end : (s : List ℕ) (n i : ℕ) → i ≡ length s → decimal_of n (drop i s) ≡ n
unfolding decimal_of
decimal_end s n i h = rw (h, drop-length)

-- n bytes are decoded
pub record Decoding (hex before : List ℕ) (n : ℕ) (after : List ℕ) : Type 0 where
  pub room : n ≤ length before
  pub digits : n + n ≤ length hex
  pub kept : length after ≡ length before
  pub here : (k : ℕ) → k < n → get_or after k 0 ≡ pair_at hex k
  pub behind : (k : ℕ) → n ≤ k → get_or after k 0 ≡ get_or before k 0
