-- Tokens one at a time: which bytes a token has, where the first from a place on starts, how long it is, how it is spelled.
use Rattle.std.specs.Prelude.{◌≡◌, ℕ, zero, suc, ◌+◌, ◌-◌, ◌≤◌, ◌<◌, min, List, [], ◌∷◌, map, Bool, true, false, not, ◌||◌, cond, length, take, drop, eqb}
use Rattle.rules.specs.Numbers.{chunk_most, whitespace_analyzer, simple_analyzer}
use Rattle.rules.specs.Bytes.{all}
use Rattle.rules.specs.Query.{Word, word}
use Rattle.rules.specs.Words.{reach}
use Rattle.rules.specs.Analysis.{front, is_gap, is_letter, lower, lowercase, is_words, token_texts, placed_from, is_left_out, kept_of}
use Rattle.rules.specs.InWords.{token_start, pieces_from}

-- by the analyzer of runs: whitespace, simple, and every other number, which counts as keyword
abbrev pub by_analyzer : {A : Type 0} → ℕ → A → A → A → A
by_analyzer a w m k = cond (eqb a whitespace_analyzer) w (cond (eqb a simple_analyzer) m k)

-- the bytes that a token has
unfoldable pub inside : ℕ → ℕ → Bool
inside a c = by_analyzer a (not (is_gap c)) (is_letter c) true

-- that a token has the byte, or that none has it
abbrev pub as_wanted : Bool → Bool → Bool
as_wanted true b = b
as_wanted false b = not b

unfoldable pub wanted : ℕ → Bool → ℕ → Bool
wanted a b c = as_wanted b (inside a c)

-- where the bytes that P is true of end, from a place on and up to an end
unfoldable pub span_from : (ℕ → Bool) → List ℕ → ℕ → ℕ → ℕ
span_from P s at end = at + length (front P (take (end - at) (drop at s)))

pub record Span (P : ℕ → Bool) (s : List ℕ) (from end r : ℕ) : Type 0 where
  pub is : r ≡ span_from P s from end
  pub low : from ≤ r
  pub high : r ≤ end

-- of a run, what is one token
unfoldable pub first_of : ℕ → List ℕ → List ℕ
first_of a r = by_analyzer a (take chunk_most r) (take chunk_most r) r

-- the first token from a place on, where P is true of the bytes that a token has: its start and its text
unfoldable pub start_from : (ℕ → Bool) → List ℕ → ℕ → ℕ
start_from P s at = at + length (front (λ c. not (P c)) (drop at s))

unfoldable pub text_from : (ℕ → Bool) → ℕ → List ℕ → ℕ → List ℕ
text_from P a s at = first_of a (front P (drop (start_from P s at) s))

-- a token's text, and a byte of it, as they are written out
abbrev pub lowers : ℕ → Bool
lowers a = eqb a simple_analyzer || is_words a

unfoldable pub spelled : ℕ → List ℕ → List ℕ
spelled a t = cond (lowers a) (lowercase t) t

unfoldable pub written_byte : ℕ → ℕ → ℕ
written_byte a c = cond (lowers a) (lower c) c

-- letters only, at least one and at most a chunk: one token whatever the analyzer, if it is not left out
pub record OneWord (t : List ℕ) : Type 0 where
  pub some : 0 < length t
  pub short : length t ≤ chunk_most
  pub letters : all is_letter t ≡ true

-- ---- the first token from a place on, be it left out or not

-- of words: a chunk up to the next boundary
unfoldable pub word_text : List ℕ → ℕ → List ℕ
word_text s at = let i = token_start s at in take (min chunk_most (reach s (suc i) - i)) (drop i s)

-- its start and its text
unfoldable pub start_of : ℕ → List ℕ → ℕ → ℕ
start_of a s at = cond (is_words a) (token_start s at) (start_from (inside a) s at)

unfoldable pub found_text : ℕ → List ℕ → ℕ → List ℕ
found_text a s at = cond (is_words a) (word_text s at) (text_from (inside a) a s at)

-- the texts of the tokens from a place on
unfoldable pub rest_texts : ℕ → List ℕ → ℕ → List (List ℕ)
rest_texts a s at = cond (is_words a) (map lowercase (pieces_from s at)) (token_texts a (drop at s))

-- the first token of s from `at` on has `len` bytes and starts at `start`; where there is none, `len` is 0
pub record FoundWord (s : List ℕ) (at start len : ℕ) : Type 0 where
  -- these two leave no other answer
  pub place : start ≡ token_start s at
  pub size : len ≡ length (word_text s at)
  pub onward : at ≤ start
  pub within : start + len ≤ length s
  pub none : len ≡ 0 → pieces_from s at ≡ []
  pub one : 0 < len → pieces_from s at ≡ take len (drop start s) ∷ pieces_from s (start + len)

pub record Found (a : ℕ) (s : List ℕ) (at start len : ℕ) : Type 0 where
  -- these two leave no other answer
  pub place : start ≡ start_of a s at
  pub size : len ≡ length (found_text a s at)
  pub onward : at ≤ start
  -- within the text, or empty at a place behind it
  pub within : start + len ≤ at + (length s - at)
  pub none : len ≡ 0 → rest_texts a s at ≡ []
  pub one : 0 < len → rest_texts a s at ≡ spelled a (take len (drop start s)) ∷ rest_texts a s (start + len)

-- ---- the first that is kept

-- behind the first token from a place on
abbrev pub behind_first : ℕ → List ℕ → ℕ → ℕ
behind_first a s at = start_of a s at + length (found_text a s at)

-- how many are left out before one that is not; n bounds them
unfoldable pub passed_in : ℕ → List ℕ → ℕ → ℕ → ℕ
passed_in a s zero at = 0
passed_in a s (suc n) at =
    let more = suc (passed_in a s n (behind_first a s at)) in
    cond (is_left_out a (spelled a (found_text a s at))) more 0

abbrev pub passed : ℕ → List ℕ → ℕ → ℕ
passed a s at = passed_in a s (length s) at

-- the place behind the first k tokens from a place on, and behind those that are left out before one that is not
unfoldable pub behind_tokens : ℕ → List ℕ → ℕ → ℕ → ℕ
behind_tokens a s zero at = at
behind_tokens a s (suc k) at = behind_tokens a s k (behind_first a s at)

abbrev pub kept_at : ℕ → List ℕ → ℕ → ℕ
kept_at a s at = behind_tokens a s (passed a s at) at

-- the tokens from a place on, where the first of them would have the position p
unfoldable pub rest_words : ℕ → List ℕ → ℕ → ℕ → List Word
rest_words a s at p = kept_of a (placed_from p (rest_texts a s at))

pub record Next (a : ℕ) (s : List ℕ) (at p start len position : ℕ) : Type 0 where
  -- these three leave no other answer
  pub place : start ≡ start_of a s (kept_at a s at)
  pub size : len ≡ length (found_text a s (kept_at a s at))
  pub counted : position ≡ p + passed a s at
  pub onward : at ≤ start
  pub within : start + len ≤ at + (length s - at)
  -- a token that is left out has a byte
  pub least : p ≤ position
  pub few : position + at ≤ p + start
  pub none : len ≡ 0 → rest_words a s at p ≡ []
  pub one : 0 < len → rest_words a s at p ≡ word position (spelled a (take len (drop start s))) ∷ rest_words a s (start + len) (suc position)
