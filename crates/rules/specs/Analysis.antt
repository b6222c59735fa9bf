-- Classes, analyzers and chunks. Section 'Lexing and parsing', from 'A constant table of 128 entries' and from 'Analyzers'.
use Rattle.std.specs.Prelude.{ℕ, zero, suc, ◌+◌, List, [], ◌∷◌, ◌++◌, map, Bool, not, ◌&&◌, ◌||◌, cond, length, take, drop, eqb}
use Rattle.rules.specs.Numbers.{chunk_most, whitespace_analyzer, simple_analyzer, words_analyzer, english_analyzer}
pub use Rattle.rules.specs.Bytes.{between, is_capital, is_letter, is_digit}
use Rattle.rules.specs.Bytes.{ascii, is_empty, some, those}
use Rattle.rules.specs.Query.{Word, word, text_of}
use Rattle.rules.specs.Words.{is, extend_num_let, is_mid_letters, is_mid_numbers, word_break, words, is_stop_word}

-- ---- classes

-- the lexer's whitespace
abbrev pub is_space : ℕ → Bool
is_space c = between 0x09 0x0d c || eqb c 0x20

-- a term ends before one of these, and before whitespace
abbrev pub is_mark : ℕ → Bool
is_mark c = some (eqb c) (ascii "!():^\"~[]{}*?")

abbrev pub ends_term : ℕ → Bool
ends_term c = is_space c || is_mark c

-- where the whitespace analyzer splits: 1C to 1F too
abbrev pub is_gap : ℕ → Bool
is_gap c = is_space c || between 0x1c 0x1f c

-- a byte's classes as flags: 1 whitespace, 2 term end, 4 and 8 what joins two letters and two digits, 16 `_`, 32 digit, 64 letter
abbrev pub flag : Bool → ℕ → ℕ
flag b n = cond b n 0

unfoldable pub class_of : ℕ → ℕ
class_of c =
    flag (is_space c) 1 + flag (ends_term c) 2 + flag (is_mid_letters (word_break c)) 4 + flag (is_mid_numbers (word_break c)) 8
    + flag (is (word_break c) extend_num_let) 16 + flag (is_digit c) 32 + flag (is_letter c) 64

-- the constant table of 128 entries
unfoldable pub classes : List ℕ
classes =
    0 ∷ 0 ∷ 0 ∷ 0 ∷ 0 ∷ 0 ∷ 0 ∷ 0 ∷ 0 ∷ 3 ∷ 3 ∷ 3 ∷ 3 ∷ 3 ∷ 0 ∷ 0
    ∷ 0 ∷ 0 ∷ 0 ∷ 0 ∷ 0 ∷ 0 ∷ 0 ∷ 0 ∷ 0 ∷ 0 ∷ 0 ∷ 0 ∷ 0 ∷ 0 ∷ 0 ∷ 0
    ∷ 3 ∷ 2 ∷ 2 ∷ 0 ∷ 0 ∷ 0 ∷ 0 ∷ 12 ∷ 2 ∷ 2 ∷ 2 ∷ 0 ∷ 8 ∷ 0 ∷ 12 ∷ 0
    ∷ 32 ∷ 32 ∷ 32 ∷ 32 ∷ 32 ∷ 32 ∷ 32 ∷ 32 ∷ 32 ∷ 32 ∷ 6 ∷ 8 ∷ 0 ∷ 0 ∷ 0 ∷ 2
    ∷ 0 ∷ 64 ∷ 64 ∷ 64 ∷ 64 ∷ 64 ∷ 64 ∷ 64 ∷ 64 ∷ 64 ∷ 64 ∷ 64 ∷ 64 ∷ 64 ∷ 64 ∷ 64
    ∷ 64 ∷ 64 ∷ 64 ∷ 64 ∷ 64 ∷ 64 ∷ 64 ∷ 64 ∷ 64 ∷ 64 ∷ 64 ∷ 2 ∷ 0 ∷ 2 ∷ 2 ∷ 16
    ∷ 0 ∷ 64 ∷ 64 ∷ 64 ∷ 64 ∷ 64 ∷ 64 ∷ 64 ∷ 64 ∷ 64 ∷ 64 ∷ 64 ∷ 64 ∷ 64 ∷ 64 ∷ 64
    ∷ 64 ∷ 64 ∷ 64 ∷ 64 ∷ 64 ∷ 64 ∷ 64 ∷ 64 ∷ 64 ∷ 64 ∷ 64 ∷ 2 ∷ 0 ∷ 2 ∷ 2 ∷ 0
    ∷ []

-- ---- runs and chunks

-- the longest front of s whose bytes P is true of, and what follows it
unfoldable pub front : (ℕ → Bool) → List ℕ → List ℕ
front P [] = []
front P (c ∷ s) = let more = c ∷ front P s in cond (P c) more []

unfoldable pub after : (ℕ → Bool) → List ℕ → List ℕ
after P [] = []
after P (c ∷ s) = let more = after P s in cond (P c) more (c ∷ s)

-- the longest runs of bytes that P is true of; n bounds their number
unfoldable pub runs_in : (ℕ → Bool) → ℕ → List ℕ → List (List ℕ)
runs_in P zero s = []
runs_in P (suc n) s =
    let t = after (λ c. not (P c)) s in
    let more = front P t ∷ runs_in P n (after P t) in
    cond (is_empty t) [] more

abbrev pub runs : (ℕ → Bool) → List ℕ → List (List ℕ)
runs P s = runs_in P (length s) s

-- a token in chunks of 255 bytes; n bounds their number
unfoldable pub chunks_in : ℕ → List ℕ → List (List ℕ)
chunks_in zero t = []
chunks_in (suc n) t = let more = take chunk_most t ∷ chunks_in n (drop chunk_most t) in cond (is_empty t) [] more

abbrev pub chunks : List ℕ → List (List ℕ)
chunks t = chunks_in (length t) t

-- the chunks of all the runs
unfoldable pub cut : List (List ℕ) → List (List ℕ)
cut [] = []
cut (t ∷ ts) = chunks t ++ cut ts

-- ---- analyzers

abbrev pub lower : ℕ → ℕ
lower c = cond (is_capital c) (c + 0x20) c

abbrev pub lowercase : List ℕ → List ℕ
lowercase s = map lower s

abbrev pub whole_text : List ℕ → List (List ℕ)
whole_text [] = []
whole_text (c ∷ s) = (c ∷ s) ∷ []

-- the texts of the tokens
unfoldable pub whitespace_tokens : List ℕ → List (List ℕ)
whitespace_tokens s = cut (runs (λ c. not (is_gap c)) s)

unfoldable pub simple_tokens : List ℕ → List (List ℕ)
simple_tokens s = map lowercase (cut (runs is_letter s))

unfoldable pub keyword_tokens : List ℕ → List (List ℕ)
keyword_tokens s = whole_text s

-- words, lowercased; what is English about one analyzer is which of them are kept
unfoldable pub word_tokens : List ℕ → List (List ℕ)
word_tokens s = map lowercase (cut (words s))

abbrev pub is_words : ℕ → Bool
is_words a = between words_analyzer english_analyzer a

unfoldable pub token_texts : ℕ → List ℕ → List (List ℕ)
token_texts a s =
    cond (eqb a whitespace_analyzer) (whitespace_tokens s)
    (cond (eqb a simple_analyzer) (simple_tokens s)
    (cond (is_words a) (word_tokens s) (keyword_tokens s)))

-- one position each, from p on
unfoldable pub placed_from : ℕ → List (List ℕ) → List Word
placed_from p [] = []
placed_from p (t ∷ ts) = word p t ∷ placed_from (suc p) ts

-- English leaves out the stop words, and their positions stay empty
abbrev pub is_left_out : ℕ → List ℕ → Bool
is_left_out a t = eqb a english_analyzer && is_stop_word t

unfoldable pub kept_of : ℕ → List Word → List Word
kept_of a ws = those (λ w. not (is_left_out a (text_of w))) ws

abbrev pub tokenize : ℕ → List ℕ → List Word
tokenize a s = kept_of a (placed_from 0 (token_texts a s))
