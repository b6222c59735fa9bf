-- The row of tokens in the room: 1,024 unescaped bytes, then four bytes for each token. They are its kind; a note of three bits; ten bits for
-- the token's place in the text, from where on its own text stands among the unescaped bytes too; and eleven for the length of that text.
use Rattle.std.specs.Prelude.{◌≡◌, ℕ, zero, suc, ◌+◌, ◌*◌, ◌/◌, ◌%◌, ◌≤◌, ◌<◌, List, [], ◌∷◌, ◌++◌, length, get_or, take, drop, set}
use Rattle.rules.specs.Numbers.{text_most}
use Rattle.rules.specs.Lexing.{Token}
use Rattle.analysis.specs.Tokens.{OneWord}

abbrev pub room_least : ℕ
room_least = 5120

-- where the token at i stands
abbrev pub entry_at : ℕ → ℕ
entry_at i = text_most + 4 * i

abbrev pub kind_in : List ℕ → ℕ → ℕ
kind_in room i = get_or room (entry_at i) 0

abbrev pub note_in : List ℕ → ℕ → ℕ
note_in room i = get_or room (entry_at i + 1) 0 / 32

abbrev pub place_in : List ℕ → ℕ → ℕ
place_in room i = get_or room (entry_at i + 1) 0 % 32 * 32 + get_or room (entry_at i + 2) 0 / 8

abbrev pub size_in : List ℕ → ℕ → ℕ
size_in room i = get_or room (entry_at i + 2) 0 % 8 * 256 + get_or room (entry_at i + 3) 0

-- the token at i, and the first n of them
unfoldable pub token_at : List ℕ → ℕ → Token
token_at room i = record {
  kind = kind_in room i;
  text = take (size_in room i) (drop (place_in room i) room);
  place = place_in room i;
}

unfoldable pub tokens_of : List ℕ → ℕ → List Token
tokens_of room zero = []
tokens_of room (suc n) = tokens_of room n ++ (token_at room n ∷ [])

-- the text of the token at i stands below b, and those of the first n tokens do
abbrev pub Below : ℕ → List ℕ → ℕ → Type 0
Below b room i = place_in room i + size_in room i ≤ b

abbrev pub LaidBelow : ℕ → List ℕ → ℕ → Type 0
LaidBelow b room n = (i : ℕ) → i < n → Below b room i

-- they stand among the unescaped bytes
abbrev pub Laid : List ℕ → ℕ → Type 0
Laid room n = LaidBelow text_most room n

-- the four bytes of a token: kind, note, place and length
abbrev pub entry : ℕ → ℕ → ℕ → ℕ → List ℕ
entry k a p n = k ∷ (a * 32 + p / 32) ∷ (p % 32 * 8 + n / 256) ∷ n % 256 ∷ []

-- the field in force: the default field, or the text of token k at k + 1
abbrev pub name_from : List ℕ → List ℕ → ℕ → List ℕ
name_from room field zero = field
name_from room field (suc k) = (token_at room k).text

-- ---- notes

-- the note of a term of letters only
abbrev pub word_note : ℕ
word_note = 6

-- what is noted as a word is one
abbrev pub Worded : List ℕ → ℕ → Type 0
Worded room n = (i : ℕ) → i < n → note_in room i ≡ word_note → OneWord (token_at room i).text

-- the note of token i is a; all else is as it was
pub record Renoted (i a : ℕ) (before after : List ℕ) : Type 0 where
  -- this leaves no other content of the room, and the others follow from it
  pub is : after ≡ set before (entry_at i + 1) (get_or before (entry_at i + 1) 0 % 32 + a * 32)
  pub size : length after ≡ length before
  pub noted : note_in after i ≡ a
  pub others : (k : ℕ) → (k ≡ i → ⊥) → note_in after k ≡ note_in before k
  -- a text stands before the row, where no note is put
  pub tokens : (n : ℕ) → Laid before n → tokens_of after n ≡ tokens_of before n
  pub laid : (n : ℕ) → Laid before n → Laid after n

-- the bytes below `at`, and the row of tokens, are as they were
pub record Kept (at : ℕ) (before after : List ℕ) : Type 0 where
  pub front : take at after ≡ take at before
  pub row : drop text_most after ≡ drop text_most before
