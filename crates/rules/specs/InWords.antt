-- Words by place, as code meets them that goes from byte to byte: what stands in a word, and the tokens that are left at a place.
use Rattle.std.specs.Prelude.{ℕ, zero, suc, ◌-◌, List, ◌++◌, Bool, ◌&&◌, ◌||◌, cond, length, take, drop, get_or, leb}
use Rattle.rules.specs.Bytes.{some}
use Rattle.rules.specs.Words.{WordBreak, outside, is, a_letter, numeric, extend_num_let, is_mid_letters, is_mid_numbers, values, joined, reach, is_alphanumeric, words_from}
use Rattle.rules.specs.Analysis.{chunks, cut}

-- letters and digits, and with them `_`
abbrev pub is_solid : WordBreak → Bool
is_solid v = is v a_letter || is v numeric

abbrev pub is_inner : WordBreak → Bool
is_inner v = is_solid v || is v extend_num_let

-- b joins a and c
unfoldable pub bridged : WordBreak → WordBreak → WordBreak → Bool
bridged a b c = (is a a_letter && (is_mid_letters b && is c a_letter)) || (is a numeric && (is_mid_numbers b && is c numeric))

-- the value of a byte, where two places stand before the text
abbrev pub value_at : List ℕ → ℕ → WordBreak
value_at s i = get_or (values s) i outside

-- the byte behind the place i joins those beside it
unfoldable pub is_bridge : List ℕ → ℕ → Bool
is_bridge s i = bridged (value_at s (suc i)) (value_at s (suc (suc i))) (value_at s (suc (suc (suc i))))

-- a place stands in a word that has letters, digits or `_`: one of them is beside it, and it is no boundary
unfoldable pub is_within : List ℕ → ℕ → Bool
is_within s at = (is_inner (value_at s (suc at)) || is_inner (value_at s (suc (suc at)))) && joined s at

-- the word that begins at a place
abbrev pub word_at : List ℕ → ℕ → List ℕ
word_at s i = take (reach s (suc i) - i) (drop i s)

-- the tokens of a word from a place on up to its end, and of those behind it
abbrev pub left_over : List ℕ → ℕ → ℕ → List (List ℕ)
left_over s at end = chunks (take (end - at) (drop at s)) ++ cut (words_from s end)

-- the tokens from a place on, as they stand in the text: of the word that it stands in, if any, and of those behind it
unfoldable pub pieces_from : List ℕ → ℕ → List (List ℕ)
pieces_from s at = cond (is_within s at) (left_over s at (reach s at)) (cut (words_from s (reach s at)))

-- the first word from the boundary i on that has a letter or a digit: where it begins; n bounds the words
unfoldable pub seek_in : List ℕ → ℕ → ℕ → ℕ
seek_in s zero i = i
seek_in s (suc n) i = let more = seek_in s n (reach s (suc i)) in cond (leb (length s) i || some is_alphanumeric (word_at s i)) i more

-- where the first token from a place on begins; the end of the text, where there is none
unfoldable pub token_start : List ℕ → ℕ → ℕ
token_start s at = cond (is_within s at) at (seek_in s (length s) (reach s at))
