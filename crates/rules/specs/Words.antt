-- Words: where a text is cut into words, and the stop words. Order 1 of the change requests. The rules are those of UAX #29, 'Word Boundaries',
-- with the Word_Break values of Unicode 14.0.0, each by its number and in the annex's order; those that no ASCII text can meet are named.
use Rattle.std.specs.Prelude.{ℕ, zero, suc, ◌-◌, List, [], ◌∷◌, map, Bool, true, false, ◌&&◌, ◌||◌, cond, length, take, drop, get_or, leb, eqb}
use Rattle.rules.specs.Bytes.{between, is_letter, is_digit, ascii, same, some, those}

-- ---- the value of a byte

-- what ASCII has of the annex's values; `outside` is what stands before the start of a text and behind its end (sot, eot)
pub data WordBreak : Type 0 where
  outside : WordBreak
  cr lf newline : WordBreak
  w_seg_space : WordBreak
  a_letter numeric extend_num_let : WordBreak
  mid_letter mid_num mid_num_let single_quote : WordBreak
  other : WordBreak

-- `"` is Double_Quote, which only Hebrew letters ask for
unfoldable pub word_break : ℕ → WordBreak
word_break c =
    cond (eqb c 0x0d) cr
    (cond (eqb c 0x0a) lf
    (cond (between 0x0b 0x0c c) newline
    (cond (eqb c 0x20) w_seg_space
    (cond (is_letter c) a_letter
    (cond (is_digit c) numeric
    (cond (some (eqb c) (ascii "_")) extend_num_let
    (cond (some (eqb c) (ascii ":")) mid_letter
    (cond (some (eqb c) (ascii ",;")) mid_num
    (cond (some (eqb c) (ascii ".")) mid_num_let
    (cond (some (eqb c) (ascii "'")) single_quote other))))))))))

abbrev pub code : WordBreak → ℕ
code outside = 0
code cr = 1
code lf = 2
code newline = 3
code w_seg_space = 4
code a_letter = 5
code numeric = 6
code extend_num_let = 7
code mid_letter = 8
code mid_num = 9
code mid_num_let = 10
code single_quote = 11
code other = 12

abbrev pub is : WordBreak → WordBreak → Bool
is v w = eqb (code v) (code w)

-- the annex's macros: AHLetter, MidNumLetQ; and (MidLetter | MidNumLetQ), (MidNum | MidNumLetQ), (Newline | CR | LF), as its rules have them
abbrev pub is_ah_letter : WordBreak → Bool
is_ah_letter v = is v a_letter

abbrev pub is_mid_num_let_q : WordBreak → Bool
is_mid_num_let_q v = is v mid_num_let || is v single_quote

abbrev pub is_mid_letters : WordBreak → Bool
is_mid_letters v = is v mid_letter || is_mid_num_let_q v

abbrev pub is_mid_numbers : WordBreak → Bool
is_mid_numbers v = is v mid_num || is_mid_num_let_q v

abbrev pub is_line_end : WordBreak → Bool
is_line_end v = is v newline || (is v cr || is v lf)

-- ---- the rules

-- the first rule that applies decides: × is `unbroken`, ÷ is `broken`
abbrev unbroken : Bool → Bool → Bool
unbroken b more = cond b true more

abbrev broken : Bool → Bool → Bool
broken b more = cond b false more

-- no boundary is between b and c, where a stands before b and d behind c
unfoldable pub joins : WordBreak → WordBreak → WordBreak → WordBreak → Bool
joins a b c d =
    -- WB1: sot ÷ Any
    broken (is b outside)
    -- WB2: Any ÷ eot
    (broken (is c outside)
    -- WB3: CR × LF
    (unbroken (is b cr && is c lf)
    -- WB3a: (Newline | CR | LF) ÷
    (broken (is_line_end b)
    -- WB3b: ÷ (Newline | CR | LF)
    (broken (is_line_end c)
    -- WB3c: ZWJ × \p{Extended_Pictographic}, not in ASCII
    -- WB3d: WSegSpace × WSegSpace
    (unbroken (is b w_seg_space && is c w_seg_space)
    -- WB4: X (Extend | Format | ZWJ)* → X, not in ASCII
    -- WB5: AHLetter × AHLetter
    (unbroken (is_ah_letter b && is_ah_letter c)
    -- WB6: AHLetter × (MidLetter | MidNumLetQ) AHLetter
    (unbroken (is_ah_letter b && (is_mid_letters c && is_ah_letter d))
    -- WB7: AHLetter (MidLetter | MidNumLetQ) × AHLetter
    (unbroken (is_ah_letter a && (is_mid_letters b && is_ah_letter c))
    -- WB7a, WB7b, WB7c: Hebrew_Letter, not in ASCII
    -- WB8: Numeric × Numeric
    (unbroken (is b numeric && is c numeric)
    -- WB9: AHLetter × Numeric
    (unbroken (is_ah_letter b && is c numeric)
    -- WB10: Numeric × AHLetter
    (unbroken (is b numeric && is_ah_letter c)
    -- WB11: Numeric (MidNum | MidNumLetQ) × Numeric
    (unbroken (is a numeric && (is_mid_numbers b && is c numeric))
    -- WB12: Numeric × (MidNum | MidNumLetQ) Numeric
    (unbroken (is b numeric && (is_mid_numbers c && is d numeric))
    -- WB13: Katakana × Katakana, not in ASCII
    -- WB13a: (AHLetter | Numeric | Katakana | ExtendNumLet) × ExtendNumLet
    (unbroken ((is_ah_letter b || (is b numeric || is b extend_num_let)) && is c extend_num_let)
    -- WB13b: ExtendNumLet × (AHLetter | Numeric | Katakana)
    (unbroken (is b extend_num_let && (is_ah_letter c || is c numeric))
    -- WB15, WB16: Regional_Indicator, not in ASCII
    -- WB999: Any ÷ Any
    false)))))))))))))))

-- ---- the words of a text

-- the values of a text's bytes from two places before its start on
unfoldable pub values : List ℕ → List WordBreak
values s = outside ∷ outside ∷ map word_break s

-- no boundary is at the place i, which has i bytes before it
unfoldable pub joined : List ℕ → ℕ → Bool
joined s i =
    let vs = values s in
    joins (get_or vs i outside) (get_or vs (suc i) outside) (get_or vs (suc (suc i)) outside) (get_or vs (suc (suc (suc i))) outside)

-- the first boundary from the place i on; n bounds the steps to it
unfoldable pub reach_in : List ℕ → ℕ → ℕ → ℕ
reach_in s zero i = i
reach_in s (suc n) i = let more = reach_in s n (suc i) in cond (joined s i) more i

abbrev pub reach : List ℕ → ℕ → ℕ
reach s i = reach_in s (length s) i

-- the words of s from the boundary i on: cut at every boundary; n bounds their number
unfoldable pub words_in : List ℕ → ℕ → ℕ → List (List ℕ)
words_in s zero i = []
words_in s (suc n) i =
    let j = reach s (suc i) in
    let more = take (j - i) (drop i s) ∷ words_in s n j in
    cond (leb (length s) i) [] more

-- those that have a letter or a digit make tokens
abbrev pub is_alphanumeric : ℕ → Bool
is_alphanumeric c = is_letter c || is_digit c

abbrev pub words_from : List ℕ → ℕ → List (List ℕ)
words_from s i = those (some is_alphanumeric) (words_in s (length s) i)

unfoldable pub words : List ℕ → List (List ℕ)
words s = words_from s 0

-- ---- stop words

-- `ENGLISH_STOP_WORDS`, in the source's order
unfoldable pub stop_words : List (List ℕ)
stop_words =
    ascii "a" ∷ ascii "an" ∷ ascii "and" ∷ ascii "are" ∷ ascii "as" ∷ ascii "at" ∷ ascii "be" ∷ ascii "but" ∷ ascii "by" ∷ ascii "for"
    ∷ ascii "if" ∷ ascii "in" ∷ ascii "into" ∷ ascii "is" ∷ ascii "it"
    ∷ ascii "no" ∷ ascii "not" ∷ ascii "of" ∷ ascii "on" ∷ ascii "or" ∷ ascii "such" ∷ ascii "that" ∷ ascii "the" ∷ ascii "their"
    ∷ ascii "then" ∷ ascii "there" ∷ ascii "these"
    ∷ ascii "they" ∷ ascii "this" ∷ ascii "to" ∷ ascii "was" ∷ ascii "will" ∷ ascii "with"
    ∷ []

unfoldable pub is_stop_word : List ℕ → Bool
is_stop_word t = some (same t) stop_words
