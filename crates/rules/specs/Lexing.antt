-- Lexing: the whole text, first fault from the left. Section 'Lexing and parsing'.
use Rattle.std.specs.Prelude.{ℕ, zero, suc, ◌-◌, List, [], ◌∷◌, Bool, not, ◌&&◌, cond, length, get_or, drop, eqb}
use Rattle.rules.specs.Numbers.{Read, got, refused, need, on_read, and_then, faulty, open_quote, nothing_escaped, range_bracket, wildcard}
use Rattle.rules.specs.Bytes.{ascii, same, some}
use Rattle.rules.specs.Analysis.{is_space, ends_term}

-- ---- tokens

-- the kinds of token; `end_kind` stands for what follows the last one
abbrev pub end_kind : ℕ
end_kind = 0

abbrev pub term_kind : ℕ
term_kind = 1

abbrev pub quoted_kind : ℕ
quoted_kind = 2

abbrev pub colon_kind : ℕ
colon_kind = 3

abbrev pub plus_kind : ℕ
plus_kind = 4

abbrev pub minus_kind : ℕ
minus_kind = 5

abbrev pub not_kind : ℕ
not_kind = 6

abbrev pub and_kind : ℕ
and_kind = 7

abbrev pub or_kind : ℕ
or_kind = 8

abbrev pub open_kind : ℕ
open_kind = 9

abbrev pub close_kind : ℕ
close_kind = 10

abbrev pub caret_kind : ℕ
caret_kind = 11

abbrev pub tilde_kind : ℕ
tilde_kind = 12

-- a kind, the unescaped text of a term or a quote, and the place where the token starts
pub record Token : Type 0 where
  pub kind : ℕ
  pub text : List ℕ
  pub place : ℕ

-- ---- terms and quotes

-- the text that was unescaped, and what follows it
pub data Piece : Type 0 where
  piece : List ℕ → List ℕ → Piece

abbrev pub is_quote : ℕ → Bool
is_quote c = eqb c 0x22

abbrev pub is_backslash : ℕ → Bool
is_backslash c = eqb c 0x5c

abbrev pub on_text : ℕ → Piece → Piece
on_text c (piece t s) = piece (c ∷ t) s

unfoldable pub before : ℕ → Read Piece → Read Piece
before c r = on_read (on_text c) r

-- where s begins, with which a text of n bytes ends
abbrev pub start_in : ℕ → List ℕ → ℕ
start_in n s = n - length s

-- a term's text, up to a byte that ends it; the text of n bytes ends with what it is read from
unfoldable pub term_text : ℕ → List ℕ → Read Piece
term_text n [] = got (piece [] [])
term_text n (c ∷ []) =
    let dangling = refused (faulty nothing_escaped (start_in n (c ∷ []))) in
    cond (ends_term c) (got (piece [] (c ∷ []))) (cond (is_backslash c) dangling (got (piece (c ∷ []) [])))
term_text n (c ∷ d ∷ s) =
    let plain = before c (term_text n (d ∷ s)) in
    let escaped = before d (term_text n s) in
    let more = cond (is_backslash c) escaped plain in
    cond (ends_term c) (got (piece [] (c ∷ d ∷ s))) more

-- a quoted text, up to the closing quote; the opening one stands at p
unfoldable pub quoted_text : ℕ → ℕ → List ℕ → Read Piece
quoted_text n p [] = refused (faulty open_quote p)
quoted_text n p (c ∷ []) =
    let dangling = refused (faulty nothing_escaped (start_in n (c ∷ []))) in
    cond (is_quote c) (got (piece [] [])) (cond (is_backslash c) dangling (refused (faulty open_quote p)))
quoted_text n p (c ∷ d ∷ s) =
    let plain = before c (quoted_text n p (d ∷ s)) in
    let escaped = before d (quoted_text n p s) in
    let more = cond (is_backslash c) escaped plain in
    cond (is_quote c) (got (piece [] (d ∷ s))) more

abbrev pub is_bracket : ℕ → Bool
is_bracket c = some (eqb c) (ascii "[]{}")

abbrev pub is_wildcard : ℕ → Bool
is_wildcard c = some (eqb c) (ascii "*?")

-- the kind of a finished unescaped text
unfoldable pub word_kind : List ℕ → ℕ
word_kind t =
    cond (same t (ascii "AND")) and_kind (cond (same t (ascii "OR")) or_kind (cond (same t (ascii "NOT")) not_kind term_kind))

-- ---- the text

-- a token's kind and text, and what follows it
pub data Lexed : Type 0 where
  lexed : ℕ → List ℕ → List ℕ → Lexed

-- the text of an operator is not kept
abbrev pub word_lexed : List ℕ → List ℕ → Lexed
word_lexed t s = lexed (word_kind t) (cond (eqb (word_kind t) term_kind) t []) s

-- a term may not be followed by a wildcard
unfoldable pub term_end : ℕ → Piece → Read Lexed
term_end n (piece t []) = got (word_lexed t [])
term_end n (piece t (c ∷ s)) = need (not (is_wildcard c)) (faulty wildcard (start_in n (c ∷ s))) (got (word_lexed t (c ∷ s)))

abbrev pub quoted_end : Piece → Lexed
quoted_end (piece t s) = lexed quoted_kind t s

unfoldable pub term_from : ℕ → List ℕ → Read Lexed
term_from n s = and_then (term_text n s) (term_end n)

unfoldable pub quoted_from : ℕ → ℕ → List ℕ → Read Lexed
quoted_from n p s = on_read quoted_end (quoted_text n p s)

-- the kind of a token that is one byte, and end_kind where c makes none
unfoldable pub sign_kind : ℕ → ℕ
sign_kind c =
    cond (eqb c 0x2b) plus_kind
    (cond (eqb c 0x2d) minus_kind
    (cond (eqb c 0x21) not_kind
    (cond (eqb c 0x28) open_kind
    (cond (eqb c 0x29) close_kind
    (cond (eqb c 0x3a) colon_kind
    (cond (eqb c 0x5e) caret_kind
    (cond (eqb c 0x7e) tilde_kind end_kind)))))))

-- `&&` and `||`; alone they begin a term
abbrev pub doubled : ℕ → ℕ → List ℕ → Bool
doubled x c s = eqb c x && eqb (get_or s 0 0) x

-- the token that begins with c, before s, with which a text of n bytes ends
unfoldable pub token_at : ℕ → ℕ → List ℕ → Read Lexed
token_at n c s =
    let p = start_in n (c ∷ s) in
    cond (not (eqb (sign_kind c) end_kind)) (got (lexed (sign_kind c) [] s))
    (cond (doubled 0x26 c s) (got (lexed and_kind [] (drop 1 s)))
    (cond (doubled 0x7c c s) (got (lexed or_kind [] (drop 1 s)))
    (cond (is_quote c) (quoted_from n p s)
    (cond (is_bracket c) (refused (faulty range_bracket p))
    (cond (is_wildcard c) (refused (faulty wildcard p))
    (term_from n (c ∷ s)))))))

-- the token at p, and what `more` reads after it
unfoldable pub token_then : ℕ → (List ℕ → Read (List Token)) → Lexed → Read (List Token)
token_then p more (lexed k t s) = on_read (λ ts. record { kind = k; text = t; place = p } ∷ ts) (more s)

-- the tokens in s, with which a text of n bytes ends; `more` reads what follows the first byte or token
unfoldable pub tokens_step : ℕ → (List ℕ → Read (List Token)) → List ℕ → Read (List Token)
tokens_step n more [] = got []
tokens_step n more (c ∷ s) =
    let skipped = more s in
    let token = and_then (token_at n c s) (token_then (start_in n (c ∷ s)) more) in
    cond (is_space c) skipped token

-- k bounds the bytes
unfoldable pub tokens_in : ℕ → ℕ → List ℕ → Read (List Token)
tokens_in n zero s = got []
tokens_in n (suc k) s = tokens_step n (λ t. tokens_in n k t) s

unfoldable pub lex : List ℕ → Read (List Token)
lex s = tokens_in (length s) (length s) s
