-- The show text of a query. Section 'Both sides of each line', from 'The show program'.
use Rattle.std.specs.Prelude.{ℕ, zero, suc, ◌+◌, ◌/◌, ◌%◌, List, [], ◌∷◌, ◌++◌, Bool, not, ◌&&◌, ◌||◌, cond, drop, ltb, eqb}
use Rattle.rules.specs.Numbers.{number, place_of, Read, got, refused, need, on_read, and_then, bad_setup, or_operator, and_operator, simple_analyzer}
use Rattle.rules.specs.Bytes.{ascii, same, big, is_empty}
use Rattle.rules.specs.Query.{Word, word, Kind, must, should, must_not, filter, Numbers, whole, float, Bound, unbounded, included, excluded, Query, term, phrase, boolean, boost, constant_score, match_all, match_none, range, Clauses, none, clause}
use Rattle.rules.specs.Stored.{encode}
use Rattle.rules.specs.Reading.{read_for_rewriting}
use Rattle.rules.specs.Analysis.{between, front, after}
use Rattle.rules.specs.Setup.{Setup, read_setup}
use Rattle.rules.specs.Parsing.{parse}
use Rattle.rules.specs.Rewriting.{Rewritten, rewritten, original, rewrite}

-- ---- numbers and bytes

-- a number below 16 as a digit
abbrev pub digit : ℕ → ℕ
digit n = cond (ltb n 10) (0x30 + n) (0x57 + n)

-- n in decimal, before s; k bounds the digits
unfoldable pub decimal_onto : ℕ → ℕ → List ℕ → List ℕ
decimal_onto zero n s = s
decimal_onto (suc k) n s =
    let more = decimal_onto k (n / 10) (digit (n % 10) ∷ s) in
    cond (ltb n 10) (digit n ∷ s) more

abbrev pub decimal : ℕ → List ℕ
decimal n = decimal_onto (suc n) n []

-- bytes, two digits each
unfoldable pub hex : List ℕ → List ℕ
hex [] = []
hex (c ∷ s) = digit (c / 16) ∷ digit (c % 16) ∷ hex s

-- bytes outside 21 to 7E, `\` and `:` are escaped
abbrev pub is_plain : ℕ → Bool
is_plain c = between 0x21 0x7e c && not (eqb c 0x5c || eqb c 0x3a)

unfoldable pub shown : List ℕ → List ℕ
shown [] = []
shown (c ∷ s) = cond (is_plain c) (c ∷ shown s) (ascii "\\" ++ hex (c ∷ []) ++ shown s)

abbrev pub shown_field : List ℕ → List ℕ
shown_field f = cond (is_empty f) (ascii "\\") (shown f)

-- ---- a query: depth, clause kind, node, a line each

abbrev pub kind_name : Kind → List ℕ
kind_name must = ascii "must"
kind_name should = ascii "should"
kind_name must_not = ascii "mustnot"
kind_name filter = ascii "filter"

unfoldable pub shown_words : List Word → List ℕ
shown_words [] = []
shown_words (word p t ∷ ws) = ascii " " ++ decimal p ++ ascii ":" ++ shown t ++ shown_words ws

abbrev pub shown_numbers : Numbers → List ℕ
shown_numbers whole = ascii "wholerange "
shown_numbers float = ascii "floatrange "

abbrev pub shown_bound : Bound → List ℕ
shown_bound unbounded = ascii " open"
shown_bound (included x) = ascii " included:" ++ hex (big 8 x)
shown_bound (excluded x) = ascii " excluded:" ++ hex (big 8 x)

-- a line: at the depth d, as a clause or whatever else k says
unfoldable pub line : ℕ → List ℕ → List ℕ → List ℕ
line d k node = decimal d ++ ascii " " ++ k ++ ascii " " ++ node ++ ascii "\n"

abbrev pub no_kind : List ℕ
no_kind = ascii "-"

unfoldable mutual
  pub show : ℕ → List ℕ → Query → List ℕ
  show d k (term f t) = line d k (ascii "term " ++ shown_field f ++ ascii " " ++ shown t)
  show d k (phrase f ws) = line d k (ascii "phrase " ++ shown_field f ++ shown_words ws)
  show d k (boolean m cs) = line d k (ascii "boolean " ++ decimal m) ++ show_clauses (suc d) cs
  show d k (boost b q) = line d k (ascii "boost " ++ hex (big 4 b)) ++ show (suc d) no_kind q
  show d k (constant_score q) = line d k (ascii "constantscore") ++ show (suc d) no_kind q
  show d k match_all = line d k (ascii "matchall")
  show d k match_none = line d k (ascii "matchnone")
  show d k (range n f l u) = line d k (shown_numbers n ++ shown_field f ++ shown_bound l ++ shown_bound u)

  pub show_clauses : ℕ → Clauses → List ℕ
  show_clauses d none = []
  show_clauses d (clause k q cs) = show d (kind_name k) q ++ show_clauses d cs

-- ---- the program: a line of setup and a line of text

-- a line ends before a byte 0A or with the input
abbrev pub in_line : ℕ → Bool
in_line c = not (eqb c 0x0a)

abbrev pub first_line : List ℕ → List ℕ
first_line s = front in_line s

abbrev pub second_line : List ℕ → List ℕ
second_line s = front in_line (drop 1 (after in_line s))

-- `or` or `and`, one space, the default field
abbrev pub in_word : ℕ → Bool
in_word c = not (eqb c 0x20)

unfoldable pub operator_in : List ℕ → Read ℕ
operator_in w =
    cond (same w (ascii "or")) (got or_operator)
    (cond (same w (ascii "and")) (got and_operator) (refused bad_setup))

unfoldable pub show_setup : List ℕ → Read Setup
show_setup s =
    let setup = and_then (operator_in (front in_word s)) (λ o. read_setup o simple_analyzer (drop 1 (after in_word s)) []) in
    need (not (is_empty (after in_word s))) bad_setup setup

-- the two queries, as they are stored
unfoldable pub show_rewritten : Query → Rewritten → List ℕ
show_rewritten q (rewritten p n) =
    ascii "written\n" ++ show 0 no_kind q ++ ascii "rewritten " ++ decimal n ++ ascii "\n" ++ show 0 no_kind p

unfoldable pub show_parsed : Query → Read (List ℕ)
show_parsed q = on_read (λ p. show_rewritten p (rewrite original p)) (read_for_rewriting (encode q))

abbrev pub or_refusal : Read (List ℕ) → List ℕ
or_refusal (got s) = s
or_refusal (refused r) = ascii "refused " ++ decimal (number r) ++ ascii " " ++ decimal (place_of r) ++ ascii "\n"

-- what the program writes for its input
unfoldable pub show_text : List ℕ → List ℕ
show_text s = or_refusal (and_then (show_setup (first_line s)) (λ st. and_then (parse st (second_line s)) show_parsed))
