-- The cases marked (P), in one table. Section 'Both sides of each line'. Field `f`, Or, simple unless said.
use Rattle.std.specs.Prelude.{ℕ, ◌+◌, ◌-◌, ◌*◌, List, [], ◌∷◌, ◌++◌, Bool, true, false, ◌&&◌, cond, leb, eqb}
use Prim.Native.String.{String}
use Rattle.rules.specs.Numbers.{number, place_of, Read, got, refused, and_then, or_operator, and_operator, whitespace_analyzer, simple_analyzer}
use Rattle.rules.specs.Bytes.{ascii, same}
use Rattle.rules.specs.Query.{should, filter, Query, term, boolean, boost, constant_score, match_none, none, clause, equal}
use Rattle.rules.specs.Stored.{encode}
use Rattle.rules.specs.Setup.{read_setup}
use Rattle.rules.specs.Parsing.{parse}
use Rattle.rules.specs.Rewriting.{Rewritten, rewritten, original, strictly, rewrite}
use Rattle.rules.specs.Lists.{Entry, place}
use Rattle.rules.specs.Matching.{matches}

-- ---- bytes in the paper's hexadecimal; spaces part nothing

abbrev nibble : ℕ → ℕ
nibble c = cond (leb c 0x39) (c - 0x30) (c - 0x37)

unfoldable pub unhex : List ℕ → List ℕ
unhex [] = []
unhex (c ∷ []) = []
unhex (c ∷ d ∷ s) = cond (eqb c 0x20) (unhex (d ∷ s)) ((nibble c * 16 + nibble d) ∷ unhex s)

abbrev pub bytes : String → List ℕ
bytes s = unhex (ascii s)

-- ---- cases

pub data Case : Type 0 where
  -- a text, under an operator and an analyzer, is stored as these bytes, or has this refusal number
  stores : ℕ → ℕ → String → List ℕ → Case
  refuses : ℕ → ℕ → String → ℕ → Case
  -- a text has this refusal number, and its fault this place
  refuses_at : String → ℕ → ℕ → Case
  -- a query becomes another in so many rounds, as in the Rust or strict
  becomes : Bool → Query → Query → ℕ → Case
  -- a record matches a query, or does not
  is_true : List Entry → Query → Bool → Case

abbrev pub parsed : ℕ → ℕ → String → Read Query
parsed o a s = and_then (read_setup o a (ascii "f") []) (λ st. parse st (ascii s))

abbrev pub is_stored : Read Query → List ℕ → Bool
is_stored (got q) b = same (encode q) b
is_stored (refused r) b = false

abbrev pub is_refused : Read Query → ℕ → Bool
is_refused (got q) n = false
is_refused (refused r) n = eqb (number r) n

abbrev pub is_refused_at : Read Query → ℕ → ℕ → Bool
is_refused_at (got q) n p = false
is_refused_at (refused r) n p = eqb (number r) n && eqb (place_of r) p

abbrev pub is_rewritten : Rewritten → Query → ℕ → Bool
is_rewritten (rewritten p k) q n = equal p q && eqb k n

abbrev pub is_same : Bool → Bool → Bool
is_same true b = b
is_same false true = false
is_same false false = true

unfoldable pub holds : Case → Bool
holds (stores o a s b) = is_stored (parsed o a s) b
holds (refuses o a s n) = is_refused (parsed o a s) n
holds (refuses_at s n p) = is_refused_at (parsed or_operator simple_analyzer s) n p
holds (becomes strict p q n) = is_rewritten (rewrite strict p) q n
holds (is_true es q b) = is_same (matches es q) b

-- ---- the table

-- the one-byte terms a, b and c of the field f
abbrev a : List ℕ
a = bytes "01 0008 10 0001 66 11 0001 61"

abbrev b : List ℕ
b = bytes "01 0008 10 0001 66 11 0001 62"

abbrev c : List ℕ
c = bytes "01 0008 10 0001 66 11 0001 63"

abbrev term_a : Query
term_a = term (ascii "f") (ascii "a")

abbrev lonely_filter : Query
lonely_filter = boolean 0 (clause filter term_a none)

abbrev twice_should : Query
twice_should = boolean 2 (clause should term_a (clause should term_a none))

unfoldable pub table : List Case
table =
    stores or_operator simple_analyzer "" (bytes "07 0000")
    ∷ stores or_operator simple_analyzer "a" a
    ∷ stores or_operator simple_analyzer "-a" (bytes "03 0013 13 0002 0000 22 000B" ++ a)
    -- Should wi, Should fi; whitespace: one term
    ∷ stores or_operator simple_analyzer "wi-fi"
    (bytes "03 0023 13 0002 0000 21 000C 01 0009 10 0001 66 11 0002 7769 21 000C 01 0009 10 0001 66 11 0002 6669")
    ∷ stores or_operator whitespace_analyzer "wi-fi" (bytes "01 000C 10 0001 66 11 0005 77692D6669")
    -- Must a, Must b, Should c; Should, Must, Must; both Should
    ∷ stores or_operator simple_analyzer "a AND b OR c"
    (bytes "03 002F 13 0002 0000 20 000B" ++ a ++ bytes "20 000B" ++ b ++ bytes "21 000B" ++ c)
    ∷ stores or_operator simple_analyzer "a OR b AND c"
    (bytes "03 002F 13 0002 0000 21 000B" ++ a ++ bytes "20 000B" ++ b ++ bytes "20 000B" ++ c)
    ∷ stores and_operator simple_analyzer "a OR b" (bytes "03 0021 13 0002 0000 21 000B" ++ a ++ bytes "21 000B" ++ b)
    ∷ refuses or_operator simple_analyzer "1 AND b" 11
    ∷ refuses or_operator simple_analyzer "\\AND" 11
    ∷ refuses or_operator simple_analyzer "a^-1" 14
    ∷ stores or_operator simple_analyzer "a^\\-1" (bytes "04 000F BF800000" ++ a)
    ∷ stores or_operator simple_analyzer "a^1e+5" (bytes "04 000F 47C35000" ++ a)
    ∷ refuses or_operator simple_analyzer "a^2^3" 11
    ∷ refuses or_operator simple_analyzer "()^x" 13
    -- one Filter a: Boost 0.0 of ConstantScore a, 2 rounds
    ∷ becomes original lonely_filter (boost 0 (constant_score term_a)) 2
    -- minimum 2, Should a twice: MatchNone, 3 rounds, though it matched a record with a
    ∷ becomes original twice_should match_none 3
    ∷ is_true (place (ascii "f") 0 (ascii "a") ∷ []) twice_should true
    ∷ is_true (place (ascii "f") 0 (ascii "a") ∷ []) match_none false
    -- strict, it stays as it is, in 1 round
    ∷ becomes strictly twice_should twice_should 1
    ∷ []

-- ---- where faults stand: each from both sides of what it points at

unfoldable pub places : List Case
places =
    -- 4: the opening quote; behind a term, blanks, an escape; a quote that is escaped closes nothing
    refuses_at "\"a" 4 0
    ∷ refuses_at "a  \"b" 4 3
    ∷ refuses_at "\\\" \"b" 4 3
    ∷ refuses_at "\"a\" \"b\\\"" 4 4
    ∷ refuses_at "\"" 4 0
    -- 5: the backslash, in a term, in a quote, alone, behind one that is escaped
    ∷ refuses_at "a\\" 5 1
    ∷ refuses_at "\"a\\" 5 2
    ∷ refuses_at "\\" 5 0
    ∷ refuses_at "  a\\\\\\" 5 5
    -- 6 and 7: the byte, at once and behind a term; behind an escape of the same; the first from the left
    ∷ refuses_at "[a" 6 0
    ∷ refuses_at "a]" 6 1
    ∷ refuses_at " {" 6 1
    ∷ refuses_at "\\}}" 6 2
    ∷ refuses_at "*" 7 0
    ∷ refuses_at "a*" 7 1
    ∷ refuses_at "a ?" 7 2
    ∷ refuses_at "\\**" 7 2
    ∷ refuses_at "\"*\" *" 7 4
    ∷ refuses_at "a* ]" 7 1
    ∷ refuses_at ") ]" 6 2
    -- 8 and 9: the `~`, at once and behind blanks, behind an escape
    ∷ refuses_at "a~" 8 1
    ∷ refuses_at "a ~" 8 2
    ∷ refuses_at "\\~b ~" 8 4
    ∷ refuses_at "f:a~" 8 3
    ∷ refuses_at "\"a\"~" 9 3
    ∷ refuses_at "\"a b\"  ~" 9 7
    ∷ refuses_at "\"\\\"\"~1" 9 4
    -- 10: the end, and blanks count
    ∷ refuses_at "a AND" 10 5
    ∷ refuses_at "a +" 10 3
    ∷ refuses_at "a -  " 10 5
    ∷ refuses_at "f:" 10 2
    ∷ refuses_at "(a OR" 10 5
    -- 11: where the token starts; an operator that is a word, with an escape in it; the one behind a boost
    ∷ refuses_at ")" 11 0
    ∷ refuses_at "a )" 11 2
    ∷ refuses_at "a ~" 8 2
    ∷ refuses_at "() ~" 11 3
    ∷ refuses_at "1 AND b" 11 2
    ∷ refuses_at "\\AND" 11 0
    ∷ refuses_at "a AND AND b" 11 6
    ∷ refuses_at "+-a" 11 1
    ∷ refuses_at "a^2^3" 11 3
    ∷ refuses_at "f:g:a" 11 3
    ∷ refuses_at "a \\&& )" 11 6
    -- 12: the end
    ∷ refuses_at "(" 12 1
    ∷ refuses_at "(a" 12 2
    ∷ refuses_at "(a (b)  " 12 8
    -- 13 and 17: where the numeral starts, behind blanks, with an escape before it
    ∷ refuses_at "a^x" 13 2
    ∷ refuses_at "()^x" 13 3
    ∷ refuses_at "a ^ x" 13 4
    ∷ refuses_at "\\a^x" 13 3
    ∷ refuses_at "\"a\"^\\+" 13 4
    ∷ refuses_at "a^11111111111111111111111111111111111111111" 17 2
    ∷ refuses_at "a^ \\11111111111111111111111111111111111111111" 17 3
    -- 14: the token after the `^`, or the end
    ∷ refuses_at "a^" 14 2
    ∷ refuses_at "a^ " 14 3
    ∷ refuses_at "a^-1" 14 2
    ∷ refuses_at "a^ \"2\"" 14 3
    ∷ refuses_at "(a)^)" 14 4
    -- 15: the start of the name, unescaped over 32 bytes; 32 pass
    ∷ refuses_at "nnnnnnnnnnnnnnnnnnnnnnnnnnnnnnnnn:a" 15 0
    ∷ refuses_at "+ nnnnnnnnnnnnnnnnnnnnnnnnnnnnnnnnn :a" 15 2
    ∷ refuses_at "a \\nnnnnnnnnnnnnnnnnnnnnnnnnnnnnnnnn:" 15 2
    ∷ refuses_at "nnnnnnnnnnnnnnnnnnnnnnnnnnnnnnnn:)" 11 33
    -- 16: the 25th bracket; 24 pass, and the end is met
    ∷ refuses_at "(((((((((((((((((((((((((" 16 24
    ∷ refuses_at "((((((((((((((((((((((( f:((" 16 27
    ∷ refuses_at "((((((((((((((((((((((((" 12 24
    ∷ []
