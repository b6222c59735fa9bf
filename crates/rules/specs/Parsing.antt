-- Parsing, with every refusal where it is met. Section 'Lexing and parsing', from 'The grammar is mutual', and 'Parse order'.
use Rattle.std.specs.Prelude.{ℕ, zero, suc, ◌+◌, ◌-◌, List, [], ◌∷◌, Bool, not, ◌&&◌, ◌||◌, cond, length, get_or, leb, ltb, eqb}
use Rattle.rules.specs.Numbers.{Read, got, refused, need, on_read, and_then, placed, faulty, long_text, not_ascii, fuzzy_term, sloppy_phrase, unexpected_end, unexpected_token, open_bracket, no_numeral, long_field, many_brackets, text_most, field_most, brackets_most, and_operator}
use Rattle.rules.specs.Bytes.{is_text}
use Rattle.rules.specs.Query.{Word, word, Kind, must, should, must_not, filter, Query, term, phrase, boolean, boost, match_none, Clauses, none, clause}
use Rattle.rules.specs.Analysis.{tokenize}
use Rattle.rules.specs.Lexing.{Token, end_kind, term_kind, quoted_kind, colon_kind, plus_kind, minus_kind, not_kind, and_kind, or_kind, open_kind, close_kind, caret_kind, tilde_kind, lex}
use Rattle.rules.specs.Numerals.{numeral_bits}
use Rattle.rules.specs.Setup.{Setup, analyzer_of}

-- a query, or nothing where the text analyzes to nothing
pub data Made : Type 0 where
  nothing : Made
  made : Query → Made

-- with the number of the next token
pub data Found : Type 0 where
  found : Made → ℕ → Found

abbrev pub on_made : (Query → Query) → Made → Made
on_made f nothing = nothing
on_made f (made q) = made (f q)

-- ---- the token at i

abbrev pub token_of : List Token → ℕ → Token
token_of ts i = get_or ts i (record { kind = end_kind; text = []; place = 0 })

abbrev pub is_at : ℕ → List Token → ℕ → Bool
is_at k ts i = eqb (token_of ts i).kind k

abbrev pub text_at : List Token → ℕ → List ℕ
text_at ts i = (token_of ts i).text

-- where it starts; past the last token, where a text of n bytes ends
abbrev pub start_of : ℕ → List Token → ℕ → ℕ
start_of n ts i = (get_or ts i (record { kind = end_kind; text = []; place = n })).place

-- ---- terms and phrases

-- the kind of the default operator
abbrev pub operator_kind : ℕ → Kind
operator_kind o = cond (eqb o and_operator) must should

unfoldable pub term_clauses : Kind → List ℕ → List Word → Clauses
term_clauses k f [] = none
term_clauses k f (word p t ∷ ws) = clause k (term f t) (term_clauses k f ws)

-- several tokens make a Boolean of the default operator's kind for a term, a phrase for a quote
unfoldable pub term_of : ℕ → List ℕ → List Word → Made
term_of o f [] = nothing
term_of o f (word p t ∷ []) = made (term f t)
term_of o f (v ∷ w ∷ ws) = made (boolean 0 (term_clauses (operator_kind o) f (v ∷ w ∷ ws)))

-- a phrase's positions start from its first token
unfoldable pub counted_from : ℕ → List Word → List Word
counted_from b [] = []
counted_from b (word p t ∷ ws) = word (p - b) t ∷ counted_from b ws

unfoldable pub from_first : List Word → List Word
from_first [] = []
from_first (word p t ∷ ws) = counted_from p (word p t ∷ ws)

unfoldable pub phrase_of : List ℕ → List Word → Made
phrase_of f [] = nothing
phrase_of f (word p t ∷ []) = made (term f t)
phrase_of f (v ∷ w ∷ ws) = made (phrase f (from_first (v ∷ w ∷ ws)))

-- ---- a clause, in the field f and below d open brackets; `sub` reads a query. A fault is at a token, by its number.

module _ (st : Setup) (ts : List Token) where
  -- a boost may follow
  unfoldable pub boost_at : Made → ℕ → Read Found
  boost_at m i =
      let bits = placed (λ p. i + 1) (numeral_bits (text_at ts (i + 1))) in
      let boosted = on_read (λ b. found (on_made (boost b) m) (i + 2)) bits in
      let taken = need (is_at term_kind ts (i + 1)) (faulty no_numeral (i + 1)) boosted in
      cond (is_at caret_kind ts i) taken (got (found m i))

  unfoldable pub plain_at : List ℕ → ℕ → Read Found
  plain_at f i =
      let m = term_of st.operator f (tokenize (analyzer_of st f) (text_at ts i)) in
      need (not (is_at tilde_kind ts (i + 1))) (faulty fuzzy_term (i + 1)) (boost_at m (i + 1))

  unfoldable pub quoted_at : List ℕ → ℕ → Read Found
  quoted_at f i =
      let m = phrase_of f (tokenize (analyzer_of st f) (text_at ts i)) in
      need (not (is_at tilde_kind ts (i + 1))) (faulty sloppy_phrase (i + 1)) (boost_at m (i + 1))

  -- after the query in brackets
  unfoldable pub closed_at : Found → Read Found
  closed_at (found m j) = need (is_at close_kind ts j) (faulty open_bracket j) (boost_at m (j + 1))

  module _ (sub : List ℕ → ℕ → ℕ → Read Found) where
    unfoldable pub bracket_at : List ℕ → ℕ → ℕ → Read Found
    bracket_at f d i =
        let inner = and_then (sub f (suc d) (i + 1)) closed_at in
        need (ltb d brackets_most) (faulty many_brackets i) inner

    unfoldable pub body_at : List ℕ → ℕ → ℕ → Read Found
    body_at f d i =
        cond (is_at term_kind ts i) (plain_at f i)
        (cond (is_at open_kind ts i) (bracket_at f d i)
        (cond (is_at quoted_kind ts i) (quoted_at f i)
        (cond (is_at end_kind ts i) (refused (faulty unexpected_end i)) (refused (faulty unexpected_token i)))))

    -- a field name and a colon may stand before
    unfoldable pub clause_at : List ℕ → ℕ → ℕ → Read Found
    clause_at f d i =
        let named = need (leb (length (text_at ts i)) field_most) (faulty long_field i) (body_at (text_at ts i) d (i + 2)) in
        cond (is_at term_kind ts i && is_at colon_kind ts (i + 1)) named (body_at f d i)

-- ---- a query: its clauses, kinds set as in `add_clause`

pub data Conjunction : Type 0 where
  unjoined joined_by_and joined_by_or : Conjunction

pub data Modifier : Type 0 where
  unmodified required prohibited : Modifier

-- looked for only when some clause has been kept
abbrev pub conjunction_at : Clauses → List Token → ℕ → Conjunction
conjunction_at none ts i = unjoined
conjunction_at (clause k q cs) ts i = cond (is_at and_kind ts i) joined_by_and (cond (is_at or_kind ts i) joined_by_or unjoined)

abbrev pub after_conjunction : Conjunction → ℕ → ℕ
after_conjunction unjoined i = i
after_conjunction joined_by_and i = i + 1
after_conjunction joined_by_or i = i + 1

abbrev pub modifier_at : List Token → ℕ → Modifier
modifier_at ts i = cond (is_at plus_kind ts i) required (cond (is_at minus_kind ts i || is_at not_kind ts i) prohibited unmodified)

abbrev pub after_modifier : Modifier → ℕ → ℕ
after_modifier unmodified i = i
after_modifier required i = i + 1
after_modifier prohibited i = i + 1

-- what a conjunction makes of the kind before it
abbrev pub kind_before : ℕ → Conjunction → Kind → Kind
kind_before o unjoined k = k
kind_before o joined_by_and must = must
kind_before o joined_by_and should = must
kind_before o joined_by_and must_not = must_not
kind_before o joined_by_and filter = must
kind_before o joined_by_or must = cond (eqb o and_operator) should must
kind_before o joined_by_or should = should
kind_before o joined_by_or must_not = must_not
kind_before o joined_by_or filter = cond (eqb o and_operator) should filter

-- the kind of a clause after a conjunction and a modifier
abbrev pub kind_after : ℕ → Conjunction → Modifier → Kind
kind_after o c prohibited = must_not
kind_after o unjoined unmodified = operator_kind o
kind_after o unjoined required = must
kind_after o joined_by_and unmodified = must
kind_after o joined_by_and required = must
kind_after o joined_by_or unmodified = should
kind_after o joined_by_or required = cond (eqb o and_operator) should must

-- the clauses kept so far stand with the last one first
unfoldable pub touched : ℕ → Conjunction → Clauses → Clauses
touched o c none = none
touched o c (clause k q cs) = clause (kind_before o c k) q cs

unfoldable pub in_order_before : Clauses → Clauses → Clauses
in_order_before cs none = cs
in_order_before cs (clause k q ds) = in_order_before (clause k q cs) ds

-- one kept Must or Should clause stands for itself
abbrev pub alone : Kind → Query → Query
alone must q = q
alone should q = q
alone must_not q = boolean 0 (clause must_not q none)
alone filter q = boolean 0 (clause filter q none)

unfoldable pub query_of : Clauses → Made
query_of none = nothing
query_of (clause k q none) = made (alone k q)
query_of (clause k q (clause j p cs)) = made (boolean 0 (in_order_before none (clause k q (clause j p cs))))

-- the clauses of a query, the last one first, and the number of the next token
pub data Kept : Type 0 where
  kept : Clauses → ℕ → Kept

-- a clause that analyzes to nothing is not kept, yet its conjunction alters the clause before; `more` reads on
unfoldable pub add_clause : ℕ → Conjunction → Modifier → (Clauses → ℕ → Read Kept) → Clauses → Found → Read Kept
add_clause o c m more cs (found nothing j) = more (touched o c cs) j
add_clause o c m more cs (found (made q) j) = more (clause (kind_after o c m) q (touched o c cs)) j

abbrev pub query_found : Kept → Found
query_found (kept cs j) = found (query_of cs) j

-- a query stops before a closing bracket and at the end
abbrev pub stops_at : List Token → ℕ → Bool
stops_at ts i = is_at close_kind ts i || is_at end_kind ts i

-- the clauses from i on, with cs kept before them; n is above the number of unread tokens
unfoldable pub parse_clauses : Setup → List Token → ℕ → List ℕ → ℕ → Clauses → ℕ → Read Kept
parse_clauses st ts zero f d cs i = refused (faulty unexpected_end i)
parse_clauses st ts (suc n) f d cs i =
    let c = conjunction_at cs ts i in
    let j = after_conjunction c i in
    let m = modifier_at ts j in
    let one = clause_at st ts (λ g e h. on_read query_found (parse_clauses st ts n g e none h)) f d (after_modifier m j) in
    let more = and_then one (add_clause st.operator c m (λ ds h. parse_clauses st ts n f d ds h) cs) in
    cond (stops_at ts i) (got (kept cs i)) more

-- a query reads clauses, and a clause in brackets reads a query
abbrev pub parse_query : Setup → List Token → ℕ → List ℕ → ℕ → ℕ → Read Found
parse_query st ts n f d i = on_read query_found (parse_clauses st ts n f d none i)

-- ---- the text

abbrev pub or_match_none : Made → Query
or_match_none nothing = match_none
or_match_none (made q) = q

unfoldable pub whole_query : List Token → Found → Read Query
whole_query ts (found m j) = need (is_at end_kind ts j) (faulty unexpected_token j) (got (or_match_none m))

unfoldable pub parse_tokens : Setup → List Token → Read Query
parse_tokens st ts = and_then (parse_query st ts (suc (length ts)) st.field 0 0) (whole_query ts)

-- 1, 2; then the whole text is lexed; then parsing, whose faults are where their tokens start
unfoldable pub parse : Setup → List ℕ → Read Query
parse st s =
    let parsed = and_then (lex s) (λ ts. placed (start_of (length s) ts) (parse_tokens st ts)) in
    let plain = need (is_text s) not_ascii parsed in
    need (leb (length s) text_most) long_text plain
