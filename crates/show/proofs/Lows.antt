-- Parsing refuses with no number above 17: an answer's length and a stored query are not its matter. And reading a stored query, at no place.
use mathlib.Core.Path.{◌≡◌, refl, sym}
use mathlib.Core.Logic.{⊎_elim}
use Prim.Native.Nat.{ℕ, zero, suc, ◌+◌, ◌-◌, ◌<◌}
use mathlib.Core.List.{List, [], ◌∷◌}
use mathlib.Core.Bool.{Bool, true, false, not, ◌&&◌, cond}
use native.Mathlib.Omega.{arith}
use lib.ListN.{length, drop}
use lib.Dec.{leb, ltb, eqb}
use Rattle.rules.specs.Numbers.{Refusal, number, place_of, moved, faulty, Read, got, refused, need, on_read, and_then, placed, long_text, not_ascii, bad_setup, long_answer, long_query, malformed_query, deep_query, long_list, malformed_list, many_queries, short_room, open_quote, nothing_escaped, range_bracket, wildcard, unexpected_end, bad_numeral, simple_analyzer, fuzzy_term, sloppy_phrase, unexpected_token, open_bracket, no_numeral, long_field, many_brackets, long_numeral, numeral_most, text_most, field_most, brackets_most}
use Rattle.rules.specs.Bytes.{ascii, same, is_empty, is_text}
use Rattle.rules.specs.Query.{boost, Clauses, none}
use Rattle.rules.specs.Lexing.{Token, start_in, Piece, piece, Lexed, lexed, is_quote, is_backslash, is_wildcard, is_bracket, sign_kind, doubled, end_kind, term_kind, quoted_kind, colon_kind, open_kind, close_kind, caret_kind, tilde_kind, on_text, quoted_end, term_text, quoted_text, before, term_end, term_from, quoted_from, token_at, token_then, tokens_step, tokens_in, lex}
use Rattle.rules.specs.Numerals.{Numeral, bad, infinite, not_number, decimal, is_minus, unsigned, after_sign, bits_of, numeral_bits}
use Rattle.rules.specs.Setup.{Setup, is_setup, read_setup, setup_with, entries_in}
use Rattle.rules.specs.Parsing.{Made, nothing, made, Found, found, Kept, Conjunction, Modifier, text_at, start_of, query_found, is_at, on_made, stops_at, conjunction_at, after_conjunction, modifier_at, after_modifier, boost_at, plain_at, quoted_at, closed_at, bracket_at, body_at, clause_at, add_clause, parse_clauses, whole_query, parse_tokens, parse}
use Rattle.rules.specs.Analysis.{is_space, ends_term, front, after}
use Rattle.rules.specs.Reading.{decode, read_within}
use Rattle.rules.proofs.Stored.Refusals.{no_got}
use Rattle.rules.proofs.Stored.Faults.{decode_refused}
use Rattle.rules.specs.Show.{in_word, operator_in, show_setup, first_line, second_line}
use Rattle.show.specs.Lines.{written_in}

pub data Low {A : Type 0} : Read A → Type 0 where
  low_got : {a : A} → Low (got a)
  low_refused : (r : Refusal) → number r < 18 → Low (refused r)

module _ {A : Type 0} where
  low_need : (b : Bool) (r : Refusal) {o : Read A} → number r < 18 → Low o → Low (need b r o)
  low_need true r h l = l
  low_need false r h l = low_refused r h

  low_cond : (b : Bool) {o p : Read A} → Low o → Low p → Low (cond b o p)
  low_cond true l m = l
  low_cond false l m = m

module _ {A B : Type 0} where
  low_on : (f : A → B) {o : Read A} → Low o → Low (on_read f o)
  low_on f low_got = low_got
  low_on f (low_refused r h) = low_refused r h

  low_then : (f : A → Read B) {o : Read A} → Low o → ((a : A) → Low (f a)) → Low (and_then o f)
  low_then f (low_got {a}) m = m a
  low_then f (low_refused r h) m = low_refused r h

moved_number : (g : ℕ → ℕ) (r : Refusal) → number (moved g r) ≡ number r
moved_number g long_text = refl
moved_number g not_ascii = refl
moved_number g bad_setup = refl
moved_number g (faulty f p) = refl
moved_number g long_answer = refl
moved_number g long_query = refl
moved_number g malformed_query = refl
moved_number g deep_query = refl
moved_number g long_list = refl
moved_number g malformed_list = refl
moved_number g many_queries = refl
moved_number g short_room = refl

low_placed : {A : Type 0} (g : ℕ → ℕ) {o : Read A} → Low o → Low (placed g o)
low_placed g low_got = low_got
low_placed g (low_refused r h) = low_refused (moved g r) (rw (moved_number g r) h)

low_is : {A : Type 0} {o : Read A} → Low o → (r : Refusal) → o ≡ refused r → number r < 18
low_is low_got r e = no_got (sym e)
low_is (low_refused s h) r e = let z : s ≡ r = cc in rw (← z) h

-- ---- lexing

term_low : (n : ℕ) (s : List ℕ) → Low (term_text n s)
unfolding term_text before
term_low n [] = low_got
term_low n (c ∷ []) = low_cond (ends_term c) low_got (low_cond (is_backslash c) (low_refused (faulty nothing_escaped (start_in n (c ∷ []))) (omega arith)) low_got)
term_low n (c ∷ d ∷ s) = low_cond (ends_term c) low_got (low_cond (is_backslash c) (low_on (on_text d) (term_low n s)) (low_on (on_text c) (term_low n (d ∷ s))))

quote_low : (n p : ℕ) (s : List ℕ) → Low (quoted_text n p s)
unfolding quoted_text before
quote_low n p [] = low_refused (faulty open_quote p) (omega arith)
quote_low n p (c ∷ []) = low_cond (is_quote c) low_got (low_cond (is_backslash c) (low_refused (faulty nothing_escaped (start_in n (c ∷ []))) (omega arith)) (low_refused (faulty open_quote p) (omega arith)))
quote_low n p (c ∷ d ∷ s) = low_cond (is_quote c) low_got (low_cond (is_backslash c) (low_on (on_text d) (quote_low n p s)) (low_on (on_text c) (quote_low n p (d ∷ s))))

end_low : (n : ℕ) (p : Piece) → Low (term_end n p)
unfolding term_end
end_low n (piece t []) = low_got
end_low n (piece t (c ∷ s)) = low_need (not (is_wildcard c)) (faulty wildcard (start_in n (c ∷ s))) (omega arith) low_got

token_low : (n c : ℕ) (s : List ℕ) → Low (token_at n c s)
unfolding token_at term_from quoted_from
token_low n c s =
    low_cond (not (eqb (sign_kind c) end_kind)) low_got
    (low_cond (doubled 0x26 c s) low_got
    (low_cond (doubled 0x7c c s) low_got
    (low_cond (is_quote c) (low_on quoted_end (quote_low n (start_in n (c ∷ s)) s))
    (low_cond (is_bracket c) (low_refused (faulty range_bracket (start_in n (c ∷ s))) (omega arith))
    (low_cond (is_wildcard c) (low_refused (faulty wildcard (start_in n (c ∷ s))) (omega arith)) (low_then (term_end n) (term_low n (c ∷ s)) (end_low n)))))))

module _ (n : ℕ) (more : List ℕ → Read (List Token)) (l : (t : List ℕ) → Low (more t)) where
  then_low : (x : Lexed) → Low (token_then n more x)
  unfolding token_then
  then_low (lexed k t s) = low_on (λ ts. record { kind = k; text = t; place = n } ∷ ts) (l s)

step_low : (n : ℕ) (more : List ℕ → Read (List Token)) → ((t : List ℕ) → Low (more t)) → (s : List ℕ) → Low (tokens_step n more s)
unfolding tokens_step
step_low n more l [] = low_got
step_low n more l (c ∷ s) = low_cond (is_space c) (l s) (low_then (token_then (n - length (c ∷ s)) more) (token_low n c s) (then_low (n - length (c ∷ s)) more l))

tokens_low : (n k : ℕ) (s : List ℕ) → Low (tokens_in n k s)
unfolding tokens_in
tokens_low n zero s = low_got
tokens_low n (suc k) s = step_low n (λ t. tokens_in n k t) (λ t. tokens_low n k t) s

lex_low : (s : List ℕ) → Low (lex s)
unfolding lex
lex_low s = tokens_low (length s) (length s) s

-- ---- parsing

bits_low : (minus : Bool) (x : Numeral) → Low (bits_of minus x)
bits_low minus bad = low_refused (faulty bad_numeral 0) (omega arith)
bits_low minus infinite = low_got
bits_low minus not_number = low_got
bits_low minus (decimal d u n) = low_got

numeral_low : (s : List ℕ) → Low (numeral_bits s)
unfolding numeral_bits
numeral_low s = low_need (leb (length s) numeral_most) (faulty long_numeral 0) (omega arith) (bits_low (is_minus s) (unsigned (after_sign s)))

module _ (st : Setup) (ts : List Token) where
  boost_low : (m : Made) (i : ℕ) → Low (boost_at st ts m i)
  unfolding boost_at
  boost_low m i =
      low_cond (is_at caret_kind ts i)
      (low_need (is_at term_kind ts (i + 1)) (faulty no_numeral (i + 1)) (omega arith) (low_on (λ b. found (on_made (boost b) m) (i + 2)) (low_placed (λ p. i + 1) (numeral_low (text_at ts (i + 1)))))) low_got

  plain_low : (f : List ℕ) (i : ℕ) → Low (plain_at st ts f i)
  unfolding plain_at
  plain_low f i = low_need (not (is_at tilde_kind ts (i + 1))) (faulty fuzzy_term (i + 1)) (omega arith) (boost_low _ (i + 1))

  quoted_low : (f : List ℕ) (i : ℕ) → Low (quoted_at st ts f i)
  unfolding quoted_at
  quoted_low f i = low_need (not (is_at tilde_kind ts (i + 1))) (faulty sloppy_phrase (i + 1)) (omega arith) (boost_low _ (i + 1))

  closed_low : (x : Found) → Low (closed_at st ts x)
  unfolding closed_at
  closed_low (found m j) = low_need (is_at close_kind ts j) (faulty open_bracket j) (omega arith) (boost_low m (j + 1))

  module _ (sub : List ℕ → ℕ → ℕ → Read Found) (l : (f : List ℕ) (d i : ℕ) → Low (sub f d i)) where
    bracket_low : (f : List ℕ) (d i : ℕ) → Low (bracket_at st ts sub f d i)
    unfolding bracket_at
    bracket_low f d i = low_need (ltb d brackets_most) (faulty many_brackets i) (omega arith) (low_then (closed_at st ts) (l f (suc d) (i + 1)) closed_low)

    body_low : (f : List ℕ) (d i : ℕ) → Low (body_at st ts sub f d i)
    unfolding body_at
    body_low f d i =
        low_cond (is_at term_kind ts i) (plain_low f i)
        (low_cond (is_at open_kind ts i) (bracket_low f d i)
        (low_cond (is_at quoted_kind ts i) (quoted_low f i) (low_cond (is_at end_kind ts i) (low_refused (faulty unexpected_end i) (omega arith)) (low_refused (faulty unexpected_token i) (omega arith)))))

    clause_low : (f : List ℕ) (d i : ℕ) → Low (clause_at st ts sub f d i)
    unfolding clause_at
    clause_low f d i =
        low_cond (is_at term_kind ts i && is_at colon_kind ts (i + 1))
        (low_need (leb (length (text_at ts i)) field_most) (faulty long_field i) (omega arith) (body_low (text_at ts i) d (i + 2))) (body_low f d i)

add_low : (o : ℕ) (c : Conjunction) (m : Modifier) (more : Clauses → ℕ → Read Kept) → ((ds : Clauses) (h : ℕ) → Low (more ds h)) → (cs : Clauses) (x : Found)
    → Low (add_clause o c m more cs x)
unfolding add_clause
add_low o c m more l cs (found nothing j) = l _ j
add_low o c m more l cs (found (made q) j) = l _ j

clauses_low : (st : Setup) (ts : List Token) (n : ℕ) (f : List ℕ) (d : ℕ) (cs : Clauses) (i : ℕ) → Low (parse_clauses st ts n f d cs i)
unfolding parse_clauses
clauses_low st ts zero f d cs i = low_refused (faulty unexpected_end i) (omega arith)
clauses_low st ts (suc n) f d cs i =
    let c = conjunction_at cs ts i in
    let j = after_conjunction c i in
    let m = modifier_at ts j in
    low_cond (stops_at ts i) low_got
    (low_then (add_clause st.operator c m (λ ds h. parse_clauses st ts n f d ds h) cs)
    (clause_low st ts (λ g e h. on_read query_found (parse_clauses st ts n g e none h)) (λ g e h. low_on query_found (clauses_low st ts n g e none h)) f d (after_modifier m j))
    (add_low st.operator c m (λ ds h. parse_clauses st ts n f d ds h) (λ ds h. clauses_low st ts n f d ds h) cs))

whole_low : (ts : List Token) (x : Found) → Low (whole_query ts x)
unfolding whole_query
whole_low ts (found m j) = low_need (is_at end_kind ts j) (faulty unexpected_token j) (omega arith) low_got

parse_low : (st : Setup) (s : List ℕ) → Low (parse st s)
unfolding parse parse_tokens
parse_low st s =
    low_need (leb (length s) text_most) long_text (omega arith)
    (low_need (is_text s) not_ascii (omega arith)
    (low_then (λ ts. placed (start_of (length s) ts) (parse_tokens st ts)) (lex_low s)
    (λ ts. low_placed (start_of (length s) ts) (low_then (whole_query ts) (low_on query_found (clauses_low st ts (suc (length ts)) st.field 0 none 0)) (whole_low ts)))))

-- ---- the setup

setup_low : (s : List ℕ) → Low (show_setup s)
unfolding show_setup operator_in read_setup entries_in setup_with
setup_low s =
    low_need (not (is_empty (after in_word s))) bad_setup (omega arith)
    (low_then (λ o. read_setup o simple_analyzer (drop 1 (after in_word s)) []) (low_cond (same (front in_word s) (ascii "or")) (low_got {a = 0}) (low_cond (same (front in_word s) (ascii "and")) (low_got {a = 1}) (low_refused bad_setup (omega arith))))
    (λ o. low_need (is_setup (record { operator = o; analyzer = simple_analyzer; field = drop 1 (after in_word s); entries = [] })) bad_setup (omega arith) low_got))

pub written_low : (s : List ℕ) (r : Refusal) → written_in s ≡ refused r → number r < 18
unfolding written_in
written_low s r e = low_is (low_then (λ st. parse st (second_line s)) (setup_low (first_line s)) (λ st. parse_low st (second_line s))) r e

-- reading a stored query refuses at no place
pub read_nowhere : (most d : ℕ) (s : List ℕ) (r : Refusal) → read_within most d s ≡ refused r → place_of r ≡ 0
read_nowhere most d s r = by (leb (length s) most)
  where
    by : (b : Bool) → need b long_query (decode d s) ≡ refused r → place_of r ≡ 0
    by false e = let z : long_query ≡ r = cc in rw (← z)
    by true e = ⊎_elim (λ z. rw z) (λ z. rw z) (decode_refused d s r e)
