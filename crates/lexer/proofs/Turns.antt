-- The whole text, a turn at a time: the tokens in the row, and what is still to be read. And what a caller learns of the answer.
use mathlib.Core.Path.{◌≡◌, refl, sym, ap, ◌∙◌}
use Prim.Native.Nat.{ℕ, zero, suc, ◌+◌, ◌-◌, ◌≤◌, ◌<◌}
use mathlib.Core.List.{List, [], ◌∷◌, ◌++◌, append-nil, append_assoc}
use mathlib.Core.Bool.{true, false}
use native.Mathlib.Omega.{arith}
use native.Mathlib.Nat.{add-zero}
use native.Mathlib.Numerals.{add-one}
use lib.ListN.{length, get_or, take, drop, length-drop, drop_of_length-le}
use lib.Seq.{drop-cons, get_or-drop, length-take-le}
use Rattle.std.proofs.lemmas.List.{take_rest}
use Rattle.std.specs.List.{AllWithin, HoldsAt}
use Rattle.names.specs.declared.refusal.Refusal.{Refusal}
use Rattle.rules.specs.Numbers as rules
use Rattle.rules.specs.Numbers.{faulty, text_most, Read, got, refused, on_read}
use Rattle.rules.specs.Analysis.{is_space}
use Rattle.rules.specs.Lexing.{Token, lex}
use Rattle.rules.specs.Lexing as lexing
use Rattle.rules.proofs.Text.Tokenizing.{tokens_left, lex_left, left_none, left_space, left_refused, left_token, token_shorter, lex_few, lex_standing, Standing}
use Rattle.rules.proofs.Stored.Refusals.{got_same}
use Rattle.analysis.specs.Tokens.{OneWord}
use Rattle.row.specs.Row.{room_least, entry_at, entry, tokens_of, LaidBelow, Laid, word_note, Worded, Kept}
use Rattle.lexer.specs.Tokens.{Makes}
use Rattle.lexer.specs.declared.tokens.Step.{Step}
use Rattle.lexer.specs.Lexing.{Row}
use Rattle.names.specs.Refusals.{answered_at, located}
use Rattle.names.specs.declared.refusal.Fault.{Fault}
use Rattle.std.specs.Prelude.{Result, Ok, Err}
use Rattle.row.proofs.Rows.{length_tokens, read_tokens, read_laid, read_worded, put_tokens, put_laid, put_worded}

-- ---- the loop

-- n tokens stand in the room, and the text is read on at i
pub record Lexing (text room₀ room : List ℕ) (i n : ℕ) : Type 0 where
  pub within : i ≤ length text
  pub few : n ≤ i
  pub as_long : length room ≡ length room₀
  pub laid : LaidBelow i room n
  pub worded : Worded room n
  pub whole : lex text ≡ on_read (λ ts. tokens_of room n ++ ts) (tokens_left (length text) (drop i text))

joined_none : (r : Read (List Token)) → r ≡ on_read (λ ts. [] ++ ts) r
joined_none (got ts) = refl
joined_none (refused f) = refl

joined_more : (us : List Token) (t : Token) (r : Read (List Token))
    → on_read (λ ts. us ++ ts) (on_read (λ ts. t ∷ ts) r) ≡ on_read (λ ts. (us ++ (t ∷ [])) ++ ts) r
joined_more us t (got ts) = ap (λ (l : List Token). got l) (sym (append_assoc us (t ∷ []) ts))
joined_more us t (refused f) = refl

module _ (text : List ℕ) where
  pub lexing_none : (room : List ℕ) → Lexing text room room 0 0
  unfolding tokens_of
  lexing_none room = record {
    within = omega arith;
    few = omega arith;
    as_long = refl;
    laid = λ i h. absurd (omega arith);
    worded = λ i h. absurd (omega arith);
    whole = lex_left text ∙ joined_none (tokens_left (length text) text);
  }

  module _ {room₀ room : List ℕ} {i n : ℕ} (r : Lexing text room₀ room i n) where
    module _ (h : i < length text) where
      here : drop i text ≡ get_or text i 0 ∷ drop (i + 1) text
      here = rw add-one (drop-cons text i 0 h)

      pub lexing_space : is_space (get_or text i 0) ≡ true → Lexing text room₀ room (i + 1) n
      lexing_space s = record {
        within = omega arith;
        few = let f = r.few in omega arith;
        as_long = r.as_long;
        laid = λ j l. let b = r.laid j l in omega arith;
        worded = r.worded;
        whole = r.whole ∙ ap (on_read _) (ap (tokens_left (length text)) here ∙ left_space (length text) (get_or text i 0) (drop (i + 1) text) s);
      }

      -- what is read at i is a token
      module _ (s : is_space (get_or text i 0) ≡ false) (room₁ : List ℕ) where
        pub lexing_refused : (e : Fault) → Makes (Err e) (lexing.token_at (length text) (get_or text i 0) (drop (i + 1) text)) text i room₁
            → length text ≤ text_most → (Err e ≡ answered_at length (lex text)) × Row (lex text) room₁
        lexing_refused e (f, o, j, l) short =
            let t = ap (tokens_left (length text)) here ∙ left_refused (length text) (get_or text i 0) (drop (i + 1) text) s o in
            let w : lex text ≡ refused (faulty f e.place) = r.whole ∙ rw t in
            rw w (ap (λ (x : Refusal). Err (record { refusal = x; place = e.place })) j, omega arith)

        module _ (t : Step) (made : Makes (Ok t) (lexing.token_at (length text) (get_or text i 0) (drop (i + 1) text)) text i room₁) where
          -- it ends behind i, and its text with it
          pub ends_behind : (i < t.next) × (t.next ≤ length text) × (i + t.len ≤ t.next) × (t.note < 8)
          ends_behind =
              let l = token_shorter (length text) (get_or text i 0) (drop (i + 1) text) s made.0 in
              let n = made.1 in
              (omega (arith, simp length-drop at l), n, made.2, made.3.few)

          -- a term that is noted as a word has a byte, since it ends behind i
          is_word_lem : i + t.len ≤ length room₁ → t.note ≡ word_note → OneWord (take t.len (drop i room₁))
          is_word_lem h e =
              let n = made.3 in
              let b = ends_behind.0 in
              let w = (n.spelled e).ended in
              let l : length (take t.len (drop i room₁)) ≡ t.len = length-take-le t.len (drop i room₁) (rw length-drop (omega arith)) in
              record { some = rw l (omega arith); short = rw l (n.short e); letters = (n.spelled e).letters }

          pub lexing_token : length text ≤ text_most → room_least ≤ length room₀ → length room₁ ≡ length room → Kept i room room₁ → (room₂ : List ℕ)
              → length room₂ ≡ length room₁ → room₂ ≡ take (entry_at n) room₁ ++ (entry t.kind t.note i t.len ++ drop (entry_at n + 4) room₁) → Lexing text room₀ room₂ t.next (n + 1)
          lexing_token short long l₁ kept room₂ l₂ e₂ =
              let f = r.few in
              let l = r.as_long in
              let (after, within, behind, few) = ends_behind in
              let kept-laid = read_laid i n room room₁ kept r.laid in
              let most : Laid room₁ n = λ j o. let b = kept-laid j o in omega arith in
              let token : Token = record { kind = t.kind; text = take t.len (drop i room₁); place = i } in
              let place : length text - length (get_or text i 0 ∷ drop (i + 1) text) ≡ i = omega (arith, length-drop (i + 1) text) in
              let rest : tokens_left (length text) (drop i text) ≡ on_read (λ ts. token ∷ ts) (tokens_left (length text) (drop t.next text)) =
              ap (tokens_left (length text)) here ∙ rw place at (left_token (length text) (get_or text i 0) (drop (i + 1) text) s made.0) in
              let tokens = put_tokens t.kind t.note i t.len n room₁ room₂ (omega arith) (omega arith) e₂ (omega arith) (omega arith) most in
              record {
                within = within;
                few = omega arith;
                as_long = l₂ ∙ l₁ ∙ l;
                laid = put_laid t.kind t.note i t.len n room₁ room₂ (omega arith) (omega arith) e₂ (omega arith) (omega arith) i t.next behind (omega arith) kept-laid;
                worded = put_worded t.kind t.note i t.len n room₁ room₂ (omega arith) (omega arith) e₂ (omega arith) (omega arith) most
                    (read_worded i n room room₁ kept r.laid r.worded) (is_word_lem (omega arith));
                whole =
                    r.whole
                    ∙ rw rest (joined_more (tokens_of room n) token (tokens_left (length text) (drop t.next text)) ∙ rw (tokens, read_tokens i n room room₁ kept r.laid));
              }

    pub lexing_over : length text ≤ i → length text ≤ text_most → (Ok n ≡ answered_at length (lex text)) × Row (lex text) room
    lexing_over h short =
        let w : lex text ≡ got (tokens_of room n) =
        r.whole ∙ rw (drop_of_length-le text h, left_none (length text)) (ap (λ (ts : List Token). got ts) (append-nil (tokens_of room n))) in
        let l = r.within in
        rw w (rw length_tokens (refl, (refl, (λ j o. let b = r.laid j o in omega arith), r.worded)))

-- whitespace is passed over
module _ (text : List ℕ) {room₀ room : List ℕ} {n : ℕ} where
  lexing_spaces : {i : ℕ} → Lexing text room₀ room i n → (k : ℕ) → i + k ≤ length text → ((j : ℕ) → j < k → is_space (get_or text (i + j) 0) ≡ true) → Lexing text room₀ room (i + k) n
  lexing_spaces {i} r zero h s = rw add-zero r
  lexing_spaces {i} r (suc k) h s =
      let e : i + suc k ≡ i + k + 1 = omega arith in
      rw e (lexing_space text (lexing_spaces r k (omega arith) (λ j l. s j (omega arith))) (omega arith) (s k (omega arith)))

  module _ {i : ℕ} (r : Lexing text room₀ room i n) where
    abbrev left : List ℕ
    left = take (length text - i) (drop i text)

    left_long : length left ≡ length text - i
    left_long = rw take_rest (length-drop i text)

    left_byte : (k : ℕ) → get_or left k 0 ≡ get_or text (i + k) 0
    left_byte k = rw (take_rest, get_or-drop) refl

    -- a token starts behind k of them
    pub token_starts : (k : ℕ) → (k < length left) × HoldsAt (λ x. is_space x ≡ false) left k × AllWithin (λ x. is_space x ≡ true) left 0 k
        → (i + k < length text) × (is_space (get_or text (i + k) 0) ≡ false) × Lexing text room₀ room (i + k) n
    token_starts k (h, some, none) =
        let w = r.within in
        let l : i + k < length text = omega (arith, left_long) in
        (l, rw (← left_byte k) (some 0), lexing_spaces r k (omega arith) (λ j m. rw (← left_byte j) (none j 0 (omega arith) m)))

    pub none_starts : AllWithin (λ x. is_space x ≡ true) left 0 (length left) → Lexing text room₀ room (length text) n
    none_starts none =
        let w = r.within in
        let e : i + length left ≡ length text = omega (arith, left_long) in
        rw e at (lexing_spaces r (length left) (omega arith) (λ j m. rw (← left_byte j) (none j 0 (omega arith) m)))

-- ---- what a caller learns

ok-err : (n : ℕ) (e : Fault) → ◌≡◌ {A = Result ℕ Fault} (Ok n) (Err e) → ⊥
ok-err n e h = cc

-- that the row is read back whole, from the answer's own count
pub tokens_told : (o : Read (List Token)) (room : List ℕ) (n : ℕ) → Ok n ≡ answered_at length o → Row o room
    → (o ≡ got (tokens_of room n)) × Laid room n × Worded room n
tokens_told (got ts) room n e row =
    let l : length ts ≡ n = cc in
    let k : tokens_of room n ≡ ts = rw l at row.0 in
    (ap (λ (us : List Token). got us) (sym k), rw l at row.1, rw l at row.2)
tokens_told (refused f) room n e row = absurd (ok-err n _ e)

pub refused_told : (o : Read (List Token)) (e : Fault) → Err e ≡ answered_at length o → (f : rules.Refusal) × (o ≡ refused f) × (e ≡ located f)
refused_told (got ts) e h = absurd (ok-err _ e (sym h))
refused_told (refused f) e h = (f, refl, cc)

-- of the row of a text
module _ (text room : List ℕ) (n : ℕ) (e : lex text ≡ got (tokens_of room n)) where
  pub row_few : n ≤ length text
  row_few = omega (arith, lex_few text e, length_tokens room n)

  pub row_standing : (i : ℕ) → i < n → Standing (length text) (tokens_of room n) i
  row_standing i h = lex_standing text e i (omega (arith, length_tokens room n))

-- two rooms that meet the contract for one text hold the same tokens: the contract leaves open only what stands beside them
pub one_row : (o : Read (List Token)) (a b : List ℕ) (n : ℕ) → Ok n ≡ answered_at length o → Row o a → Row o b → tokens_of a n ≡ tokens_of b n
one_row o a b n e p q = got_same (sym (tokens_told o a n e p).0 ∙ (tokens_told o b n e q).0)
