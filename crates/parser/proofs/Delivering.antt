-- From what is read to what the public call answers and leaves. Assumes nothing.
use mathlib.Core.Path.{◌≡◌, refl, sym, ap, subst, ◌∙◌}
use mathlib.Core.Bool.{Bool, true, false, ◌&&◌}
use Prim.Native.Nat.{ℕ, zero, suc, ◌-◌, ◌≤◌, ◌<◌}
use mathlib.Core.List.{List, [], ◌∷◌, ◌++◌}
use native.Mathlib.Decide.{dec_lt}
use native.Mathlib.Omega.{arith}
use lib.Dec.{leb}
use lib.ListN.{length, take, drop, get_or, replicate, get_or-eq_default}
use borrow.Author.Tests.{le-leb, lt-leb, leb-true}
use Rattle.rules.specs.Numbers.{text_most, Refusal, number, fault_number, place_of, faulty, Read, got, refused, need, on_read, and_then, placed, long_text, not_ascii, bad_setup, unexpected_token, long_answer, field_most, selection_bytes}
use Rattle.rules.specs.Bytes.{is_text, is_field, all}
use Rattle.rules.specs.Query.{Query, match_none, Clauses, none}
use Rattle.rules.specs.Stored.{encode}
use Rattle.rules.specs.Lexing.{Token, end_kind, lex}
use Rattle.rules.specs.Setup.{FieldEntry, is_analyzer, is_field_entry, Setup, is_setup, entries_in, setup_with, read_setup}
use Rattle.rules.specs.Parsing.{Made, nothing, made, Kept, token_of, start_of, is_at, query_found, query_of, or_match_none, whole_query, parse_clauses, parse_tokens, parse}
use Rattle.rules.specs.Answers.{stored_reply, fitting, leave_at, call_at, parse_reply, parse_left}
use Rattle.rules.proofs.Bools.{clash, both, and_l, and_r}
use Rattle.rules.proofs.Stored.Sizes.{length_match_none}
use Rattle.rules.proofs.Text.Tokenizing.{Standing, lex_few, lex_standing}
use Rattle.numbers.specs.Laid.{Put, header}
use Rattle.numbers.proofs.Laying.{laid_front}
use Rattle.row.specs.Row.{room_least, tokens_of}
use Rattle.std.specs.Prelude.{Result, Ok, Err}
use Rattle.rules.specs.Numbers as rules
use Rattle.names.specs.Refusals.{coded, coded_fault, numbered, located, answered_at}
use Rattle.names.specs.declared.refusal.Fault.{Fault as Met}
use Rattle.lexer.specs.Lexing.{Row}
use Rattle.counted.specs.Kinds.{is_alone, made_bytes, made_length, Sums}
use Rattle.clauses.specs.Measured.{place_at, Spaced, Rowed, Tuned, MeansKept, MeantClauses}
use Rattle.clauses.specs.Written.{QueryToWrite}
use Rattle.parser.specs.Parsed.{answer_of, left_of, told, fit, Delivers, Parses}
use Rattle.names.specs.declared.refusal.Refusal.{Refusal as code-refusal}
use Rattle.names.specs.declared.refusal.Refusal.TheVariants as code
use Rattle.counted.specs.declared.Counted.{Counted}
use Rattle.counted.proofs.Deciding.{made_some}
use Rattle.row.proofs.Rows.{length_tokens, token_none}
use Rattle.clauses.proofs.Rows.{place_most_lem}
use Rattle.names.proofs.Refusals.{numbered_coded}

-- ---- the whole answer

reply_fit : (X : Read Query) (n : ℕ) → and_then (on_read stored_reply X) (fitting n) ≡ on_read stored_reply (and_then X (fit n))
reply_fit (refused x) n = refl
reply_fit (got q) n = by (leb (length (encode q)) n)
  where
    by : (b : Bool) → need b long_answer (got (stored_reply q)) ≡ on_read stored_reply (need b long_answer (got q))
    by true = refl
    by false = refl

left_is : (X : Read Query) (out room out' room' : List ℕ) (p : Result ℕ Met) → Delivers X out p out' → room' ≡ replicate (length room) 0
    → left_of p out' room' ≡ leave_at (and_then (on_read stored_reply X) (fitting (length out))) out room
left_is X out room out' room' (Err e) (x, d, w, o, b) z = rw (reply_fit X (length out), d, w, numbered_coded x, o, z)
left_is X out room out' room' (Ok n) (q, d, m, o, b) z = rw (reply_fit X (length out), d, o, z, m)

answer_is : (X : Read Query) (out out' : List ℕ) (p : Result ℕ Met) → Delivers X out p out' → p ≡ told (and_then (on_read stored_reply X) (fitting (length out)))
answer_is X out out' (Err e) (x, d, w, o, b) = rw (reply_fit X (length out), d, w)
answer_is X out out' (Ok n) (q, d, m, o, b) = rw (reply_fit X (length out), d, m)

delivers_short : (X : Read Query) (out out' : List ℕ) (p : Result ℕ Met) → Delivers X out p out' → (answer_of p).written ≤ selection_bytes
delivers_short X out out' (Err e) D = omega arith
delivers_short X out out' (Ok n) (q, d, m, o, b) = b

delivers_near : (X : Read Query) (out out' : List ℕ) (p : Result ℕ Met) → Delivers X out p out' → (answer_of p).place ≤ text_most
delivers_near X out out' (Err e) (x, d, w, o, b) = b
delivers_near X out out' (Ok n) D = omega arith

module _ (o a : ℕ) (f es text out room : List ℕ) where
  pub parse_short : length room < 5120 → (room' : List ℕ) → room' ≡ replicate (length room) 0 → Parses o a f es text out room out room' (Err (record { refusal = code.ShortRoom; place = 0 }))
  unfolding parse_left call_at
  parse_short h room' z = record { answer = rw (lt-leb 5120 (length room) h); is = rw (lt-leb 5120 (length room) h, z); short = omega arith; near = omega arith }

  pub parse_whole : 5120 ≤ length room → (p : Result ℕ Met) (out' room' : List ℕ) → Delivers (and_then (read_setup o a f es) (λ st. parse st text)) out p out'
      → room' ≡ replicate (length room) 0 → Parses o a f es text out room out' room' p
  unfolding parse_left call_at parse_reply
  parse_whole h p out' room' D z = record {
    answer = rw (le-leb 5120 (length room) h) (answer_is (and_then (read_setup o a f es) (λ st. parse st text)) out out' p D);
    is = rw (le-leb 5120 (length room) h) (left_is (and_then (read_setup o a f es) (λ st. parse st text)) out room out' room' p D z);
    short = delivers_short (and_then (read_setup o a f es) (λ st. parse st text)) out out' p D;
    near = delivers_near (and_then (read_setup o a f es) (λ st. parse st text)) out out' p D;
  }

-- ---- refusals

pub refuses : {X : Read Query} (out : List ℕ) {e : Met} {x : Refusal} → X ≡ refused x → e ≡ located x → e.place ≤ text_most → Delivers X out (Err e) out
refuses out {x = x} d w b = (x, rw d, w, refl, b)

pub delivers_as : {X Y : Read Query} (out out' : List ℕ) (p : Result ℕ Met) → X ≡ Y → Delivers Y out p out' → Delivers X out p out'
delivers_as out out' p e D = subst (λ (Z : Read Query). Delivers Z out p out') (sym e) D

met_as : {a b : code-refusal} {p q : ℕ} → a ≡ b → p ≡ q → ◌≡◌ {A = Met} (record { refusal = a; place = p }) (record { refusal = b; place = q })
met_as e d = rw (e, d)

-- ---- the setup

module _ (o a : ℕ) (f es : List ℕ) (k : Setup → Read Query) where
  pub setup_refused : read_setup o a f es ≡ refused bad_setup → and_then (read_setup o a f es) k ≡ refused bad_setup
  setup_refused e = rw e

module _ (o a : ℕ) (f es : List ℕ) (entries : List FieldEntry) (e : entries_in (length es) es ≡ got entries) where
  abbrev pub the_setup : Setup
  the_setup = record { operator = o; analyzer = a; field = f; entries = entries }

  pub setup_plain : (leb o 1 && (is_analyzer a && is_field f)) ≡ false → read_setup o a f es ≡ refused bad_setup
  unfolding read_setup setup_with is_setup
  setup_plain h = rw e (rw (no_three (leb o 1) (is_analyzer a) (is_field f) (leb (length entries) 8 && all is_field_entry entries) h))
    where
      no_three : (a b c d : Bool) → (a && (b && c)) ≡ false → (a && (b && (c && d))) ≡ false
      no_three true true true d h = clash refl h
      no_three true true false d h = refl
      no_three true false c d h = refl
      no_three false b c d h = refl

  pub setup_got : (leb o 1 && (is_analyzer a && is_field f)) ≡ true → all is_field_entry entries ≡ true → length entries ≤ 8 → read_setup o a f es ≡ got the_setup
  unfolding read_setup setup_with is_setup
  setup_got h g l = rw e (rw (yes_three (leb o 1) (is_analyzer a) (is_field f) (leb (length entries) 8 && all is_field_entry entries) h (both (le-leb (length entries) 8 l) g)))
    where
      yes_three : (a b c d : Bool) → (a && (b && c)) ≡ true → d ≡ true → (a && (b && (c && d))) ≡ true
      yes_three true true true d h k = k
      yes_three true true false d h k = clash h refl
      yes_three true false c d h k = clash h refl
      yes_three false b c d h k = clash h refl

pub plain_analyzer : (o a : ℕ) (f : List ℕ) → (leb o 1 && (is_analyzer a && is_field f)) ≡ true → is_analyzer a ≡ true
plain_analyzer o a f h = and_l (is_analyzer a) (is_field f) (and_r (leb o 1) (is_analyzer a && is_field f) h)

pub plain_field : (o a : ℕ) (f : List ℕ) → (leb o 1 && (is_analyzer a && is_field f)) ≡ true → length f ≤ field_most
plain_field o a f h = by (leb o 1) (is_analyzer a) (leb (length f) field_most) (is_text f) refl h
  where
    by : (x y z w : Bool) → leb (length f) field_most ≡ z → (x && (y && (z && w))) ≡ true → length f ≤ field_most
    by true true true w e h = leb-true (length f) field_most e
    by true true false w e h = clash h refl
    by true false z w e h = clash h refl
    by false y z w e h = clash h refl

-- ---- the text

module _ (st : Setup) (text : List ℕ) where
  pub text_long : 1024 < length text → parse st text ≡ refused long_text
  unfolding parse
  text_long h = rw (lt-leb (length text) 1024 h)

  module _ (h : length text ≤ 1024) where
    pub text_other : is_text text ≡ false → parse st text ≡ refused not_ascii
    unfolding parse
    text_other e = rw (le-leb (length text) 1024 h, e)

    module _ (e : is_text text ≡ true) where
      pub text_fault : {x : Refusal} → lex text ≡ refused x → parse st text ≡ refused x
      unfolding parse
      text_fault l = rw (le-leb (length text) 1024 h, e, l)

      pub text_tokens : {ts : List Token} → lex text ≡ got ts → parse st text ≡ placed (start_of (length text) ts) (parse_tokens st ts)
      unfolding parse
      text_tokens l = rw (le-leb (length text) 1024 h, e, l)

-- ---- the row that the lexer left

get_d_any : (ts : List Token) (i : ℕ) (d e : Token) → i < length ts → get_or ts i d ≡ get_or ts i e
get_d_any [] i d e h = absurd (omega arith)
get_d_any (t ∷ ts) zero d e h = refl
get_d_any (t ∷ ts) (suc i) d e h = get_d_any ts i d e (omega arith)

place_any : (m : ℕ) (ts : List Token) (i : ℕ) → i < length ts → place_at ts i ≡ start_of m ts i
place_any m ts i h = ap (λ (t : Token). t.place) (get_d_any ts i _ _ h)

spaced_of : {m : ℕ} {ts : List Token} {i : ℕ} → m ≤ 1024 → i < length ts → Standing m ts i → Spaced ts i
spaced_of {m} {ts} {i} h l S = by (dec_lt (suc i) (length ts))
  where
    here : place_at ts i ≡ (token_of ts i).place
    here = ap (λ (t : Token). t.place) (get_d_any ts i _ _ l)

    by : Dec (suc i < length ts) → Spaced ts i
    by (yes k) =
        let e : place_at ts (suc i) ≡ start_of m ts (suc i) = place_any m ts (suc i) k in
        record { onward = omega (arith, here, S.before_next); within = omega (arith, here, S.text_within); most = omega (arith, S.within) }
    by (no k) =
        let e : place_at ts (suc i) ≡ 1024 = ap (λ (t : Token). t.place) (get_or-eq_default ts _ (omega arith)) in
        record { onward = omega (arith, here, S.before_next, S.within); within = omega (arith, here, S.text_within, S.within); most = omega arith }

-- a token starts within the text
pub start_most : {room : List ℕ} {n : ℕ} → Rowed room n → (end i : ℕ) → end ≤ text_most → start_of end (tokens_of room n) i ≤ text_most
start_most {room} {n} R end i h = by (dec_lt i n)
  where
    by : Dec (i < n) → start_of end (tokens_of room n) i ≤ text_most
    by (yes l) = rw (← place_any end (tokens_of room n) i (omega (arith, length_tokens room n))) (place_most_lem R i)
    by (no l) = rw (ap (λ (t : Token). t.place) (token_none room n i (record { kind = end_kind; text = []; place = end }) (omega arith))) h

-- the row of a text that was lexed
pub row_of : (text room : List ℕ) (n : ℕ) {ts : List Token} → length text ≤ 1024 → room_least ≤ length room → lex text ≡ got ts → n ≡ length ts → Row (got ts) room → Rowed room n
row_of text room n {ts} h l e k W =
    let same : tokens_of room n ≡ ts = ap (tokens_of room) k ∙ W.0 in
    record {
      least = l;
      few = omega (arith, lex_few text e);
      laid = λ i m. W.1 i (omega arith);
      spaced = λ i m. subst (λ (us : List Token). Spaced us i) (sym same) (spaced_of h (omega arith) (lex_standing text e i (omega arith)));
      worded = λ i m. W.2 i (omega arith);
    }

-- ---- a query that fits, and one that does not

pub fits_not : (out : List ℕ) (q : Query) → length out < length (encode q) → Delivers (got q) out (Err (record { refusal = code.LongAnswer; place = 0 })) out
fits_not out q h = (long_answer, rw (lt-leb (length (encode q)) (length out) h), refl, refl, omega arith)

pub fits : (out out' : List ℕ) (q : Query) (n : ℕ) → n ≡ length (encode q) → n ≤ length out → out' ≡ encode q ++ drop n out → n ≤ 65000 → Delivers (got q) out (Ok n) out'
fits out out' q n e h o m = (q, rw (le-leb (length (encode q)) (length out) (omega arith)), e, o, omega arith)

none_made : (m : Made) → 0 ≡ made_length m → m ≡ nothing
none_made nothing e = refl
none_made (made q) e = absurd (made_some q e)

some_made : (m : Made) (n : ℕ) → n ≡ made_length m → (n ≡ 0 → ⊥) → (q : Query) × (m ≡ made q)
some_made nothing n e h = absurd (h e)
some_made (made q) n e h = (q, refl)

module _ (cs : Clauses) (len : ℕ) (e : len ≡ made_length (query_of cs)) (out : List ℕ) where
  pub none_short : len ≡ 0 → length out < 3 → Delivers (got (or_match_none (query_of cs))) out (Err (record { refusal = code.LongAnswer; place = 0 })) out
  none_short z h = rw (none_made (query_of cs) (sym z ∙ e)) (fits_not out match_none (omega (arith, length_match_none)))

  pub none_fits : len ≡ 0 → 3 ≤ length out → {r : ℕ} {out' : List ℕ} → Put out 0 (header 7 0) r out' → Delivers (got (or_match_none (query_of cs))) out (Ok 3) out'
  unfolding encode
  none_fits z h {out' = out'} P = rw (none_made (query_of cs) (sym z ∙ e)) (fits out out' match_none 3 refl h (P.bytes ∙ laid_front out (header 7 0)) (omega arith))

  pub some_short : (len ≡ 0 → ⊥) → length out < len → Delivers (got (or_match_none (query_of cs))) out (Err (record { refusal = code.LongAnswer; place = 0 })) out
  some_short z h = let q = some_made (query_of cs) len e z in rw q.1 (fits_not out q.0 (omega (arith, e ∙ ap made_length q.1)))

  pub some_fits : (len ≡ 0 → ⊥) → len ≤ length out → len ≤ 65000 → (ys : List ℕ) → ys ≡ made_bytes (query_of cs)
      → Delivers (got (or_match_none (query_of cs))) out (Ok len) (take 0 out ++ (ys ++ drop (len - 0) (drop 0 out)))
  some_fits z h b ys y =
      let q = some_made (query_of cs) len e z in
      let l : len ≡ length (encode q.0) = e ∙ ap made_length q.1 in
      let w : ys ≡ encode q.0 = y ∙ ap made_bytes q.1 in
      let m : len - 0 ≡ len = omega arith in
      rw q.1 (fits out _ q.0 len l h (ap (λ (y : List ℕ). y ++ drop (len - 0) out) w ∙ ap (λ (k : ℕ). encode q.0 ++ drop k out) m) b)

-- ---- the tokens

module _ (st : Setup) (room : List ℕ) (n : ℕ) (f : List ℕ) (ef : st.field ≡ f) {g : Result Counted Met} (M : MeantClauses st (tokens_of room n) n f 0 0 g) where
  tokens_run : parse_tokens st (tokens_of room n) ≡ and_then (on_read query_found M.answer) (whole_query (tokens_of room n))
  unfolding parse_tokens
  tokens_run =
      ap (λ (h : List ℕ). and_then (on_read query_found (parse_clauses st (tokens_of room n) (suc (length (tokens_of room n))) h 0 none 0)) (whole_query (tokens_of room n))) ef
      ∙ ap (λ (o : Read Kept). and_then (on_read query_found o) (whole_query (tokens_of room n))) (M.says (suc (length (tokens_of room n))) (omega (arith, length_tokens room n)))

  means_as : {g' : Result Counted Met} → g ≡ g' → MeansKept g' M.answer
  means_as e = subst (λ (x : Result Counted Met). MeansKept x M.answer) e M.means

  answered : {r : Read Kept} → M.answer ≡ r → parse_tokens st (tokens_of room n) ≡ and_then (on_read query_found r) (whole_query (tokens_of room n))
  answered e = tokens_run ∙ ap (λ (o : Read Kept). and_then (on_read query_found o) (whole_query (tokens_of room n))) e

  -- a fault stands where its token starts
  module _ (end : ℕ) where
    abbrev pub placed_tokens : Read Query
    placed_tokens = placed (start_of end (tokens_of room n)) (parse_tokens st (tokens_of room n))

    placed_as : {r : Read Query} → parse_tokens st (tokens_of room n) ≡ r → placed_tokens ≡ placed (start_of end (tokens_of room n)) r
    placed_as e = ap (placed (start_of end (tokens_of room n))) e

    pub tokens_fault : {e : Met} → g ≡ Err e → (p : ℕ) → p ≡ start_of end (tokens_of room n) e.place → p ≤ text_most → (out : List ℕ)
        → Delivers placed_tokens out (Err (record { refusal = e.refusal; place = p })) out
    tokens_fault {e} d p w b out =
        let z = means_as d in
        refuses out {x = faulty z.0 (start_of end (tokens_of room n) e.place)} (placed_as (answered z.1)) (met_as z.2 w) b

    pub tokens_more : {c : Counted} → g ≡ Ok c → is_at 0 (tokens_of room n) c.next ≡ false
        → (p : ℕ) → p ≡ start_of end (tokens_of room n) c.next → p ≤ text_most → (out : List ℕ)
        → Delivers placed_tokens out (Err (record { refusal = code.UnexpectedToken; place = p })) out
    unfolding whole_query
    tokens_more {c} e b p w l out =
        let z = means_as e in
        refuses out {x = faulty unexpected_token (start_of end (tokens_of room n) c.next)} (placed_as {r = refused (faulty unexpected_token c.next)} (answered z.1 ∙ rw b)) (rw w) l

  module _ {c : Counted} (e : g ≡ Ok c) where
    pub tokens_kept : Clauses
    tokens_kept = (means_as e).0

    pub tokens_end : (end : ℕ) → is_at 0 (tokens_of room n) c.next ≡ true → placed_tokens end ≡ got (or_match_none (query_of tokens_kept))
    unfolding whole_query tokens_kept
    tokens_end end b = let z = means_as e in placed_as end {r = got (or_match_none (query_of z.0))} (answered z.1 ∙ rw b)

    pub tokens_write : {default : List ℕ} {operator analyzer : ℕ} → f ≡ default → Tuned st operator room n default 0 analyzer
        → {alone : Bool} {len : ℕ} → ((cs : Clauses) (b : ℕ) → Sums cs c.sum.count c.sum.tag b → alone ≡ is_alone cs) → ((cs : Clauses) → Sums cs c.sum.count c.sum.tag c.sum.bytes → len ≡ made_length (query_of cs))
        → QueryToWrite room n default operator 0 analyzer 0 0 alone len st tokens_kept c.next
    unfolding tokens_kept
    tokens_write {default} d T a l =
        let z = means_as e in
        record {
          tuned = T;
          is = (suc (n - 0), λ k h. ap (λ (x : List ℕ). parse_clauses st (tokens_of room n) k x 0 none 0) (sym d) ∙ M.says k h ∙ z.1);
          alone_is = a z.0 c.sum.bytes z.2;
          fills = l z.0 z.2;
        }

-- ---- what the lexer answered

pub lexed_refused : (o : Read (List Token)) (e : Met) → Err e ≡ answered_at length o → (x : Refusal) × (o ≡ refused x) × (e ≡ located x)
lexed_refused (refused x) e h = (x, refl, cc)
lexed_refused (got ts) e h = absurd (never (length ts) e h)
  where
    never : (n : ℕ) (e : Met) → ◌≡◌ {A = Result ℕ Met} (Err e) (Ok n) → ⊥
    never n e h = cc

pub lexed_tokens : (o : Read (List Token)) (n : ℕ) → Ok n ≡ answered_at length o → (ts : List Token) × (o ≡ got ts) × (n ≡ length ts)
lexed_tokens (got ts) n h = (ts, refl, cc)
lexed_tokens (refused x) n h = absurd (never n (located x) h)
  where
    never : (n : ℕ) (e : Met) → ◌≡◌ {A = Result ℕ Met} (Ok n) (Err e) → ⊥
    never n e h = cc
