-- One token, by the byte that it begins with: the definition's cases, in the order in which code tests them.
use mathlib.Core.Path.{◌≡◌, refl, sym, subst, ◌∙◌}
use Prim.Native.Nat.{ℕ, zero, suc, ◌+◌, ◌-◌, ◌≤◌, ◌<◌}
use mathlib.Core.List.{List, [], ◌∷◌}
use mathlib.Core.Bool.{Bool, true, false, ◌&&◌, cond}
use native.Mathlib.Omega.{arith}
use native.Mathlib.Decide.{dec_lt}
use native.Mathlib.Nat.{add-zero, add-sub_cancel_left}
use native.Mathlib.Numerals.{add-one}
use lib.ListN.{length, get_or, take, drop, length-drop, get_or-eq_default}
use lib.Seq.{drop-cons, drop-drop, get_or-drop}
use lib.Dec.{leb, eqb}
use borrow.Author.Tests.{eq-eqb, ne_eqb, leb-true}
use Rattle.std.specs.Prelude.{Some, None, Result, Ok, Err}
use Rattle.rules.specs.Numbers.{faulty, range_bracket, wildcard, chunk_most, Read, got, refused}
use Rattle.rules.specs.Numbers as rules
use Rattle.names.specs.Refusals.{coded_fault}
use Rattle.names.specs.declared.refusal.Refusal.{Refusal}
use Rattle.names.specs.declared.refusal.Refusal.TheVariants as code
use Rattle.names.specs.declared.refusal.Fault.{Fault}
use Rattle.rules.specs.Bytes.{ascii, some}
use Rattle.rules.specs.Analysis.{is_letter}
use Rattle.rules.specs.Lexing.{Piece, piece, start_in, Lexed, lexed, term_kind, and_kind, or_kind, is_quote, is_bracket, is_wildcard, term_text, quoted_text, word_kind, word_lexed, term_end, term_from, quoted_from, sign_kind, doubled, token_at}
use Rattle.rules.proofs.Bools.{clash, and_l, and_r, and_no_r}
use Rattle.row.specs.Row.{word_note}
use Rattle.texts.specs.Texts.{Spelled, Reads}
use Rattle.texts.specs.declared.Ended.{Ended}
use Rattle.lexer.specs.Tokens.{Noted, Makes, note_of, double_kind, kind_some, bad_start}
use Rattle.lexer.specs.declared.tokens.Step.{Step}
use Rattle.std.proofs.lemmas.Option.{none-some}
use Rattle.texts.proofs.Flags.{letter_other}

-- ---- a kind, or none

pub kind_told : (x : ℕ) {k : ℕ} → kind_some x ≡ Some k → (k ≡ x) × (x ≡ 0 → ⊥)
kind_told zero e = absurd (none-some _ e)
kind_told (suc x) e = (cc, λ z. omega arith)

pub no_kind_told : (x : ℕ) → kind_some x ≡ None → x ≡ 0
no_kind_told zero e = refl
no_kind_told (suc x) e = absurd (none-some _ (sym e))

-- ---- which token begins with c

module _ (n c : ℕ) (s : List ℕ) where
  pub starts_sign : (sign_kind c ≡ 0 → ⊥) → token_at n c s ≡ got (lexed (sign_kind c) [] s)
  unfolding token_at
  starts_sign some = rw (ne_eqb (sign_kind c) 0 some)

  module _ (sign : sign_kind c ≡ 0) where
    pub starts_double : {k : ℕ} → double_kind c (get_or s 0 0) ≡ Some k → token_at n c s ≡ got (lexed k [] (drop 1 s))
    unfolding token_at double_kind
    starts_double {k} some = rw (eq-eqb (sign_kind c) 0 sign) (pick (doubled 0x26 c s) (doubled 0x7c c s) _ some)
      where
        pick : (x y : Bool) (o : Read Lexed) → cond x (Some and_kind) (cond y (Some or_kind) None) ≡ Some k
            → cond x (got (lexed and_kind [] (drop 1 s))) (cond y (got (lexed or_kind [] (drop 1 s))) o) ≡ got (lexed k [] (drop 1 s))
        pick true y o e = cc
        pick false true o e = cc
        pick false false o e = absurd (none-some k e)

    module _ (double : double_kind c (get_or s 0 0) ≡ None) where
      abbrev here : ℕ
      here = start_in n (c ∷ s)

      after_double : token_at n c s
          ≡ cond (is_quote c) (quoted_from n here s) (cond (is_bracket c) (refused (faulty range_bracket here)) (cond (is_wildcard c) (refused (faulty wildcard here)) (term_from n (c ∷ s))))
      unfolding token_at double_kind
      after_double = rw (eq-eqb (sign_kind c) 0 sign) (pick (doubled 0x26 c s) (doubled 0x7c c s) _ _ _ double)
        where
          pick : (x y : Bool) (o p q : Read Lexed) → cond x (Some and_kind) (cond y (Some or_kind) None) ≡ None → cond x o (cond y p q) ≡ q
          pick true y o p q e = absurd (none-some _ (sym e))
          pick false true o p q e = absurd (none-some _ (sym e))
          pick false false o p q e = refl

      pub starts_quote : is_quote c ≡ true → token_at n c s ≡ quoted_from n here s
      starts_quote h = after_double ∙ rw h

      module _ (quote : is_quote c ≡ false) where
        pub starts_bad : {r : Refusal} → bad_start c ≡ Some r → (f : rules.Fault) × (token_at n c s ≡ refused (faulty f here)) × (r ≡ coded_fault f)
        unfolding bad_start
        starts_bad {r} some = rw (after_double, quote) (pick (is_bracket c) (is_wildcard c) _ some)
          where
            pick : (x y : Bool) (o : Read Lexed) → cond x (Some (coded_fault range_bracket)) (cond y (Some (coded_fault wildcard)) None) ≡ Some r
                → (f : rules.Fault) × (cond x (refused (faulty range_bracket here)) (cond y (refused (faulty wildcard here)) o) ≡ refused (faulty f here))
                × (r ≡ coded_fault f)
            pick true y o e = (range_bracket, refl, cc)
            pick false true o e = (wildcard, refl, cc)
            pick false false o e = absurd (none-some r e)

        pub starts_term : bad_start c ≡ None → token_at n c s ≡ term_from n (c ∷ s)
        unfolding bad_start
        starts_term e = after_double ∙ rw quote (pick (is_bracket c) (is_wildcard c) _ e)
          where
            pick : (x y : Bool) (o : Read Lexed) → cond x (Some (coded_fault range_bracket)) (cond y (Some (coded_fault wildcard)) None) ≡ None
                → cond x (refused (faulty range_bracket here)) (cond y (refused (faulty wildcard here)) o) ≡ o
            pick true y o e = absurd (none-some _ (sym e))
            pick false true o e = absurd (none-some _ (sym e))
            pick false false o e = refl

-- a letter begins a term
module _ (n c : ℕ) (s : List ℕ) (h : is_letter c ≡ true) where
  letter_sign : sign_kind c ≡ 0
  unfolding sign_kind
  letter_sign =
      let o = letter_other c h in
      rw (o 0x2b refl, o 0x2d refl, o 0x21 refl, o 0x28 refl, o 0x29 refl, o 0x3a refl, o 0x5e refl, o 0x7e refl)

  letter_double : double_kind c (get_or s 0 0) ≡ None
  unfolding double_kind
  letter_double = let o = letter_other c h in rw (o 0x26 refl, o 0x7c refl)

  letter_bad : bad_start c ≡ None
  unfolding bad_start ascii some
  letter_bad = let o = letter_other c h in rw (o 0x5b refl, o 0x5d refl, o 0x7b refl, o 0x7d refl, o 0x2a refl, o 0x3f refl)

  pub starts_letter : token_at n c s ≡ term_from n (c ∷ s)
  starts_letter = starts_term n c s letter_sign letter_double (letter_other c h 0x22 refl) letter_bad

double_zero : (c : ℕ) → double_kind c 0 ≡ None
unfolding double_kind
double_zero c = rw (and_no_r (eqb c 0x26) refl, and_no_r (eqb c 0x7c) refl)

-- ---- the end of a term

end_wild : (n : ℕ) (t s : List ℕ) → is_wildcard (get_or s 0 0) ≡ true → term_end n (piece t s) ≡ refused (faulty wildcard (start_in n s))
unfolding term_end ascii some
end_wild n t [] h = clash h refl
end_wild n t (c ∷ s) h = rw h

end_word : (n : ℕ) (t s : List ℕ) → is_wildcard (get_or s 0 0) ≡ false → term_end n (piece t s) ≡ got (word_lexed t s)
unfolding term_end
end_word n t [] h = refl
end_word n t (c ∷ s) h = rw h

-- ---- the note

pub noted_none : (at next len : ℕ) (room : List ℕ) → Noted 0 at next len room
noted_none at next len room = record { few = omega arith; short = λ e. absurd (omega arith); spelled = λ e. absurd (omega arith) }

-- a word's note is that of a term, whose whole text is kept
module _ (at next : ℕ) (room : List ℕ) (k a len m : ℕ) (word : Bool) (o : a ≡ note_of k word len) (g : m ≡ cond (eqb k term_kind) len 0)
    (h : word ≡ true → Spelled at next len room) where
  note_few : (b : Bool) → cond b word_note 0 < 8
  note_few true = omega arith
  note_few false = omega arith

  note_six : (b : Bool) → cond b word_note 0 ≡ word_note → b ≡ true
  note_six true e = refl
  note_six false e = absurd (omega arith)

  module _ (e : a ≡ word_note) where
    tested : word && (eqb k term_kind && leb len chunk_most) ≡ true
    unfolding note_of
    tested = note_six (word && (eqb k term_kind && leb len chunk_most)) (sym o ∙ e)

    tested_term : eqb k term_kind && leb len chunk_most ≡ true
    tested_term = and_r word (eqb k term_kind && leb len chunk_most) tested

    whole : len ≡ m
    whole = sym (g ∙ rw (and_l (eqb k term_kind) (leb len chunk_most) tested_term))

    word_short : m ≤ chunk_most
    word_short = rw whole at (leb-true len chunk_most (and_r (eqb k term_kind) (leb len chunk_most) tested_term))

    word_spelled : Spelled at next m room
    word_spelled = subst (λ (x : ℕ). Spelled at next x room) whole (h (and_l word (eqb k term_kind && leb len chunk_most) tested))

  pub noted_term : Noted a at next m room
  unfolding note_of
  noted_term = record {
    few = rw o (note_few (word && (eqb k term_kind && leb len chunk_most)));
    short = word_short;
    spelled = word_spelled;
  }

-- ---- what code answers for it, where it stands in a text

module _ (text : List ℕ) (at : ℕ) (room : List ℕ) where
  -- the whole token is read from what the token's text was read as
  made_no : {o : Read Piece} {p : Read Lexed} (e : Fault) → ((f : rules.Fault) → o ≡ refused (faulty f e.place) → p ≡ refused (faulty f e.place))
      → Reads (Err e) o text at room → Makes (Err e) p text at room
  made_no e g h = (h.0, g h.0 h.1, h.2, h.3)

  -- ---- a quote

  module _ (s : List ℕ) where
    pub quoted_no : (e : Fault) → Reads (Err e) (quoted_text (length text) at s) text at room → Makes (Err e) (quoted_from (length text) at s) text at room
    unfolding quoted_from
    quoted_no e h = made_no e (λ f l. rw l) h

    pub quoted_yes : (t : Ended) → Reads (Ok t) (quoted_text (length text) at s) text at room
        → Makes (Ok (record { kind = 2; note = 0; len = t.len; next = t.next })) (quoted_from (length text) at s) text at room
    unfolding quoted_from
    quoted_yes t h = (rw h.0, h.1, h.2, noted_none at t.next t.len room)

  -- ---- a term

  module _ (s : List ℕ) where
    pub term_no : (e : Fault) → Reads (Err e) (term_text (length text) s) text at room → Makes (Err e) (term_from (length text) s) text at room
    unfolding term_from
    term_no e h = made_no e (λ f l. rw l) h

    module _ (t : Ended) (h : Reads (Ok t) (term_text (length text) s) text at room) where
      pub term_wild : is_wildcard (get_or text t.next 0) ≡ true
          → Makes (Err (record { refusal = code.Wildcard; place = t.next })) (term_from (length text) s) text at room
      unfolding term_from ascii some
      term_wild w =
          let b = wild_within (dec_lt t.next (length text)) w in
          let p : start_in (length text) (drop t.next text) ≡ t.next = omega (arith, length-drop t.next text) in
          (wildcard, rw h.0 (rw p at (end_wild (length text) (take t.len (drop at room)) (drop t.next text) (rw (get_or-drop, add-zero) w))), refl, b)
        where
          -- no wildcard stands past the last byte
          wild_within : Dec (t.next < length text) → is_wildcard (get_or text t.next 0) ≡ true → t.next < length text
          wild_within (yes l) w = l
          wild_within (no l) w = let z : get_or text t.next 0 ≡ 0 = get_or-eq_default text 0 (omega arith) in clash (rw z at w) refl

      pub term_yes : (k a m : ℕ) → is_wildcard (get_or text t.next 0) ≡ false → k ≡ word_kind (take (at + t.len - at) (drop at room)) → a ≡ note_of k t.word t.len
          → m ≡ cond (eqb k term_kind) t.len 0 → Makes (Ok (record { kind = k; note = a; len = m; next = t.next })) (term_from (length text) s) text at room
      unfolding term_from
      term_yes k a m w f o g =
          let u = take t.len (drop at room) in
          let l : m ≤ t.len = rw g (less (eqb k term_kind)) in
          let i = h.2 in
          let n : k ≡ word_kind u = rw add-sub_cancel_left at f in (
            rw h.0 (end_word (length text) u (drop t.next text) (rw (get_or-drop, add-zero) w) ∙ rw (← n, kept (eqb k term_kind) g)),
            h.1,
            omega arith,
            noted_term at t.next room k a t.len m t.word o g h.3,
          )
        where
          kept : (b : Bool) → m ≡ cond b t.len 0 → cond b (take t.len (drop at room)) [] ≡ take m (drop at room)
          kept true g = rw g
          kept false g = rw g

          less : (b : Bool) → cond b t.len 0 ≤ t.len
          less true = omega arith
          less false = omega arith

  -- ---- a token

  module _ (h : at < length text) where
    here_at : start_in (length text) (get_or text at 0 ∷ drop (at + 1) text) ≡ at
    here_at = omega (arith, length-drop (at + 1) text)

    pub made_sign : (k : ℕ) → kind_some (sign_kind (get_or text at 0)) ≡ Some k
        → Makes (Ok (record { kind = k; note = 0; len = 0; next = at + 1 })) (token_at (length text) (get_or text at 0) (drop (at + 1) text)) text at room
    made_sign k e =
        let z = kind_told _ e in
        (starts_sign (length text) (get_or text at 0) (drop (at + 1) text) z.1 ∙ rw (← z.0), omega arith, omega arith, noted_none at (at + 1) 0 room)

    pub made_letter : is_letter (get_or text at 0) ≡ true → (r : Result Step Fault) → Makes r (term_from (length text) (drop at text)) text at room
        → Makes r (token_at (length text) (get_or text at 0) (drop (at + 1) text)) text at room
    made_letter l r m = rw (starts_letter (length text) (get_or text at 0) (drop (at + 1) text) l, add-one, ← drop-cons text at 0 h) m

    module _ (no_sign : kind_some (sign_kind (get_or text at 0)) ≡ None) where
      sign : sign_kind (get_or text at 0) ≡ 0
      sign = no_kind_told _ no_sign

      pub made_double : (k : ℕ) → double_kind (get_or text at 0) (get_or text (at + 1) 0) ≡ Some k
          → Makes (Ok (record { kind = k; note = 0; len = 0; next = at + 2 })) (token_at (length text) (get_or text at 0) (drop (at + 1) text)) text at room
      made_double k e =
          let d : get_or (drop (at + 1) text) 0 0 ≡ get_or text (at + 1) 0 = get_or-drop (at + 1) text 0 0 ∙ rw add-zero in
          let j : at + 1 < length text = more (dec_lt (at + 1) (length text)) in
          let two : at + 1 + 1 ≡ at + 2 = omega arith in (
            starts_double (length text) (get_or text at 0) (drop (at + 1) text) sign {k = k} (rw d e) ∙ rw (drop-drop, two),
            omega arith,
            omega arith,
            noted_none at (at + 2) 0 room,
          )
        where
          more : Dec (at + 1 < length text) → at + 1 < length text
          more (yes l) = l
          more (no l) =
              let z : get_or text (at + 1) 0 ≡ 0 = get_or-eq_default text 0 (omega arith) in
              absurd (none-some k (sym (double_zero (get_or text at 0)) ∙ rw z at e))

      module _ (double : double_kind (get_or text at 0) (get_or text (at + 1) 0) ≡ None) where
        none : double_kind (get_or text at 0) (get_or (drop (at + 1) text) 0 0) ≡ None
        none = rw (get_or-drop, add-zero) double

        pub made_quoted : is_quote (get_or text at 0) ≡ true → (r : Result Step Fault) → Makes r (quoted_from (length text) at (drop (at + 1) text)) text at room
            → Makes r (token_at (length text) (get_or text at 0) (drop (at + 1) text)) text at room
        made_quoted q r m = rw (starts_quote (length text) (get_or text at 0) (drop (at + 1) text) sign none q, here_at) m

        module _ (quote : is_quote (get_or text at 0) ≡ false) where
          pub made_bad : (r : Refusal) → bad_start (get_or text at 0) ≡ Some r
              → Makes (Err (record { refusal = r; place = at })) (token_at (length text) (get_or text at 0) (drop (at + 1) text)) text at room
          made_bad r e =
              let b = starts_bad (length text) (get_or text at 0) (drop (at + 1) text) sign none quote e in
              (b.0, rw here_at at b.1, b.2, h)

          pub made_term : bad_start (get_or text at 0) ≡ None → (r : Result Step Fault) → Makes r (term_from (length text) (drop at text)) text at room
              → Makes r (token_at (length text) (get_or text at 0) (drop (at + 1) text)) text at room
          made_term b r m =
              rw (starts_term (length text) (get_or text at 0) (drop (at + 1) text) sign none quote b, add-one, ← drop-cons text at 0 h) m
