-- From what the calls of parsing and rewriting answered to the text of the input, and from there to what the public call leaves.
use mathlib.Core.Path.{◌≡◌, refl, sym, ap, ◌∙◌}
use mathlib.Core.Logic.{◌⊎◌, inl, inr}
use Prim.Native.Nat.{ℕ, ◌+◌, ◌-◌, ◌≤◌, ◌<◌}
use mathlib.Core.List.{List, [], ◌++◌}
use mathlib.Core.Bool.{Bool, true, false, cond}
use native.Mathlib.Omega.{arith}
use lib.ListN.{length, take, drop, length-append, length-take, length-drop}
use lib.Seq.{take_at}
use lib.Dec.{leb, eqb}
use borrow.Author.Tests.{le-leb, lt-leb, leb-true, leb-false, eqb-true, eq-eqb, ne_eqb}
use Rattle.rules.specs.Numbers.{Refusal, number, place_of, Read, got, refused, need, on_read, and_then, long_answer, short_room, parse_room, rewrite_room, rewriter_bytes, rewriter_depth, selection_bytes}
use Rattle.rules.specs.Bytes.{Bytes, ascii}
use Rattle.rules.specs.Query.{Query}
use Rattle.rules.specs.Stored.{encode, Valid}
use Rattle.rules.specs.Reading.{read_for_rewriting}
use Rattle.rules.specs.Checked.{Is}
use Rattle.rules.specs.Rewriting.{Rewritten, rewritten, weight, original, rewrite, result_of, count_of}
use Rattle.rules.specs.Show.{decimal, no_kind, show, show_rewritten, show_parsed, or_refusal, show_setup, first_line, second_line, show_text}
use Rattle.rules.specs.Parsing.{parse}
use Rattle.rules.specs.Answers.{Left, Reply, zeros, leave_with, leave, leave_at, fitting, call, call_at, stored_reply, rewritten_reply, rewrite_reply, rewrite_left}
use Rattle.rules.proofs.Stored.Refusals.{number_some}
use Rattle.rules.proofs.Stored.Parts.{none_empty, empty_nil}
use Rattle.rules.proofs.Stored.Sizes.{length_encode}
use Rattle.rules.proofs.Stored.Steps.{read_long}
use Rattle.rules.proofs.Stored.Sound.{read_sound}
use Rattle.rules.proofs.Rewriting.Measures.{weight_length}
use Rattle.rules.proofs.Rewriting.Weights.{few_rounds, valid_rewrite}
use Rattle.rules.proofs.Rewriting.Bounds.{within_bytes}
use Rattle.numbers.specs.Laid.{laid}
use Rattle.numbers.proofs.Laying.{laid_front}
use Rattle.parser.specs.Parsed.{left_of as parsed_left}
use Rattle.std.specs.Prelude.{Result, Ok, Err}
use Rattle.names.specs.Refusals.{numbered}
use Rattle.names.specs.declared.refusal.Fault.{Fault}
use Rattle.rewriter.specs.Rounds.{left as rewriter_left, Rewrites}
use Rattle.rewriter.specs.declared.rounds.Rounds.{Rounds}
use Rattle.names.specs.declared.refusal.Refusal.{Refusal as code}
use Rattle.names.specs.declared.refusal.Refusal.TheVariants.{LongAnswer, ShortRoom}
use Rattle.show.specs.Lays.{Lays, place_most}
use Rattle.show.specs.Lines.{written_in}
use Rattle.show.specs.Node.{query_in}
use Rattle.show.specs.Answer.{shown_refusal, refusal_text, answer_text, ToSay, Makes, text_reply, show_left, delivered, left_of}
use Rattle.show.proofs.Decimals.{decimal_long}
use Rattle.show.proofs.Nodes.{query_in_lem}
use Rattle.show.proofs.Lengths.{show_length}
use Rattle.show.proofs.Lows.{written_low, read_nowhere}

-- ---- the text, by what was parsed

join : {A : Type 0} (f : A → Read Query) (o : Read A) → and_then o (λ st. and_then (f st) show_parsed) ≡ and_then (and_then o f) show_parsed
join f (got st) = refl
join f (refused r) = refl

written_text : (s : List ℕ) → show_text s ≡ or_refusal (and_then (written_in s) show_parsed)
unfolding show_text written_in
written_text s = ap or_refusal (join (λ st. parse st (second_line s)) (show_setup (first_line s)))

refused_text : (s : List ℕ) {r : Refusal} → written_in s ≡ refused r → show_text s ≡ refusal_text (number r) (place_of r)
unfolding refusal_text
refused_text s e = written_text s ∙ rw e

-- ---- a refusal to be shown

module _ {s : List ℕ} {r p : ℕ} (n : r ≡ 0 → ⊥) (e : refusal_text r p ≡ show_text s) (near : p ≤ 0xffff) where
  pub makes_refused : (first second : List ℕ) (w v k : ℕ) → w ≤ length first → v ≤ length second → w ≤ 0xffff → v ≤ 0xffff → k ≤ 0xffff → Makes s r p w first v second k
  unfolding answer_text
  makes_refused first second w v k hw hv lf lv lk = record {
    in_first = hw;
    in_second = hv;
    to_say = record {
      written = λ z. absurd (n z);
      rewritten = λ z. absurd (n z);
      short = omega (arith, length-take w first);
      shorter = omega (arith, length-take v second);
      few = lk;
      near = near;
    };
    text = rw (ne_eqb r 0 n) e;
  }

-- nothing that stands in the stretches is shown of it
pub makes_none : {s : List ℕ} {r p w : ℕ} {first : List ℕ} {v : ℕ} {second : List ℕ} {n : ℕ} → Makes s r p w first v second n → (r ≡ 0 → ⊥) → {r' p' : ℕ} → r' ≡ r → p' ≡ p
    → Makes s r' p' 0 first 0 second 0
unfolding answer_text
makes_none {s} {r} {p} {w} {first} {v} {second} {n} M z d c =
    let e : answer_text r p (take w first) (take v second) n ≡ refusal_text r p = rw (ne_eqb r 0 z) in
    rw (d, c) (makes_refused z (sym e ∙ M.text) M.to_say.near first second 0 0 0 (omega arith) (omega arith) (omega arith) (omega arith) (omega arith))

-- ---- what parsing answered

leave_room : (w : Refusal → ℕ) (o : Read Reply) (out room : List ℕ) → (leave_with w o out room).room ≡ zeros room
leave_room w (got a) out room = refl
leave_room w (refused r) out room = refl

module _ (X : Read Query) (first room : List ℕ) (h : parse_room ≤ length room) where
  abbrev whole : Left
  whole = call_at parse_room (on_read stored_reply X) first room

  called : whole ≡ leave_at (and_then (on_read stored_reply X) (fitting (length first))) first room
  unfolding call_at
  called = rw (le-leb parse_room (length room) h)

  as_refused : {x : Refusal} → X ≡ refused x → whole ≡ leave_at (refused x) first room
  as_refused e = called ∙ rw e

  as_fitting : {q : Query} → X ≡ got q → length (encode q) ≤ length first → whole ≡ leave_at (got (stored_reply q)) first room
  as_fitting {q} e l = called ∙ rw (e, le-leb (length (encode q)) (length first) l)

  as_long : {q : Query} → X ≡ got q → length first < length (encode q) → whole ≡ leave_at (refused long_answer) first room
  as_long {q} e l = called ∙ rw (e, lt-leb (length (encode q)) (length first) l)

  pub parse_room_lem : (p : Result ℕ Fault) (first' room' : List ℕ) → parsed_left p first' room' ≡ whole → room' ≡ zeros room
  parse_room_lem p first' room' E = ap (λ (l : Left). l.room) (E ∙ called) ∙ leave_room place_of (and_then (on_read stored_reply X) (fitting (length first))) first room

  abbrev pub Unparsed : ℕ → ℕ → Type 0
  Unparsed e w =
      ((x : Refusal) × (X ≡ refused x) × (e ≡ number x) × (w ≡ place_of x)) ⊎ ((q : Query) × (X ≡ got q) × (length first < length (encode q)) × (e ≡ 18) × (w ≡ 0))

  pub parse_refused : (f : Fault) (first' room' : List ℕ) {p : Result ℕ Fault} → p ≡ Err f → parsed_left p first' room' ≡ whole → Unparsed (numbered f.refusal) f.place
  parse_refused f first' room' ep Ep = by X refl
    where
      E : parsed_left (Err f) first' room' ≡ whole
      E = ap (λ (p : Result ℕ Fault). parsed_left p first' room') (sym ep) ∙ Ep

      fits : (q : Query) → X ≡ got q → (b : Bool) → leb (length (encode q)) (length first) ≡ b → Unparsed (numbered f.refusal) f.place
      fits q eX true t =
          let z : 0 ≡ length (encode q) = ap (λ (l : Left). l.answer.written) (E ∙ as_fitting eX (leb-true (length (encode q)) (length first) t)) in
          absurd (omega (arith, length_encode q))
      fits q eX false t =
          let l = leb-false (length (encode q)) (length first) t in
          let F = E ∙ as_long eX l in
          inr (q, eX, l, ap (λ (l : Left). l.answer.refusal) F, ap (λ (l : Left). l.answer.place) F)

      by : (o : Read Query) → X ≡ o → Unparsed (numbered f.refusal) f.place
      by (refused x) eX =
          let F = E ∙ as_refused eX in
          inl (x, eX, ap (λ (l : Left). l.answer.refusal) F, ap (λ (l : Left). l.answer.place) F)
      by (got q) eX = fits q eX (leb (length (encode q)) (length first)) refl

  pub record Parsed (n : ℕ) (first' : List ℕ) : Type 0 where
    pub query : Query
    pub is : X ≡ got query
    pub long : n ≡ length (encode query)
    pub fits : n ≤ length first
    pub there : first' ≡ encode query ++ drop n first

  pub parse_bytes : (n : ℕ) (first' room' : List ℕ) {p : Result ℕ Fault} → p ≡ Ok n → parsed_left p first' room' ≡ whole → Parsed n first'
  parse_bytes n first' room' ep Ep = by X refl
    where
      E : parsed_left (Ok n) first' room' ≡ whole
      E = ap (λ (p : Result ℕ Fault). parsed_left p first' room') (sym ep) ∙ Ep

      fits : (q : Query) → X ≡ got q → (b : Bool) → leb (length (encode q)) (length first) ≡ b → Parsed n first'
      fits q eX true t =
          let l = leb-true (length (encode q)) (length first) t in
          let F = E ∙ as_fitting eX l in
          let e : n ≡ length (encode q) = ap (λ (x : Left). x.answer.written) F in
          record { query = q; is = eX; long = e; fits = omega arith; there = ap (λ (x : Left). x.output) F ∙ rw (← e) }
      fits q eX false t =
          let z : ◌≡◌ {A = ℕ} 0 18 = ap (λ (l : Left). l.answer.refusal) (E ∙ as_long eX (leb-false (length (encode q)) (length first) t)) in
          absurd (omega arith)

      by : (o : Read Query) → X ≡ o → Parsed n first'
      by (refused x) eX = absurd (number_some x (sym (ap (λ (l : Left). l.answer.refusal) (E ∙ as_refused eX))))
      by (got q) eX = fits q eX (leb (length (encode q)) (length first)) refl

  module _ {n : ℕ} {first' : List ℕ} (P : Parsed n first') where
    -- it stands in the first n bytes, however code cuts them
    pub parsed_there : take n first' ≡ encode P.query
    parsed_there = ap (take n) P.there ∙ take_at (encode P.query) (drop n first) n (sym P.long)

    pub parsed_cut : take (n - 0) (drop 0 first') ≡ encode P.query
    parsed_cut = let z : n - 0 ≡ n = omega arith in ap (λ (k : ℕ). take k first') z ∙ parsed_there

    pub parsed_length : (n ≤ length first') × (length first' ≡ length first)
    parsed_length = omega (arith, ap length P.there, length-append (encode P.query) (drop n first), length-drop n first, P.long, P.fits)

-- a refusal of parsing is shown by its number and its place, and 19 where the query is too long for its stretch
pub unparsed : (s first room : List ℕ) (h : parse_room ≤ length room) {e w r p : ℕ} → length first ≡ rewriter_bytes → Unparsed (written_in s) first room h e w → r ≡ shown_refusal e → p ≡ w
    → (r ≡ 0 → ⊥) × (refusal_text r p ≡ show_text s)
unfolding show_parsed refusal_text
unparsed s first room h {e} {w} {r} {p} lf (inl (x, eX, ee, ew)) er ep =
    let low = written_low s x eX in
    let n : r ≡ number x = er ∙ ap shown_refusal ee ∙ rw (ne_eqb (number x) 18 (λ z. omega arith)) in
    ((λ z. number_some x (sym n ∙ z)), ap (λ (k : ℕ). refusal_text k p) n ∙ ap (refusal_text (number x)) (ep ∙ ew) ∙ sym (refused_text s eX))
unparsed s first room h {e} {w} {r} {p} lf (inr (q, eX, l, ee, ew)) er ep =
    let n : r ≡ 19 = er ∙ ap shown_refusal ee in
    ((λ z. omega arith), ap (λ (k : ℕ). refusal_text k p) n ∙ ap (refusal_text 19) (ep ∙ ew) ∙ sym (written_text s ∙ rw (eX, read_long rewriter_bytes rewriter_depth (encode q) (omega arith))))

-- ---- what rewriting answered

-- by its numbers
abbrev left : ℕ → ℕ → ℕ → List ℕ → List ℕ → Left
left refusal len made output room = record {
  answer = record { refusal = refusal; written = len; count = 0; rounds = made; place = 0 };
  output = output;
  room = room;
}

module _ {strict : Bool} {s out room out' room' : List ℕ} {r : Result Rounds code} (R : Rewrites strict s out room r out' room') where
  rewritten_is : {x : Result Rounds code} → r ≡ x → rewriter_left x out' room' ≡ rewrite_left strict s out room
  rewritten_is e = ap (λ (x : Result Rounds code). rewriter_left x out' room') (sym e) ∙ R.is

  pub rewritten_bytes : {a : Rounds} → r ≡ Ok a → left 0 a.len a.rounds out' room' ≡ rewrite_left strict s out room
  rewritten_bytes e = rewritten_is e

  pub rewritten_refused : {e : code} → r ≡ Err e → left (numbered e) 0 0 out' room' ≡ rewrite_left strict s out room
  rewritten_refused e = rewritten_is e

module _ (s : List ℕ) {q : Query} (eX : written_in s ≡ got q) (w second room : List ℕ) (e : w ≡ encode q) (hr : rewrite_room ≤ length room) (hs : selection_bytes ≤ length second) where
  text_is : show_text s ≡ or_refusal (on_read (λ p. show_rewritten p (rewrite original p)) (read_for_rewriting w))
  unfolding show_parsed
  text_is = written_text s ∙ rw (eX, e)

  module _ {r len k n : ℕ} {first second' room' : List ℕ} (E : left r len k second' room' ≡ rewrite_left original w second room)
      (ew : take n first ≡ w) (hn : n ≤ length first) (hf : length first ≤ 0xffff) where
    refused_left : {x : Refusal} → read_for_rewriting w ≡ refused x → Makes s r 0 n first len second' k
    unfolding rewrite_left rewrite_reply call refusal_text
    refused_left {x} f =
        let F : left r len k second' room' ≡ leave (refused x) second room = E ∙ rw (le-leb rewrite_room (length room) hr, f) in
        let a : r ≡ number x = ap (λ (l : Left). l.answer.refusal) F in
        let b : len ≡ 0 = ap (λ (l : Left). l.answer.written) F in
        let c : k ≡ 0 = ap (λ (l : Left). l.answer.rounds) F in
        let d = read_nowhere rewriter_bytes rewriter_depth w x f in
        makes_refused (λ z. number_some x (sym a ∙ z)) (ap (λ (k : ℕ). refusal_text k 0) a ∙ ap (refusal_text (number x)) (sym d) ∙ sym (text_is ∙ rw f)) (omega arith) first second' n len k hn (omega arith) (omega arith) (omega arith) (omega arith)

    made_left : (x : Rewritten) (p : Query) → Is w p → read_for_rewriting w ≡ got p → rewrite original p ≡ x → Valid (result_of x) → length (encode (result_of x)) ≤ 0xffff
        → count_of x ≤ 0xffff → Makes s r 0 n first len second' k
    unfolding rewrite_left rewrite_reply call answer_text
    made_left (rewritten p' m) p i f g v lv lm =
        let F : left r len k second' room' ≡ leave (got (rewritten_reply (rewritten p' m))) second room =
        E ∙ rw (le-leb rewrite_room (length room) hr, f, g, le-leb (length (encode p')) (length second) (omega arith)) in
        let a : r ≡ 0 = ap (λ (l : Left). l.answer.refusal) F in
        let b : len ≡ length (encode p') = ap (λ (l : Left). l.answer.written) F in
        let c : k ≡ m = ap (λ (l : Left). l.answer.rounds) F in
        let o : second' ≡ encode p' ++ drop (length (encode p')) second = ap (λ (l : Left). l.output) F in
        let t : take len second' ≡ encode p' = ap (take len) o ∙ take_at (encode p') (drop (length (encode p')) second) len (sym b) in
        let j : Is (take len second') p' = record { valid = v; form = sym t } in
        let u : Is (take n first) p = record { valid = i.valid; form = i.form ∙ sym ew } in
        record {
          in_first = hn;
          in_second = omega (arith, ap length o, length-append (encode p') (drop (length (encode p')) second));
          to_say = record {
            written = λ z. record { query = p; is = u };
            rewritten = λ z. record { query = p'; is = j };
            short = omega (arith, length-take n first);
            shorter = omega (arith, ap length t);
            few = omega arith;
            near = omega arith;
          };
          text = rw (eq-eqb r 0 a, query_in_lem u, query_in_lem j, c) (sym (text_is ∙ rw (f, g)));
        }

    pub makes_rewritten : Bytes w → Makes s r 0 n first len second' k
    makes_rewritten B = by (read_for_rewriting w) refl
      where
        by : (o : Read Query) → read_for_rewriting w ≡ o → Makes s r 0 n first len second' k
        by (refused x) f = refused_left f
        by (got p) f =
            let R = read_sound rewriter_bytes rewriter_depth w p B f in
            let l : length (encode p) ≤ rewriter_bytes = omega (arith, R.0, ap length R.1.form) in
            let v = R.1.valid in
            made_left (rewrite original p) p (record { valid = v; form = R.1.form }) f refl (valid_rewrite original p v) (within_bytes original p (weight p) l) (omega (arith, few_rounds original p v, weight_length p))

-- ---- how far a text can reach

both_length : (a b c : List ℕ) → length (ascii "written\n" ++ a ++ ascii "rewritten " ++ b ++ ascii "\n" ++ c) ≡ 19 + length a + length b + length c
unfolding ascii
both_length a b c = simp length-append (omega arith)

refusal_length : (r p : ℕ) → length (refusal_text r p) ≤ 12 + r + p
unfolding refusal_text ascii
refusal_length r p = simp length-append (omega (arith, decimal_long r, decimal_long p))

kindless : length no_kind ≤ 7
unfolding ascii
kindless = omega arith

rewritten_length : (p q : Query) (n : ℕ) → Valid p → Valid q → length (encode p) ≤ 0xffff → length (encode q) ≤ 0xffff → n ≤ 0xffff
    → length (show_rewritten p (rewritten q n)) ≤ 0x1000_0000_0000_0000
unfolding show_rewritten
rewritten_length p q n vp vq lp lq ln =
    omega (arith, both_length (show 0 no_kind p) (decimal n) (show 0 no_kind q), show_length p 0 no_kind vp (omega arith) kindless, show_length q 0 no_kind vq (omega arith) kindless, decimal_long n)

pub answer_length : {r p : ℕ} {w v : List ℕ} {n : ℕ} → ToSay r p w v n → r ≤ 0xff → 0 + length (answer_text r p w v n) ≤ place_most
unfolding answer_text
answer_length {r} {p} {w} {v} {n} T h = by (eqb r 0) refl
  where
    both : r ≡ 0 → length (show_rewritten (query_in w) (rewritten (query_in v) n)) ≤ 0x1000_0000_0000_0000
    both z =
        let W = T.written z in
        let U = T.rewritten z in
        rw (query_in_lem W.is, query_in_lem U.is)
        (rewritten_length W.query U.query n W.is.valid U.is.valid (omega (arith, T.short, ap length W.is.form)) (omega (arith, T.shorter, ap length U.is.form)) T.few)

    by : (b : Bool) → eqb r 0 ≡ b → 0 + length (cond b (show_rewritten (query_in w) (rewritten (query_in v) n)) (refusal_text r p)) ≤ place_most
    by true e = omega (arith, both (eqb-true r 0 e))
    by false e = omega (arith, refusal_length r p, T.near)

-- ---- delivery

pub too_long : (t out last : List ℕ) → length last ≡ 0 → length out < length t → left_of (Err LongAnswer) (last ++ out) [] ≡ delivered t out []
unfolding delivered call
too_long t out last z h = rw (lt-leb (length t) (length out) h, empty_nil last (none_empty last z))

pub fits : (t out last : List ℕ) {out' : List ℕ} (n : ℕ) {next : ℕ} → length last ≡ 0 → 0 + length t ≤ place_most → n ≡ 0 + length t → n ≤ length (last ++ out)
    → Lays (last ++ out) 0 t next out' → left_of (Ok n) out' [] ≡ delivered t out []
unfolding delivered call
fits t out last {out'} n z far e h L =
    let m : n ≡ length t = omega arith in
    let k : last ≡ [] = empty_nil last (none_empty last z) in
    let o : out' ≡ t ++ drop (length t) out = L.bytes far (omega arith) ∙ ap (λ (l : List ℕ). laid (l ++ out) 0 t) k ∙ laid_front out t in
    let j : length t ≤ length out = omega (arith, ap (λ (l : List ℕ). length (l ++ out)) k) in
    rw (le-leb (length t) (length out) j, m, o)

-- ---- the public call

cleared : (s out room : List ℕ) → rewrite_room ≤ length room
    → record { answer = (delivered (show_text s) out []).answer; output = (delivered (show_text s) out []).output; room = zeros room } ≡ show_left s out room
unfolding delivered show_left call
cleared s out room h = rw (le-leb rewrite_room (length room) h) (by (leb (length (show_text s)) (length out)))
  where
    by : (b : Bool) → record {
      answer = (leave (need b long_answer (got (text_reply (show_text s)))) out []).answer;
      output = (leave (need b long_answer (got (text_reply (show_text s)))) out []).output;
      room = zeros room;
    } ≡ leave (need b long_answer (got (text_reply (show_text s)))) out room
    by true = refl
    by false = refl

-- what is left of l, with another room
abbrev told : Left → List ℕ → Left
told l u = record { answer = l.answer; output = l.output; room = u }

pub whole_left : (s out room : List ℕ) → rewrite_room ≤ length room → (r : Result ℕ code) (t out' room' : List ℕ) → left_of r out' [] ≡ delivered t out [] → t ≡ show_text s
    → room' ≡ zeros room → left_of r out' room' ≡ show_left s out room
whole_left s out room h r t out' room' D e z =
    ap (λ (l : Left). told l room') D ∙ ap (λ (u : List ℕ). told (delivered u out []) room') e
    ∙ ap (told (delivered (show_text s) out [])) z ∙ cleared s out room h

pub short_left : (s out room room' : List ℕ) → length room < rewrite_room → room' ≡ zeros room → left_of (Err ShortRoom) out room' ≡ show_left s out room
unfolding show_left call
short_left s out room room' h z = rw (lt-leb rewrite_room (length room) h, z)

pub rewrite_room_lem : (w out room : List ℕ) {r : Result Rounds code} {out' room' : List ℕ} → Rewrites original w out room r out' room' → room' ≡ zeros room
unfolding rewrite_left call
rewrite_room_lem w out room R = ap (λ (l : Left). l.room) R.is ∙ leave_room (λ x. 0) (need (leb rewrite_room (length room)) short_room (and_then (rewrite_reply original w) (fitting (length out)))) out room

-- what was made, however code cuts its stretches
module _ {s : List ℕ} {r p w : ℕ} {first : List ℕ} {v : ℕ} {second : List ℕ} {n : ℕ} (M : Makes s r p w first v second n) where
  cut : (k : ℕ) → k - 0 ≡ k
  cut k = omega arith

  pub made_text : answer_text r p (take (w - 0) first) (take (v - 0) second) n ≡ show_text s
  made_text = rw (cut w, cut v) M.text
