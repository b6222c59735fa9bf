-- A term or a quote, a byte at a time: what has been unescaped into the room, and what is still to be read.
use mathlib.Core.Path.{◌≡◌, refl, sym, ap, subst, ◌∙◌}
use Prim.Native.Nat.{ℕ, zero, suc, ◌+◌, ◌-◌, ◌≤◌, ◌<◌}
use mathlib.Core.List.{List, [], ◌∷◌, ◌++◌, append_assoc, append-nil}
use mathlib.Core.Bool.{Bool, true, false}
use native.Mathlib.Omega.{arith}
use native.Mathlib.Nat.{add-zero}
use native.Mathlib.Numerals.{add-one}
use native.Mathlib.Decide.{dec_lt}
use lib.Dec.{leb}
use lib.ListN.{length, get_or, take, drop, set, length-drop, length-append, drop_of_length-le}
use lib.Seq.{drop-cons, drop-drop, take-take, length-take-le, take-append-le, get_or-drop, take-suc, take-suc-set}
use borrow.Author.Tests.{eq-eqb, ne_eqb, leb-true}
use borrow.Rule.Slice.PartMut.{put_mid}
use Rattle.std.specs.List.{between}
use Rattle.std.specs.Prelude.{Ok, Err}
use Rattle.std.proofs.lemmas.List.{drop_at, drop-take, take_rest}
use Rattle.std.proofs.lemmas.Slice.{first_rest, between_to_end, take-put_mid_below, drop-put_mid}
use Rattle.std.proofs.Math.Seq.{take-add}
use Rattle.rules.specs.Numbers.{text_most, faulty, nothing_escaped, open_quote, Read, got, refused, on_read}
use Rattle.rules.specs.Bytes.{is_text, all}
use Rattle.rules.specs.Analysis.{ends_term, is_letter}
use Rattle.rules.specs.Lexing.{Piece, piece, before, is_quote, term_text, quoted_text}
use Rattle.rules.proofs.Bools.{clash, both, and_l, and_r}
use Rattle.rules.proofs.Text.Tokenizing.{Unescaping, term_unescapes, term_stop, quoted_stop}
use Rattle.names.specs.declared.refusal.Fault.{Fault}
use Rattle.row.specs.Row.{Kept}
use Rattle.texts.specs.Texts.{on_front, Reads, Unescapes, Tells, Until}
use Rattle.texts.specs.declared.Ended.{Ended}
use Rattle.texts.proofs.Flags.{letter_goes_on, letter_other}

-- ---- what was read before goes in front

front_none : (r : Read Piece) → on_read (on_front []) r ≡ r
front_none (got (piece t s)) = refl
front_none (refused f) = refl

front_more : (u : List ℕ) (c : ℕ) (r : Read Piece) → on_read (on_front u) (before c r) ≡ on_read (on_front (u ++ (c ∷ []))) r
unfolding before
front_more u c (got (piece t s)) = ap (λ (l : List ℕ). got (piece l s)) (sym (append_assoc u (c ∷ []) t))
front_more u c (refused f) = refl

empty_of : (s : List ℕ) → length s < 1 → s ≡ []
empty_of [] h = refl
empty_of (c ∷ s) h = absurd (omega arith)

-- ---- the loop

-- `rest` is still to be read, and the first `len` bytes of `out` hold what was read from `from` on
pub record Reading (answers : ℕ → Bool → Type 0) (text : List ℕ) (from : ℕ) (rest out : List ℕ) (len : ℕ) : Type 0 where
  pub within : length rest ≤ length text
  pub is : rest ≡ drop (length text - length rest) text
  pub behind : from + len + length rest ≤ length text
  pub whole : (read : List ℕ → Read Piece) (stop : ℕ → Bool) → Unescapes (length text) read stop → Tells answers text stop
      → read (drop from text) ≡ on_read (on_front (take len out)) (read rest)

module _ {answers : ℕ → Bool → Type 0} {text rest out : List ℕ} {from len : ℕ} (r : Reading answers text from rest out len) (some : 1 ≤ length rest) where
  abbrev first : ℕ
  first = get_or rest 0 0

  abbrev tail : List ℕ
  tail = between 1 (length rest) rest

  whole_rest : rest ≡ first ∷ tail
  whole_rest = first_rest rest 0 some

  -- the byte that is tested is one of the text
  told : (stop : ℕ → Bool) {b : Bool} → Tells answers text stop → answers first b → b ≡ stop first
  told stop {b} T a =
      let i : ℕ = length text - length rest in
      let w = r.within in
      let e : get_or text i 0 ≡ first = sym (ap (λ (s : List ℕ). get_or s 0 0) r.is ∙ get_or-drop i text 0 0 ∙ rw add-zero) in
      subst (λ (c : ℕ). b ≡ stop c) e (T i b (omega arith) (subst (λ (c : ℕ). answers c b) (sym e) a))

  reading_next : (v k : ℕ) (behind : List ℕ) → behind ≡ drop k rest → 1 ≤ k → k ≤ length rest → length text ≤ from + length out
      → ((read : List ℕ → Read Piece) (stop : ℕ → Bool) → Unescapes (length text) read stop → Tells answers text stop → read rest ≡ before v (read behind))
      → Reading answers text from behind (set out len v) (len + 1)
  reading_next v k behind e l m fits next =
      let w = r.within in
      let b = r.behind in
      let n : length behind ≡ length rest - k = ap length e ∙ length-drop k rest in
      let i : length text - length rest + k ≡ length text - length behind = omega arith in
      let o : len < length out = omega arith in
      let p : take (len + 1) (set out len v) ≡ take len out ++ (v ∷ []) = rw add-one (take-suc-set out len v o) in
      record {
        within = omega arith;
        is = e ∙ ap (drop k) r.is ∙ drop-drop k (length text - length rest) text ∙ rw i;
        behind = omega arith;
        whole = λ read stop U T. r.whole read stop U T ∙ rw (next read stop U T, p) (front_more (take len out) v (read behind));
      }

  module _ (go : answers first false) (shown : List ℕ) where
    pub reading_plain : (first ≡ 92 → ⊥) → shown ≡ rest → length text ≤ from + length out
        → Reading answers text from (between 1 (length shown) shown) (set out len (get_or shown 0 0)) (len + 1)
    reading_plain other e fits =
        rw e (reading_next first 1 tail (between_to_end rest 1 (length rest) (omega arith)) (omega arith) some fits
        (λ read stop U T. ap read whole_rest ∙ U.plain first tail (sym (told stop T go)) (ne_eqb first 92 other)))

    pub reading_escaped : first ≡ 92 → shown ≡ tail → 1 ≤ length shown → length text ≤ from + length out
        → Reading answers text from (between 1 (length shown) shown) (set out len (get_or shown 0 0)) (len + 1)
    reading_escaped is e more fits =
        let t : tail ≡ drop 1 rest = between_to_end rest 1 (length rest) (omega arith) in
        let two : between 1 (length shown) shown ≡ drop 2 rest = between_to_end shown 1 (length shown) (omega arith) ∙ ap (drop 1) (e ∙ t) ∙ drop-drop 1 1 rest in
        let l : length shown ≡ length rest - 1 = ap length (e ∙ t) ∙ length-drop 1 rest in
        reading_next (get_or shown 0 0) 2 (between 1 (length shown) shown) two (omega arith) (omega arith) fits
        (λ read stop U T.
        ap read (whole_rest ∙ ap (λ (s : List ℕ). first ∷ s) (sym e ∙ first_rest shown 0 more))
        ∙ U.escaped first (get_or shown 0 0) (between 1 (length shown) shown) (sym (told stop T go)) (eq-eqb first 92 is))

    -- nothing stands behind a backslash
    pub reading_dangling : first ≡ 92 → shown ≡ tail → length shown < 1 → (read : List ℕ → Read Piece) (stop : ℕ → Bool) → Unescapes (length text) read stop
        → Tells answers text stop → read (drop from text) ≡ refused (faulty nothing_escaped (length text - length rest))
    reading_dangling is e none read stop U T =
        let z : tail ≡ [] = sym e ∙ empty_of shown none in
        let w : rest ≡ first ∷ [] = whole_rest ∙ ap (λ (s : List ℕ). first ∷ s) z in
        let d = U.dangling first (sym (told stop T go)) (eq-eqb first 92 is) in
        r.whole read stop U T ∙ rw (w, d)

pub unescaping : {n : ℕ} {read : List ℕ → Read Piece} {stop : ℕ → Bool} → Unescaping n read stop → Unescapes n read stop
unescaping U = record { plain = U.plain; escaped = U.escaped; dangling = U.dangling }

-- ---- where a part of the room was lent

take_less : (m n : ℕ) (a b : List ℕ) → m ≤ n → take n a ≡ take n b → take m a ≡ take m b
take_less m n a b h e = sym (take-take m n a h) ∙ ap (take m) e ∙ take-take m n b h

module _ (at k : ℕ) (room part : List ℕ) (lent : length part ≡ length (take k (drop at room))) (fits : at + k ≤ length room) where
  l : length part ≡ k
  l = let d = length-drop at room in lent ∙ length-take-le k (drop at room) (omega arith)

  pub part_kept : at + k ≤ text_most → Kept at room (put_mid at k room part)
  part_kept m = record {
    front = take-put_mid_below at k room part at (omega arith) (omega arith);
    row = drop-put_mid at k room part text_most m (omega arith) l;
  }

  pub part_taken : (n : ℕ) → n ≤ k → take n (drop at (put_mid at k room part)) ≡ take n part
  part_taken n h =
      let d : length (take at room) ≡ at = length-take-le at room (omega arith) in
      ap (take n) (drop_at (take at room) (part ++ drop k (drop at room)) at d) ∙ take-append-le n part (drop k (drop at room)) (let long = l in omega arith)

  pub part_long : length (put_mid at k room part) ≡ length room
  part_long =
      let d : length (take at room) ≡ at = length-take-le at room (omega arith) in
      let e : length (drop k (drop at room)) ≡ length room - at - k = simp length-drop in
      let long = l in
      simp (length-append, d, e) (omega arith)

-- ---- quotes

module _ (text : List ℕ) (at : ℕ) (room part : List ℕ) (h : at < length text) (l : length part ≡ length (take (length text - at) (drop at room))) (fits : length text ≤ length room) where
  pub quote_fault : (e : Fault) → Until (Err e) (quoted_text (length text) at) is_quote text (at + 1) part
      → Reads (Err e) (quoted_text (length text) at (drop (at + 1) text)) text at (put_mid at (length text - at) room part)
  quote_fault e u = (nothing_escaped, u.0, u.1, u.2)

  module _ (t : Ended) (u : Until (Ok t) (quoted_text (length text) at) is_quote text (at + 1) part) where
    pub quote_open : t.next ≡ length text → quoted_text (length text) at (drop (at + 1) text) ≡ refused (faulty open_quote at)
    unfolding quoted_text
    quote_open e = let z : drop t.next text ≡ [] = drop_of_length-le text (omega arith) in u.0 ∙ rw z

    pub quote_closed : (t.next ≡ length text → ⊥)
        → Reads (Ok (record { next = t.next + 1; len = t.len; word = t.word })) (quoted_text (length text) at (drop (at + 1) text)) text at (put_mid at (length text - at) room part)
    quote_closed n =
        let b = u.1 in
        let c = u.2 in
        let i : t.next < length text = omega arith in
        let s : quoted_text (length text) at (drop t.next text) ≡ got (piece [] (drop (t.next + 1) text)) =
        rw (drop-cons text t.next 0 i, add-one) (quoted_stop (length text) at (get_or text t.next 0) (drop (suc t.next) text) (u.3 i)) in
        let p : take t.len (drop at (put_mid at (length text - at) room part)) ≡ take t.len part = part_taken at (length text - at) room part l (omega arith) t.len (omega arith) in (
          u.0 ∙ rw (s, p) (ap (λ (x : List ℕ). got (piece x (drop (t.next + 1) text))) (append-nil (take t.len part))),
          omega arith,
          omega arith,
          λ e. clash e u.4,
        )

-- ---- terms

all_more : (P : ℕ → Bool) (s : List ℕ) (c : ℕ) → all P s ≡ true → P c ≡ true → all P (s ++ (c ∷ [])) ≡ true
unfolding all
all_more P [] c h k = both k refl
all_more P (x ∷ s) c h k = both (and_l (P x) (all P s) h) (all_more P s c (and_r (P x) (all P s) h) k)

-- the first k bytes of the term are letters, and stand in `out` too
pub record Lettered (term out : List ℕ) (k : ℕ) : Type 0 where
  pub laid : take k out ≡ take k term
  pub letters : all is_letter (take k term) ≡ true

pub lettered_none : (term out : List ℕ) → Lettered term out 0
unfolding all
lettered_none term out = record { laid = refl; letters = refl }

pub lettered_more : {term out : List ℕ} {k : ℕ} → Lettered term out k → k < length term → k < length out → is_letter (get_or term k 0) ≡ true
    → Lettered term (set out k (get_or term k 0)) (k + 1)
lettered_more {term} {out} {k} L h l g =
    let one : take (k + 1) term ≡ take k term ++ (get_or term k 0 ∷ []) = rw add-one (take-suc term k 0 h) in
    record {
      laid = rw (one, add-one, take-suc-set out k (get_or term k 0) l) (ap (λ (s : List ℕ). s ++ (get_or term k 0 ∷ [])) L.laid);
      letters = rw one (all_more is_letter (take k term) (get_or term k 0) L.letters g);
    }

front_both : (a b : List ℕ) (r : Read Piece) → on_read (on_front a) (on_read (on_front b) r) ≡ on_read (on_front (a ++ b)) r
front_both a b (got (piece t s)) = ap (λ (l : List ℕ). got (piece l s)) (sym (append_assoc a b t))
front_both a b (refused f) = refl

front_less : (c : ℕ) (u : List ℕ) (r : Read Piece) → before c (on_read (on_front u) r) ≡ on_read (on_front (c ∷ u)) r
unfolding before
front_less c u (got (piece t s)) = refl
front_less c u (refused f) = refl

letters_front : (n : ℕ) (s : List ℕ) (k : ℕ) → all is_letter (take k s) ≡ true → is_text s ≡ true → term_text n s ≡ on_read (on_front (take k s)) (term_text n (drop k s))
unfolding all is_text
letters_front n s zero h x = sym (front_none (term_text n s))
letters_front n [] (suc k) h x = sym (front_none (term_text n []))
letters_front n (c ∷ s) (suc k) h x =
    let l : is_letter c ≡ true = and_l (is_letter c) (all is_letter (take k s)) h in
    let a = leb-true c 0x7f (and_l (leb c 0x7f) (is_text s) x) in
    let more = letters_front n s k (and_r (is_letter c) (all is_letter (take k s)) h) (and_r (leb c 0x7f) (is_text s) x) in
    let U = term_unescapes n in
    U.plain c s (letter_goes_on c (omega arith) l) (letter_other c l 0x5c refl) ∙ ap (before c) more ∙ front_less c (take k s) (term_text n (drop k s))

pub rest_long : (k : ℕ) (s : List ℕ) → length (take (length s - k) (drop k s)) ≡ length s - k
rest_long k s = rw take_rest (length-drop k s)

pub text_rest : (k : ℕ) (s : List ℕ) → is_text s ≡ true → is_text (drop k s) ≡ true
unfolding is_text
text_rest zero s h = h
text_rest (suc k) [] h = h
text_rest (suc k) (c ∷ s) h = text_rest k s (and_r (leb c 0x7f) (is_text s) h)

term_stops : (text : List ℕ) (i : ℕ) → (i < length text → ends_term (get_or text i 0) ≡ true) → term_text (length text) (drop i text) ≡ got (piece [] (drop i text))
unfolding term_text
term_stops text i h = pass (dec_lt i (length text))
  where
    pass : Dec (i < length text) → term_text (length text) (drop i text) ≡ got (piece [] (drop i text))
    pass (yes l) = rw (drop-cons text i 0 l) (term_stop (length text) (get_or text i 0) (drop (suc i) text) (h l))
    pass (no l) = let z : drop i text ≡ [] = drop_of_length-le text (omega arith) in rw z

module _ (text : List ℕ) (at len : ℕ) (h : at + len ≤ length text) (x : is_text text ≡ true) (letters : all is_letter (take len (drop at text)) ≡ true) where
  whole_term : term_text (length text) (drop at text) ≡ on_read (on_front (take len (drop at text))) (term_text (length text) (drop (at + len) text))
  whole_term = letters_front (length text) (drop at text) len letters (text_rest at text x) ∙ rw drop-drop

  module _ (room part : List ℕ) (l : length part ≡ length (take (length text - at) (drop at room))) (fits : length text ≤ length room) (laid : take len part ≡ take len (drop at text)) where
    abbrev pub lettered : List ℕ
    lettered = put_mid at (length text - at) room part

    has_letters : take len (drop at lettered) ≡ take len (drop at text)
    has_letters = part_taken at (length text - at) room part l (omega arith) len (omega arith) ∙ laid

    pub term_word : (at + len < length text → ends_term (get_or text (at + len) 0) ≡ true)
        → Reads (Ok (record { next = at + len; len = len; word = true })) (term_text (length text) (drop at text)) text at lettered
    term_word e = (
      whole_term ∙ rw (term_stops text (at + len) e, has_letters) (ap (λ (t : List ℕ). got (piece t (drop (at + len) text))) (append-nil (take len (drop at text)))),
      h,
      omega arith,
      λ _. record { letters = rw has_letters letters; ended = refl },
    )

    pub term_room : length text ≤ at + len + length (take (length text - (at + len)) (drop (at + len) lettered))
    term_room =
        let long = part_long at (length text - at) room part l (omega arith) in
        let d = length-drop (at + len) lettered in
        let e = length-take-le (length text - (at + len)) (drop (at + len) lettered) (omega arith) in
        omega arith

    -- what is read on goes behind the letters
    module _ (more : List ℕ) (m : length more ≡ length (take (length text - (at + len)) (drop (at + len) lettered))) where
      abbrev pub after : List ℕ
      after = put_mid (at + len) (length text - (at + len)) lettered more

      pub term_kept : length text ≤ text_most → Kept at room after
      term_kept s =
          let a = part_kept at (length text - at) room part l (omega arith) (omega arith) in
          let b = part_kept (at + len) (length text - (at + len)) lettered more m (omega (arith, part_long at (length text - at) room part l (omega arith))) (omega arith) in
          record { front = take_less at (at + len) after lettered (omega arith) b.front ∙ a.front; row = b.row ∙ a.row }

      pub term_fault : (e : Fault) → Until (Err e) (term_text (length text)) ends_term text (at + len) more
          → Reads (Err e) (term_text (length text) (drop at text)) text at after
      term_fault e u = (nothing_escaped, whole_term ∙ rw (u.0), u.1, u.2)

      pub term_more : (t : Ended) → Until (Ok t) (term_text (length text)) ends_term text (at + len) more
          → Reads (Ok (record { next = t.next; len = len + t.len; word = t.word })) (term_text (length text) (drop at text)) text at after
      term_more t u =
          let b = u.1 in
          let c = u.2 in
          let long = part_long at (length text - at) room part l (omega arith) in
          let front : take (at + len) after ≡ take (at + len) lettered = take-put_mid_below (at + len) (length text - (at + len)) lettered more (at + len) (omega arith) (omega arith) in
          let old : take len (drop at after) ≡ take len (drop at text) = sym (drop-take at len after) ∙ ap (drop at) front ∙ drop-take at len lettered ∙ has_letters in
          let new : take t.len (drop (at + len) after) ≡ take t.len more = part_taken (at + len) (length text - (at + len)) lettered more m (omega arith) t.len (omega arith) in
          let p : take (len + t.len) (drop at after) ≡ take len (drop at text) ++ take t.len more = rw (take-add, old, drop-drop, new) in (
            whole_term ∙ rw (u.0, front_both, term_stops text t.next u.3, p)
                (ap (λ (x : List ℕ). got (piece x (drop t.next text))) (append-nil (take len (drop at text) ++ take t.len more))),
            u.1,
            omega arith,
            λ e. clash e u.4,
          )
