-- Terms and phrases written: a token's text as it is spelled, a term, a row of clauses or of words, and the query that they make.
-- Assumes nothing.
use mathlib.Core.Path.{◌≡◌, refl, sym, ap, subst, ◌∙◌}
use mathlib.Core.Bool.{Bool, true, false, cond}
use Prim.Native.Nat.{ℕ, zero, suc, ◌+◌, ◌-◌, ◌≤◌, ◌<◌}
use mathlib.Core.List.{List, [], ◌∷◌, ◌++◌, append_assoc, append-nil}
use native.Mathlib.Decide.{dec_lt}
use native.Mathlib.Omega.{arith}
use native.Mathlib.Numerals.{add-one}
use lib.ListN.{length, take, drop, get_or, set, length-append, length-drop}
use lib.Seq.{paste, length-take-le}
use Rattle.rules.specs.Numbers.{word_tag}
use Rattle.rules.specs.Bytes.{big, part}
use Rattle.rules.specs.Analysis.{tokenize, lower, lowercase}
use Rattle.rules.specs.Query.{Word, word, Kind, Query, term, phrase, boolean}
use Rattle.rules.specs.Stored.{encode, encodes, encode_words, kind_tag}
use Rattle.rules.specs.Parsing.{Made, nothing, made, operator_kind, term_clauses, term_of, counted_from, from_first, phrase_of}
use Rattle.rules.proofs.Stored.Bigs.{length_big}
use Rattle.rules.proofs.Stored.Sizes.{length_term, length_phrase, length_boolean, length_encode}
use Rattle.analysis.specs.Tokens.{lowers, spelled, written_byte, rest_words, Next}
use Rattle.analysis.proofs.Spelling.{spelled_length}
use Rattle.analysis.proofs.Keeping.{rest_words_lem}
use Rattle.numbers.specs.Laid.{Put, header}
use Rattle.numbers.proofs.Laying.{laid_none, put_then, put_body, copy_turn, copy_end}
use Rattle.counted.specs.Kinds.{made_bytes, made_length}
use Rattle.clauses.specs.Leaves.{term_row, leaf_of}
use Rattle.clauses.specs.Written.{HasRoom}
use Rattle.clauses.proofs.Fronts.{put_before, head_before}

-- ---- spelling

spelled_by : (b : Bool) (s : List ℕ) (k : ℕ) → k < length s → cond b (lower (get_or s k 0)) (get_or s k 0) ≡ get_or (cond b (lowercase s) s) k 0
spelled_by true [] k h = absurd (omega arith)
spelled_by true (c ∷ s) zero h = refl
spelled_by true (c ∷ s) (suc k) h = spelled_by true s k (omega arith)
spelled_by false s k h = refl

pub spelled_get : (a : ℕ) (s : List ℕ) (k : ℕ) → k < length s → written_byte a (get_or s k 0) ≡ get_or (spelled a s) k 0
unfolding spelled written_byte
spelled_get a s k h = spelled_by (lowers a) s k h

pub spelled_turn : (a : ℕ) (out l s : List ℕ) (at k x : ℕ) → at + length s ≤ length out → k < length s → x ≡ written_byte a (get_or s k 0)
    → l ≡ paste out at (spelled a s) k → set l (at + k) x ≡ paste out at (spelled a s) (k + 1)
spelled_turn a out l s at k x h i e p =
    ap (set l (at + k)) (e ∙ spelled_get a s k i)
    ∙ copy_turn out l (spelled a s) at k (omega (arith, spelled_length a s)) (omega (arith, spelled_length a s)) p

pub spelled_put : (a : ℕ) (out l s : List ℕ) (at k : ℕ) → k ≤ length s → length s ≤ k → l ≡ paste out at (spelled a s) k → Put out at (spelled a s) (at + length s) l
spelled_put a out l s at k h i e = record {
  place = omega (arith, spelled_length a s);
  bytes = copy_end out l (spelled a s) at k (omega (arith, spelled_length a s)) (omega (arith, spelled_length a s)) e;
}

-- ---- one part after the other

pub term_put : {out o1 o2 o3 o4 : List ℕ} {at n b c m d e : ℕ} {f t : List ℕ} → Put out at (header 1 n) b o1 → Put o1 b (part 0x10 f) c o2
    → Put o2 c (header 0x11 m) d o3 → Put o3 d t e o4 → n ≡ 6 + length f + length t → m ≡ length t → at + 9 + length f + length t ≤ length out
    → length o1 ≡ length out → length o2 ≡ length out → Put out at (encode (term f t)) e o4
unfolding encode
term_put {f = f} {t = t} P Q R S en em h l1 l2 =
    let Z = put_body R S em (omega (arith, P.place, Q.place)) in
    let Y = put_then Q Z (omega (arith, P.place)) in
    put_body P Y (en ∙ omega (arith, length-append (part 0x10 f) (part 0x11 t))) (omega (arith, length-append (part 0x10 f) (part 0x11 t)))

pub word_put : {out o1 o2 o3 : List ℕ} {at n b c d : ℕ} (p : ℕ) {t : List ℕ} → Put out at (header word_tag n) b o1 → Put o1 b (big 4 p) c o2 → Put o2 c t d o3
    → n ≡ 4 + length t → at + 7 + length t ≤ length out → length o1 ≡ length out → Put out at (part word_tag (big 4 p ++ t)) d o3
word_put p {t} P Q R en h l1 =
    let Y = put_then Q R (omega (arith, P.place, length_big 4 p)) in
    put_body P Y (en ∙ omega (arith, length-append (big 4 p) t, length_big 4 p)) (omega (arith, length-append (big 4 p) t, length_big 4 p))

pub length_word : (p : ℕ) (t : List ℕ) → length (part word_tag (big 4 p ++ t)) ≡ 7 + length t
length_word p t = omega (arith, length-append (big 4 p) t, length_big 4 p)

-- ---- a row

-- of the whole, what is done is laid, and the rest is left
pub record Laying (whole rest out₀ : List ℕ) (at w : ℕ) (out : List ℕ) : Type 0 where
  pub done : List ℕ
  pub put : Put out₀ at done w out
  pub splits : whole ≡ done ++ rest
  pub long : length out ≡ length out₀

pub laying_starts : (whole out : List ℕ) (at : ℕ) → Laying whole whole out at at out
laying_starts whole out at = record { done = []; put = record { place = omega arith; bytes = sym (laid_none out at) }; splits = refl; long = refl }

module _ {whole rest out₀ : List ℕ} {at w : ℕ} {out : List ℕ} (L : Laying whole rest out₀ at w out) where
  pub laying_ends : rest ≡ [] → Put out₀ at whole w out
  laying_ends e = subst (λ (s : List ℕ). Put out₀ at s w out) (sym (L.splits ∙ ap (λ (r : List ℕ). L.done ++ r) e ∙ append-nil L.done)) L.put

  module _ (s rest' : List ℕ) (e : rest ≡ s ++ rest') (h : at + length whole ≤ length out₀) where
    row_length : length whole ≡ length L.done + (length s + length rest')
    row_length = ap length L.splits ∙ length-append L.done rest ∙ omega (arith, ap length e, length-append s rest')

    pub laying_fits : w + length s ≤ length out
    laying_fits = omega (arith, row_length, L.put.place, L.long)

    pub laying_on : {w' : ℕ} {out' : List ℕ} → Put out w s w' out' → length out' ≡ length out → Laying whole rest' out₀ at w' out'
    laying_on P l = record {
      done = L.done ++ s;
      put = put_then L.put P (omega (arith, row_length));
      splits = L.splits ∙ ap (λ (r : List ℕ). L.done ++ r) e ∙ sym (append_assoc L.done s rest');
      long = l ∙ L.long;
    }

pub row_none : (tag : ℕ) (f : List ℕ) {ws : List Word} → ws ≡ [] → term_row tag f ws ≡ []
unfolding term_row
row_none tag f e = rw e

pub row_one : (tag : ℕ) (f : List ℕ) {p : ℕ} {t : List ℕ} {vs ws : List Word} → vs ≡ word p t ∷ ws → term_row tag f vs ≡ part tag (encode (term f t)) ++ term_row tag f ws
unfolding term_row
row_one tag f e = rw e

pub words_none : (b : ℕ) {ws : List Word} → ws ≡ [] → encode_words (counted_from b ws) ≡ []
unfolding encode_words counted_from
words_none b e = rw e

pub words_one : (b : ℕ) {p : ℕ} {t : List ℕ} {vs ws : List Word} → vs ≡ word p t ∷ ws → encode_words (counted_from b vs) ≡ part word_tag (big 4 (p - b) ++ t) ++ encode_words (counted_from b ws)
unfolding encode_words counted_from
words_one b e = rw e

-- the code's cut from start to start + len
slice_is : (s : List ℕ) (start len : ℕ) → take (start + len - start) (drop start s) ≡ take len (drop start s)
slice_is s start len = let e : start + len - start ≡ len = omega arith in ap (λ (x : ℕ). take x (drop start s)) e

pub slice_length : (s : List ℕ) (start len : ℕ) → len ≤ length s - start → length (take (start + len - start) (drop start s)) ≡ len
slice_length s start len h = ap length (slice_is s start len) ∙ length-take-le len (drop start s) (rw length-drop h)

module _ {a : ℕ} {s : List ℕ} {from p start len position : ℕ} (F : Next a s from p start len position) where
  one_here : (len ≡ 0 → ⊥) → rest_words a s from p ≡ word position (spelled a (take (start + len - start) (drop start s))) ∷ rest_words a s (start + len) (position + 1)
  one_here n =
      F.one (omega arith)
      ∙ ap (λ (t : List ℕ). word position (spelled a t) ∷ rest_words a s (start + len) (suc position)) (sym (slice_is s start len))
      ∙ rw (add-one position)

  pub row_here : (tag : ℕ) (f : List ℕ) → (len ≡ 0 → ⊥)
      → term_row tag f (rest_words a s from p)
      ≡ part tag (encode (term f (spelled a (take (start + len - start) (drop start s))))) ++ term_row tag f (rest_words a s (start + len) (position + 1))
  row_here tag f n = row_one tag f (one_here n)

  pub words_here : (b : ℕ) {q : ℕ} → q ≡ position - b → (len ≡ 0 → ⊥)
      → encode_words (counted_from b (rest_words a s from p))
      ≡ part word_tag (big 4 q ++ spelled a (take (start + len - start) (drop start s))) ++ encode_words (counted_from b (rest_words a s (start + len) (position + 1)))
  words_here b e n = words_one b (one_here n) ∙ rw e

-- a row of all the tokens begins with all of them left
pub row_all : (tag : ℕ) (f : List ℕ) (a : ℕ) (s out : List ℕ) (at : ℕ) → Laying (term_row tag f (tokenize a s)) (term_row tag f (rest_words a s 0 0)) out at at out
row_all tag f a s out at = rw (rest_words_lem a s) (laying_starts (term_row tag f (tokenize a s)) out at)

-- the words of a phrase are counted from the first token's position
first_is : {a : ℕ} {s : List ℕ} {start len position : ℕ} → Next a s 0 0 start len position → counted_from position (rest_words a s 0 0) ≡ from_first (tokenize a s)
unfolding from_first counted_from
first_is {a} {s} {start} {len} {position} F = pass (dec_lt 0 len)
  where
    pass : Dec (0 < len) → counted_from position (rest_words a s 0 0) ≡ from_first (tokenize a s)
    pass (yes h) = ap (counted_from position) (F.one h) ∙ sym (ap from_first (sym (rest_words_lem a s) ∙ F.one h))
    pass (no n) = let e = F.none (omega arith) in ap (counted_from position) e ∙ sym (ap from_first (sym (rest_words_lem a s) ∙ e))

pub words_all : {a : ℕ} {s : List ℕ} {start len position : ℕ} → Next a s 0 0 start len position → (out : List ℕ) (at : ℕ)
    → Laying (encode_words (from_first (tokenize a s))) (encode_words (counted_from position (rest_words a s 0 0))) out at at out
words_all {a} {s} F out at = rw (first_is F) (laying_starts (encode_words (from_first (tokenize a s))) out at)

pub text_none : {a : ℕ} {s : List ℕ} {start len position : ℕ} → Next a s 0 0 start len position → len ≡ 0 → tokenize a s ≡ []
text_none {a} {s} F e = sym (rest_words_lem a s) ∙ F.none e

-- a first token, and whether a second follows it
module _ {a : ℕ} {s : List ℕ} {start len position : ℕ} (F : Next a s 0 0 start len position) (n : len ≡ 0 → ⊥)
    {start₂ len₂ position₂ : ℕ} (G : Next a s (start + len) (position + 1) start₂ len₂ position₂) where
  pub text_one : len₂ ≡ 0 → tokenize a s ≡ word position (spelled a (take (start + len - start) (drop start s))) ∷ []
  text_one e =
      sym (rest_words_lem a s) ∙ one_here F n ∙ ap (λ (r : List Word). word position (spelled a (take (start + len - start) (drop start s))) ∷ r) (G.none e)

  pub text_many : (len₂ ≡ 0 → ⊥) → (v : Word) × (w : Word) × (ws : List Word) × (tokenize a s ≡ v ∷ w ∷ ws)
  text_many m = (
    word position (spelled a (take (start + len - start) (drop start s))),
    word position₂ (spelled a (take (start₂ + len₂ - start₂) (drop start₂ s))),
    rest_words a s (start₂ + len₂) (position₂ + 1),
    sym (rest_words_lem a s) ∙ one_here F n ∙ ap (λ (r : List Word). word position (spelled a (take (start + len - start) (drop start s))) ∷ r) (one_here G m),
  )

-- a clause and a word fit where their bytes do
pub clause_room : (f t out : List ℕ) (a w tag : ℕ) → w + length (part tag (encode (term f (spelled a t)))) ≤ length out → w + 12 + length f + length t ≤ length out
clause_room f t out a w tag h = omega (arith, length_term f (spelled a t), spelled_length a t)

pub word_room : (t out : List ℕ) (a w p : ℕ) → w + length (part word_tag (big 4 p ++ spelled a t)) ≤ length out → w + 7 + length t ≤ length out
word_room t out a w p h = omega (arith, length_word p (spelled a t), spelled_length a t)

-- ---- the queries

pub row_is : (k : Kind) (f : List ℕ) (ws : List Word) → encodes (term_clauses k f ws) ≡ term_row (kind_tag k) f ws
unfolding encodes term_clauses term_row
row_is k f [] = refl
row_is k f (word p t ∷ ws) = ap (λ (r : List ℕ). part (kind_tag k) (encode (term f t)) ++ r) (row_is k f ws)

-- what is made of no token, of one, and of several
module _ (o : ℕ) (f : List ℕ) where
  pub leaf_none : (b : Bool) {ws : List Word} → ws ≡ [] → leaf_of b o f ws ≡ nothing
  unfolding term_of phrase_of
  leaf_none true e = rw e
  leaf_none false e = rw e

  pub leaf_one : (b : Bool) {p : ℕ} {t : List ℕ} {ws : List Word} → ws ≡ word p t ∷ [] → leaf_of b o f ws ≡ made (term f t)
  unfolding term_of phrase_of
  leaf_one true e = rw e
  leaf_one false e = rw e

  pub leaf_boolean : {b : Bool} {v w : Word} {vs ws : List Word} → b ≡ true → ws ≡ v ∷ w ∷ vs
      → leaf_of b o f ws ≡ made (boolean 0 (term_clauses (operator_kind o) f ws))
  unfolding term_of
  leaf_boolean b e = rw (b, e)

  pub leaf_phrase : {b : Bool} {v w : Word} {vs ws : List Word} → b ≡ false → ws ≡ v ∷ w ∷ vs → leaf_of b o f ws ≡ made (phrase f (from_first ws))
  unfolding phrase_of
  leaf_phrase b e = rw (b, e)

pub made_room : {m : Made} {q : Query} (at n : ℕ) → m ≡ made q → HasRoom m at n → at + length (encode q) ≤ n
made_room {q = q} at n e h = let l = ap made_length e in omega (arith, h (omega (arith, length_encode q)))

pub made_put : {m : Made} {q : Query} {out out' : List ℕ} {at r : ℕ} → m ≡ made q → Put out at (encode q) r out' → Put out at (made_bytes m) r out'
made_put {out = out} {out'} {at} {r} e P = subst (λ (x : Made). Put out at (made_bytes x) r out') (sym e) P

-- a Boolean: its clauses, and its front before them
module _ (o : ℕ) (f : List ℕ) (a : ℕ) (s : List ℕ) where
  pub boolean_length : length (encode (boolean 0 (term_clauses (operator_kind o) f (tokenize a s)))) ≡ 8 + length (term_row (kind_tag (operator_kind o)) f (tokenize a s))
  boolean_length = length_boolean 0 (term_clauses (operator_kind o) f (tokenize a s)) ∙ ap (λ (r : List ℕ). 8 + length r) (row_is (operator_kind o) f (tokenize a s))

  pub boolean_put : {out o1 o2 o3 : List ℕ} {at w b c : ℕ} (m : ℕ) → Put out (at + 8) (term_row (kind_tag (operator_kind o)) f (tokenize a s)) w o1
      → Put o1 at (header 3 m) b o2 → Put o2 b (part 0x13 (big 2 0)) c o3 → m ≡ w - at - 3
      → at + length (encode (boolean 0 (term_clauses (operator_kind o) f (tokenize a s)))) ≤ length out → length o1 ≡ length out
      → Put out at (encode (boolean 0 (term_clauses (operator_kind o) f (tokenize a s)))) w o3
  unfolding encode
  boolean_put {out} {o3 = o3} {at} {w} m P Q R em h l =
      let row = term_row (kind_tag (operator_kind o)) f (tokenize a s) in
      let z = boolean_length in
      let F = put_then Q R (omega arith) in
      let Z = put_before P F refl (omega arith) in
      let e : m ≡ length (part 0x13 (big 2 0) ++ row) = omega (arith, P.place, length-append (part 0x13 (big 2 0)) row) in
      subst (λ (x : List ℕ). Put out at x w o3)
      (ap (λ (y : ℕ). (header 3 y ++ part 0x13 (big 2 0)) ++ row) e ∙ ap (λ (r : List ℕ). part 3 (part 0x13 (big 2 0) ++ r)) (sym (row_is (operator_kind o) f (tokenize a s)))) Z

-- a phrase: its field and words, and its header before them
pub phrase_put : (f : List ℕ) (a : ℕ) (s : List ℕ) {out o1 o2 o3 : List ℕ} {at b w p : ℕ} (m : ℕ) → Put out (at + 3) (part 0x10 f) b o1 → Put o1 b (encode_words (from_first (tokenize a s))) w o2
    → Put o2 at (header 2 m) p o3 → m ≡ w - at - 3 → at + length (encode (phrase f (from_first (tokenize a s)))) ≤ length out → Put out at (encode (phrase f (from_first (tokenize a s)))) w o3
unfolding encode
phrase_put f a s m P Q R em h =
    let ws = encode_words (from_first (tokenize a s)) in
    let z = length_phrase f (from_first (tokenize a s)) in
    let n = length-append (part 0x10 f) ws in
    let Y = put_then P Q (omega arith) in
    head_before Y R refl (omega (arith, Y.place)) (omega arith)
