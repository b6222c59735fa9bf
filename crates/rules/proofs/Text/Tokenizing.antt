-- What lexing gives: tokens of the known kinds, in the order of their places, each text within the bytes that its token takes, and one
-- answer whatever the fuel, once it suffices. Section 'Lexing and parsing'.
use mathlib.Core.Path.{◌≡◌, refl, ap, subst, ◌∙◌}
use mathlib.Core.Logic.{⊎_elim}
use Prim.Native.Nat.{ℕ, zero, suc, ◌+◌, ◌-◌, ◌≤◌, ◌<◌}
use mathlib.Core.List.{List, [], ◌∷◌}
use mathlib.Core.Bool.{Bool, true, false, not, ◌||◌, cond}
use native.Mathlib.Omega.{arith}
use lib.ListN.{length, drop, length-drop}
use lib.Dec.{leb, eqb}
use borrow.Author.Tests.{eqb-true, eqb-false, not-true, not-false}
use Rattle.rules.specs.Numbers.{Refusal, faulty, Read, got, refused, need, on_read, and_then, nothing_escaped}
use Rattle.rules.specs.Bytes.{ascii, same, is_text, some}
use Rattle.rules.specs.Analysis.{is_space, ends_term}
use Rattle.rules.specs.Lexing.{Token, end_kind, term_kind, and_kind, or_kind, not_kind, Piece, piece, on_text, start_in, before, is_quote, is_backslash, is_bracket, is_wildcard, term_text, quoted_text, word_kind, Lexed, lexed, word_lexed, term_end, quoted_end, term_from, quoted_from, sign_kind, doubled, token_at, token_then, tokens_step, tokens_in, lex}
use Rattle.rules.specs.Parsing.{token_of, start_of}
use Rattle.rules.proofs.Bools.{clash, split, and_l, and_r, both, neither}

-- ---- what holds of what is read, if anything is

abbrev pub Holds : {A : Type 0} → (A → Type 0) → Read A → Type 0
Holds P (got a) = P a
Holds P (refused f) = Unit {0}

module _ {A : Type 0} (P : A → Type 0) where
  pub holds_of : {a : A} (r : Read A) → Holds P r → r ≡ got a → P a
  holds_of r h e = subst (Holds P) e h

  holds_cond : (b : Bool) (x y : Read A) → (b ≡ true → Holds P x) → (b ≡ false → Holds P y) → Holds P (cond b x y)
  holds_cond true x y h k = h refl
  holds_cond false x y h k = k refl

  holds_need : (b : Bool) (f : Refusal) (x : Read A) → Holds P x → Holds P (need b f x)
  holds_need true f x h = h
  holds_need false f x h = tt

  holds_both : (Q : A → Type 0) (r : Read A) → Holds P r → Holds Q r → Holds (λ a. P a × Q a) r
  holds_both Q (got a) h k = (h, k)
  holds_both Q (refused f) h k = tt

  holds_each : (Q : A → Type 0) → ((a : A) → P a → Q a) → (r : Read A) → Holds P r → Holds Q r
  holds_each Q k (got a) h = k a h
  holds_each Q k (refused f) h = tt

  module _ {B : Type 0} (Q : B → Type 0) where
    holds_on : (g : A → B) → ((a : A) → P a → Q (g a)) → (r : Read A) → Holds P r → Holds Q (on_read g r)
    holds_on g k (got a) h = k a h
    holds_on g k (refused f) h = tt

    holds_then : (g : A → Read B) → ((a : A) → P a → Holds Q (g a)) → (r : Read A) → Holds P r → Holds Q (and_then r g)
    holds_then g k (got a) h = k a h
    holds_then g k (refused f) h = tt

-- ---- a text that is unescaped

-- how a term and a quote go on, in the last bytes of n: `stop` tells the byte that ends the text
pub record Unescaping (n : ℕ) (F : List ℕ → Read Piece) (stop : ℕ → Bool) : Type 0 where
  pub plain : (c : ℕ) (s : List ℕ) → stop c ≡ false → is_backslash c ≡ false → F (c ∷ s) ≡ before c (F s)
  pub escaped : (c d : ℕ) (s : List ℕ) → stop c ≡ false → is_backslash c ≡ true → F (c ∷ d ∷ s) ≡ before d (F s)
  pub dangling : (c : ℕ) → stop c ≡ false → is_backslash c ≡ true → F (c ∷ []) ≡ refused (faulty nothing_escaped (start_in n (c ∷ [])))

term_plain : (n c : ℕ) (s : List ℕ) → ends_term c ≡ false → is_backslash c ≡ false → term_text n (c ∷ s) ≡ before c (term_text n s)
unfolding term_text before
term_plain n c [] h k = simp (h, k)
term_plain n c (d ∷ s) h k = simp (h, k)

term_escaped : (n c d : ℕ) (s : List ℕ) → ends_term c ≡ false → is_backslash c ≡ true → term_text n (c ∷ d ∷ s) ≡ before d (term_text n s)
unfolding term_text before
term_escaped n c d s h k = simp (h, k)

term_dangling : (n c : ℕ) → ends_term c ≡ false → is_backslash c ≡ true → term_text n (c ∷ []) ≡ refused (faulty nothing_escaped (start_in n (c ∷ [])))
unfolding term_text
term_dangling n c h k = simp (h, k)

pub term_unescapes : (n : ℕ) → Unescaping n (term_text n) ends_term
term_unescapes n = record { plain = term_plain n; escaped = term_escaped n; dangling = term_dangling n }

quoted_plain : (n p c : ℕ) (s : List ℕ) → is_quote c ≡ false → is_backslash c ≡ false → quoted_text n p (c ∷ s) ≡ before c (quoted_text n p s)
unfolding quoted_text before
quoted_plain n p c [] h k = simp (h, k)
quoted_plain n p c (d ∷ s) h k = simp (h, k)

quoted_escaped : (n p c d : ℕ) (s : List ℕ) → is_quote c ≡ false → is_backslash c ≡ true → quoted_text n p (c ∷ d ∷ s) ≡ before d (quoted_text n p s)
unfolding quoted_text before
quoted_escaped n p c d s h k = simp (h, k)

quoted_dangling : (n p c : ℕ) → is_quote c ≡ false → is_backslash c ≡ true → quoted_text n p (c ∷ []) ≡ refused (faulty nothing_escaped (start_in n (c ∷ [])))
unfolding quoted_text
quoted_dangling n p c h k = simp (h, k)

pub quoted_unescapes : (n p : ℕ) → Unescaping n (quoted_text n p) is_quote
quoted_unescapes n p = record { plain = quoted_plain n p; escaped = quoted_escaped n p; dangling = quoted_dangling n p }

-- where it ends
pub term_stop : (n c : ℕ) (s : List ℕ) → ends_term c ≡ true → term_text n (c ∷ s) ≡ got (piece [] (c ∷ s))
unfolding term_text
term_stop n c [] h = simp h
term_stop n c (d ∷ s) h = simp h

pub quoted_stop : (n p c : ℕ) (s : List ℕ) → is_quote c ≡ true → quoted_text n p (c ∷ s) ≡ got (piece [] s)
unfolding quoted_text
quoted_stop n p c [] h = simp h
quoted_stop n p c (d ∷ s) h = simp h

-- what holds at the end of a text, and of a text with one byte more, holds of every text that is read
module _ (n : ℕ) (F : List ℕ → Read Piece) (stop : ℕ → Bool) (U : Unescaping n F stop) (P : List ℕ → Piece → Type 0) (none : Holds (P []) (F []))
    (ends : (c : ℕ) (s : List ℕ) → stop c ≡ true → Holds (P (c ∷ s)) (F (c ∷ s)))
    (plain : (c : ℕ) (s : List ℕ) (p : Piece) → P s p → P (c ∷ s) (on_text c p))
    (escaped : (c d : ℕ) (s : List ℕ) (p : Piece) → P s p → P (c ∷ d ∷ s) (on_text d p)) where
  one_more_lem : (c : ℕ) (s : List ℕ) → Holds (P s) (F s) → stop c ≡ false → is_backslash c ≡ false → Holds (P (c ∷ s)) (F (c ∷ s))
  unfolding before
  one_more_lem c s h e b = rw (U.plain c s e b) (holds_on (P s) (P (c ∷ s)) (on_text c) (plain c s) (F s) h)

  two_more : (c d : ℕ) (s : List ℕ) → Holds (P s) (F s) → stop c ≡ false → is_backslash c ≡ true → Holds (P (c ∷ d ∷ s)) (F (c ∷ d ∷ s))
  unfolding before
  two_more c d s h e b = rw (U.escaped c d s e b) (holds_on (P s) (P (c ∷ d ∷ s)) (on_text d) (escaped c d s) (F s) h)

  unescaped_holds : (s : List ℕ) → Holds (P s) (F s)
  unescaped_holds [] = none
  unescaped_holds (c ∷ []) =
      ⊎_elim (ends c []) (λ h. ⊎_elim (λ b. rw (U.dangling c h b) tt) (one_more_lem c [] none h) (split (is_backslash c))) (split (stop c))
  unescaped_holds (c ∷ d ∷ s) =
      let one = one_more_lem c (d ∷ s) (unescaped_holds (d ∷ s)) in
      let two = two_more c d s (unescaped_holds s) in
      ⊎_elim (ends c (d ∷ s)) (λ h. ⊎_elim (two h) (one h) (split (is_backslash c))) (split (stop c))

-- ---- how many bytes are taken

-- of m bytes, the text and what follows it leave k
abbrev Within : ℕ → ℕ → Piece → Type 0
Within k m (piece t r) = k + length t + length r ≤ m

within_plain : (k c : ℕ) (s : List ℕ) (p : Piece) → Within k (length s) p → Within k (length (c ∷ s)) (on_text c p)
within_plain k c s (piece t r) h = omega arith

within_escaped : (k c d : ℕ) (s : List ℕ) (p : Piece) → Within k (length s) p → Within k (length (c ∷ d ∷ s)) (on_text d p)
within_escaped k c d s (piece t r) h = omega arith

term_within : (n : ℕ) (s : List ℕ) → Holds (Within 0 (length s)) (term_text n s)
unfolding term_text
term_within n =
    unescaped_holds n (term_text n) ends_term (term_unescapes n) (λ s. Within 0 (length s)) (omega arith) (λ c s e. rw (term_stop n c s e) (omega arith))
    (within_plain 0) (within_escaped 0)

quoted_within : (n p : ℕ) (s : List ℕ) → Holds (Within 1 (length s)) (quoted_text n p s)
unfolding quoted_text
quoted_within n p =
    unescaped_holds n (quoted_text n p) is_quote (quoted_unescapes n p) (λ s. Within 1 (length s)) tt (λ c s e. rw (quoted_stop n p c s e) (omega arith))
    (within_plain 1) (within_escaped 1)

-- a term that begins with a byte of its own takes that byte
abbrev Some : Piece → Type 0
Some (piece t r) = 1 ≤ length t

some_before : (c : ℕ) (r : Read Piece) → Holds Some (before c r)
unfolding before
some_before c (got (piece t r)) = omega arith
some_before c (refused f) = tt

term_some : (n c : ℕ) (s : List ℕ) → ends_term c ≡ false → Holds Some (term_text n (c ∷ s))
unfolding term_text
term_some n c [] h = rw h (holds_cond Some (is_backslash c) _ _ (λ _. tt) (λ _. omega arith))
term_some n c (d ∷ s) h = rw h (holds_cond Some (is_backslash c) _ _ (λ _. some_before d (term_text n s)) (λ _. some_before c (term_text n (d ∷ s))))

-- ---- a token

sign_most : (c : ℕ) → sign_kind c ≤ 12
unfolding sign_kind
sign_most c =
    most (eqb c 0x2b) _ _ (omega arith) (most (eqb c 0x2d) _ _ (omega arith) (most (eqb c 0x21) _ _ (omega arith) (most (eqb c 0x28) _ _ (omega arith)
    (most (eqb c 0x29) _ _ (omega arith) (most (eqb c 0x3a) _ _ (omega arith) (most (eqb c 0x5e) _ _ (omega arith) (most (eqb c 0x7e) _ _ (omega arith) (omega arith))))))))
  where
    most : (b : Bool) (x y : ℕ) → x ≤ 12 → y ≤ 12 → cond b x y ≤ 12
    most true x y h k = h
    most false x y h k = k

-- a byte that makes no token of its own is none of those that do
not_sign : (c x : ℕ) → eqb (sign_kind x) end_kind ≡ false → eqb (sign_kind c) end_kind ≡ true → eqb c x ≡ false
not_sign c x h k = ⊎_elim (λ e. clash k (ap (λ (y : ℕ). eqb (sign_kind y) end_kind) (eqb-true c x e) ∙ h)) (λ e. e) (split (eqb c x))

-- a byte that begins a term does not end one
pub begins_term : (c : ℕ) → is_space c ≡ false → eqb (sign_kind c) end_kind ≡ true → is_quote c ≡ false → is_bracket c ≡ false → is_wildcard c ≡ false
    → ends_term c ≡ false
unfolding ascii some sign_kind
begins_term c space sign quote bracket wildcard =
    neither space (neither (no 0x21 refl) (neither (no 0x28 refl) (neither (no 0x29 refl) (neither (no 0x3a refl) (neither (no 0x5e refl)
    (neither quote (neither (no 0x7e refl) (of_four (eqb c 0x5b) (eqb c 0x5d) (eqb c 0x7b) (eqb c 0x7d) bracket wildcard))))))))
  where
    no : (x : ℕ) → eqb (sign_kind x) end_kind ≡ false → eqb c x ≡ false
    no x h = not_sign c x h sign

    of_four : {e : Bool} (a b c d : Bool) → a || (b || (c || (d || false))) ≡ false → e ≡ false → a || (b || (c || (d || e))) ≡ false
    of_four a b c d h k = rw (k, h)

-- ---- how many bytes a token takes

-- of the m bytes that follow its first one; and its kind is one of the twelve
abbrev Used : ℕ → Lexed → Type 0
Used m (lexed k t r) = (length r ≤ m) × (length t + length r ≤ suc m) × (1 ≤ k) × (k ≤ 12)

word_kinds : (t : List ℕ) → (1 ≤ word_kind t) × (word_kind t ≤ 12)
unfolding word_kind
word_kinds t = kinds (same t (ascii "AND")) (same t (ascii "OR")) (same t (ascii "NOT"))
  where
    kinds : (a b c : Bool) → (1 ≤ cond a and_kind (cond b or_kind (cond c not_kind term_kind))) × (cond a and_kind (cond b or_kind (cond c not_kind term_kind)) ≤ 12)
    kinds true b c = omega arith
    kinds false true c = omega arith
    kinds false false true = omega arith
    kinds false false false = omega arith

word_used : (m : ℕ) (t r : List ℕ) → 1 ≤ length t → length t + length r ≤ suc m → Used m (word_lexed t r)
word_used m t r h k =
    let kinds = word_kinds t in
    (omega arith, kept (eqb (word_kind t) term_kind), kinds.0, kinds.1)
  where
    kept : (b : Bool) → length (cond b t []) + length r ≤ suc m
    kept true = k
    kept false = omega arith

term_used : (n c : ℕ) (s : List ℕ) → ends_term c ≡ false → Holds (Used (length s)) (term_from n (c ∷ s))
unfolding term_from term_end
term_used n c s h =
    let W = Within 0 (length (c ∷ s)) in
    holds_then (λ p. W p × Some p) (Used (length s)) (term_end n) used (term_text n (c ∷ s))
    (holds_both W Some (term_text n (c ∷ s)) (term_within n (c ∷ s)) (term_some n c s h))
  where
    used : (p : Piece) → Within 0 (length (c ∷ s)) p × Some p → Holds (Used (length s)) (term_end n p)
    used (piece t []) k = word_used (length s) t [] k.1 (omega arith)
    used (piece t (d ∷ r)) k =
        holds_need (Used (length s)) (not (is_wildcard d)) _ _ (word_used (length s) t (d ∷ r) k.1 (omega arith))

quoted_used : (n p : ℕ) (s : List ℕ) → Holds (Used (length s)) (quoted_from n p s)
unfolding quoted_from
quoted_used n p s = holds_on (Within 1 (length s)) (Used (length s)) quoted_end used (quoted_text n p s) (quoted_within n p s)
  where
    used : (p : Piece) → Within 1 (length s) p → Used (length s) (quoted_end p)
    used (piece t r) h = omega arith

token_used : (n c : ℕ) (s : List ℕ) → is_space c ≡ false → Holds (Used (length s)) (token_at n c s)
unfolding token_at
token_used n c s space =
    let U = Used (length s) in
    let p = start_in n (c ∷ s) in
    let few : length (drop 1 s) ≤ length s = simp length-drop (omega arith) in
    holds_cond U (not (eqb (sign_kind c) end_kind)) _ _ (λ h. sign (eqb-false (sign_kind c) end_kind (not-true _ h)))
    (λ h. holds_cond U (doubled 0x26 c s) _ _ (λ _. (few, omega arith, omega arith, omega arith))
    (λ _. holds_cond U (doubled 0x7c c s) _ _ (λ _. (few, omega arith, omega arith, omega arith))
    (λ _. holds_cond U (is_quote c) _ _ (λ _. quoted_used n p s)
    (λ q. holds_cond U (is_bracket c) _ _ (λ _. tt)
    (λ b. holds_cond U (is_wildcard c) _ _ (λ _. tt)
    (λ w. term_used n c s (begins_term c space (not-false _ h) q b w)))))))
  where
    sign : (sign_kind c ≡ end_kind → ⊥) → Used (length s) (lexed (sign_kind c) [] s)
    sign n = (omega arith, omega arith, omega arith, sign_most c)

-- what follows a token is shorter than what begins with it
pub token_shorter : (n c : ℕ) (s : List ℕ) {k : ℕ} {t r : List ℕ} → is_space c ≡ false → token_at n c s ≡ got (lexed k t r) → length r ≤ length s
token_shorter n c s h e = (holds_of (Used (length s)) (token_at n c s) (token_used n c s h) e).0

-- ---- the answer does not depend on the fuel, once there is as much as there are bytes

module _ (n : ℕ) where
  then_same : (f g : List ℕ → Read (List Token)) (p m : ℕ) → ((s : List ℕ) → length s ≤ m → f s ≡ g s) → (r : Read Lexed) → Holds (Used m) r
      → and_then r (token_then p f) ≡ and_then r (token_then p g)
  unfolding token_then
  then_same f g p m e (got (lexed k t s)) h = ap (on_read (λ ts. record { kind = k; text = t; place = p } ∷ ts)) (e s h.0)
  then_same f g p m e (refused x) h = refl

  step_same : (f g : List ℕ → Read (List Token)) (c : ℕ) (s : List ℕ) → ((t : List ℕ) → length t ≤ length s → f t ≡ g t)
      → tokens_step n f (c ∷ s) ≡ tokens_step n g (c ∷ s)
  unfolding tokens_step
  step_same f g c s e = ⊎_elim space word (split (is_space c))
    where
      space : is_space c ≡ true → tokens_step n f (c ∷ s) ≡ tokens_step n g (c ∷ s)
      space h = rw h (e s (omega arith))

      word : is_space c ≡ false → tokens_step n f (c ∷ s) ≡ tokens_step n g (c ∷ s)
      word h = rw h (then_same f g (n - length (c ∷ s)) (length s) e (token_at n c s) (token_used n c s h))

  pub tokens_enough : (k m : ℕ) (s : List ℕ) → length s ≤ k → length s ≤ m → tokens_in n k s ≡ tokens_in n m s
  unfolding tokens_in tokens_step
  tokens_enough zero zero s h l = refl
  tokens_enough zero (suc m) [] h l = refl
  tokens_enough (suc k) zero [] h l = refl
  tokens_enough zero (suc m) (c ∷ s) h l = absurd (omega arith)
  tokens_enough (suc k) zero (c ∷ s) h l = absurd (omega arith)
  tokens_enough (suc k) (suc m) [] h l = refl
  tokens_enough (suc k) (suc m) (c ∷ s) h l = step_same (λ t. tokens_in n k t) (λ t. tokens_in n m t) c s (λ t i. tokens_enough k m t (omega arith) (omega arith))

-- ---- a token at a time

-- the tokens in s, with which a text of n bytes ends
abbrev pub tokens_left : ℕ → List ℕ → Read (List Token)
tokens_left n s = tokens_in n (length s) s

pub lex_left : (s : List ℕ) → lex s ≡ tokens_left (length s) s
unfolding lex
lex_left s = refl

module _ (n : ℕ) where
  pub left_none : tokens_left n [] ≡ got []
  unfolding tokens_in
  left_none = refl

  module _ (c : ℕ) (s : List ℕ) where
    pub left_space : is_space c ≡ true → tokens_left n (c ∷ s) ≡ tokens_left n s
    unfolding tokens_in tokens_step
    left_space h = rw h

    pub left_refused : {f : Refusal} → is_space c ≡ false → token_at n c s ≡ refused f → tokens_left n (c ∷ s) ≡ refused f
    unfolding tokens_in tokens_step
    left_refused h e = simp (h, e)

    pub left_token : {k : ℕ} {t r : List ℕ} → is_space c ≡ false → token_at n c s ≡ got (lexed k t r)
        → tokens_left n (c ∷ s) ≡ on_read (λ ts. record { kind = k; text = t; place = n - length (c ∷ s) } ∷ ts) (tokens_left n r)
    unfolding tokens_in tokens_step token_then
    left_token {k} {t} {r} h e = simp (h, e) (ap (on_read _) (tokens_enough n (length s) (length r) r (token_shorter n c s h e) (omega arith)))

-- ---- where tokens stand

-- tokens of a text of n bytes, in the order of their places, from p on; each takes a byte at least, and as many as its text has
pub data Placed (n : ℕ) : ℕ → List Token → Type 0 where
  none : (p : ℕ) → p ≤ n → Placed n p []
  one : (p q : ℕ) (t : Token) {ts : List Token} → p ≤ t.place → t.place < q → t.place + length t.text ≤ q → 1 ≤ t.kind → t.kind ≤ 12
      → Placed n q ts → Placed n p (t ∷ ts)

sooner : {n p : ℕ} (q : ℕ) {ts : List Token} → q ≤ p → Placed n p ts → Placed n q ts
sooner q h (none p l) = none q (omega arith)
sooner q h (one p r t l m k a b more) = one q r t (omega arith) m k a b more

placed_token : (n m : ℕ) (more : List ℕ → Read (List Token)) → suc m ≤ n → ((s : List ℕ) → length s ≤ m → Holds (Placed n (n - length s)) (more s))
    → (l : Lexed) → Used m l → Holds (Placed n (n - suc m)) (token_then (n - suc m) more l)
unfolding token_then
placed_token n m more h f (lexed k t r) u =
    let p = n - suc m in
    holds_on (Placed n (n - length r)) (Placed n p) (λ ts. record { kind = k; text = t; place = p } ∷ ts)
    (λ ts placed. one p (n - length r) (record { kind = k; text = t; place = p }) (omega arith) (omega arith) (omega arith) u.2 u.3 placed) (more r) (f r u.0)

placed_in : (n k : ℕ) (s : List ℕ) → length s ≤ n → Holds (Placed n (n - length s)) (tokens_in n k s)
unfolding tokens_in tokens_step
placed_in n zero s h = none (n - length s) (omega arith)
placed_in n (suc k) [] h = none (n - length {A = ℕ} []) (omega arith)
placed_in n (suc k) (c ∷ s) h =
    let p = n - length (c ∷ s) in
    let P = Placed n p in
    let more : List ℕ → Read (List Token) = λ t. tokens_in n k t in
    holds_cond P (is_space c) _ _
    (λ _. holds_each (Placed n (n - length s)) P (λ ts. sooner p (omega arith)) (tokens_in n k s) (placed_in n k s (omega arith)))
    (λ w. holds_then (Used (length s)) P _ (placed_token n (length s) more h (λ t l. placed_in n k t (omega arith))) (token_at n c s) (token_used n c s w))

-- the tokens of a text
pub lex_placed : (s : List ℕ) {ts : List Token} → lex s ≡ got ts → Placed (length s) 0 ts
unfolding lex
lex_placed s e = sooner 0 (omega arith) (holds_of (Placed (length s) (length s - length s)) (lex s) (placed_in (length s) (length s) s (omega arith)) e)

-- what is known of the token at i: it ends before the next begins, its text is no longer than that, and its kind is one of the twelve
pub record Standing (n : ℕ) (ts : List Token) (i : ℕ) : Type 0 where
  pub before_next : (token_of ts i).place < start_of n ts (suc i)
  pub text_within : (token_of ts i).place + length (token_of ts i).text ≤ start_of n ts (suc i)
  pub within : start_of n ts (suc i) ≤ n
  pub kind_least : 1 ≤ (token_of ts i).kind
  pub kind_most : (token_of ts i).kind ≤ 12

module _ {n : ℕ} where
  pub placed_few : {p : ℕ} {ts : List Token} → Placed n p ts → p + length ts ≤ n
  placed_few (none p h) = omega arith
  placed_few (one p q t l m k a b more) = omega (arith, placed_few more)

  pub placed_first : {p : ℕ} {ts : List Token} → Placed n p ts → p ≤ start_of n ts 0
  placed_first (none p h) = h
  placed_first (one p q t l m k a b more) = l

  placed_end : {p : ℕ} {ts : List Token} → Placed n p ts → (i : ℕ) → start_of n ts i ≤ n
  placed_end (none p h) i = omega arith
  placed_end (one p q t l m k a b more) zero = omega (arith, placed_few more)
  placed_end (one p q t l m k a b more) (suc i) = placed_end more i

  pub placed_at : {p : ℕ} {ts : List Token} → Placed n p ts → (i : ℕ) → i < length ts → Standing n ts i
  placed_at (none p h) i l = absurd (omega arith)
  placed_at (one p q t l m k a b more) zero h =
      let f = placed_first more in
      record { before_next = omega arith; text_within = omega arith; within = placed_end more 0; kind_least = a; kind_most = b }
  placed_at (one p q t l m k a b more) (suc i) h =
      let s = placed_at more i (omega arith) in
      record {
        before_next = s.before_next;
        text_within = s.text_within;
        within = s.within;
        kind_least = s.kind_least;
        kind_most = s.kind_most;
      }

-- of a text
module _ (s : List ℕ) {ts : List Token} (e : lex s ≡ got ts) where
  pub lex_few : length ts ≤ length s
  lex_few = omega (arith, placed_few (lex_placed s e))

  pub lex_standing : (i : ℕ) → i < length ts → Standing (length s) ts i
  lex_standing i h = placed_at (lex_placed s e) i h

-- ---- tokens of ASCII texts are ASCII

text_cons : (c : ℕ) (s : List ℕ) → is_text (c ∷ s) ≡ true → (leb c 0x7f ≡ true) × (is_text s ≡ true)
unfolding is_text
text_cons c s h = (and_l (leb c 0x7f) (is_text s) h, and_r (leb c 0x7f) (is_text s) h)

text_on : (c : ℕ) (s : List ℕ) → leb c 0x7f ≡ true → is_text s ≡ true → is_text (c ∷ s) ≡ true
unfolding is_text
text_on c s h k = both h k

text_rest : (s : List ℕ) → is_text s ≡ true → is_text (drop 1 s) ≡ true
text_rest [] h = h
text_rest (c ∷ s) h = (text_cons c s h).1

-- what is read of an ASCII text is ASCII
abbrev AsciiPiece : Piece → Type 0
AsciiPiece (piece t r) = (is_text t ≡ true) × (is_text r ≡ true)

abbrev Ascii : List ℕ → Piece → Type 0
Ascii s p = is_text s ≡ true → AsciiPiece p

ascii_on : (c : ℕ) → leb c 0x7f ≡ true → (p : Piece) → AsciiPiece p → AsciiPiece (on_text c p)
ascii_on c h (piece t r) k = (text_on c t h k.0, k.1)

ascii_plain : (c : ℕ) (s : List ℕ) (p : Piece) → Ascii s p → Ascii (c ∷ s) (on_text c p)
ascii_plain c s p h = λ a. let b = text_cons c s a in ascii_on c b.0 p (h b.1)

ascii_escaped : (c d : ℕ) (s : List ℕ) (p : Piece) → Ascii s p → Ascii (c ∷ d ∷ s) (on_text d p)
ascii_escaped c d s p h = λ a. ascii_plain d s p h (text_cons c (d ∷ s) a).1

term_ascii : (n : ℕ) (s : List ℕ) → Holds (Ascii s) (term_text n s)
unfolding term_text is_text
term_ascii n =
    unescaped_holds n (term_text n) ends_term (term_unescapes n) Ascii (λ _. (refl, refl)) (λ c s e. rw (term_stop n c s e) (λ a. (refl, a))) ascii_plain ascii_escaped

quoted_ascii : (n p : ℕ) (s : List ℕ) → Holds (Ascii s) (quoted_text n p s)
unfolding quoted_text is_text
quoted_ascii n p =
    unescaped_holds n (quoted_text n p) is_quote (quoted_unescapes n p) Ascii tt (λ c s e. rw (quoted_stop n p c s e) (λ a. (refl, (text_cons c s a).1))) ascii_plain ascii_escaped

abbrev AsciiToken : Lexed → Type 0
AsciiToken (lexed k t r) = (is_text t ≡ true) × (is_text r ≡ true)

ascii_word : (t r : List ℕ) → is_text t ≡ true → is_text r ≡ true → AsciiToken (word_lexed t r)
unfolding is_text
ascii_word t r h k = (kept (eqb (word_kind t) term_kind), k)
  where
    kept : (b : Bool) → is_text (cond b t []) ≡ true
    kept true = h
    kept false = refl

ascii_end : (n : ℕ) (p : Piece) → AsciiPiece p → Holds AsciiToken (term_end n p)
unfolding term_end
ascii_end n (piece t []) h = ascii_word t [] h.0 h.1
ascii_end n (piece t (c ∷ r)) h = holds_need AsciiToken (not (is_wildcard c)) _ _ (ascii_word t (c ∷ r) h.0 h.1)

token_ascii : (n c : ℕ) (s : List ℕ) → is_text (c ∷ s) ≡ true → Holds AsciiToken (token_at n c s)
unfolding token_at term_from quoted_from is_text
token_ascii n c s a =
    let T = AsciiToken in
    let p = start_in n (c ∷ s) in
    let rest = (text_cons c s a).1 in
    let less = text_rest s rest in
    holds_cond T (not (eqb (sign_kind c) end_kind)) _ _ (λ _. (refl, rest))
    (λ _. holds_cond T (doubled 0x26 c s) _ _ (λ _. (refl, less))
    (λ _. holds_cond T (doubled 0x7c c s) _ _ (λ _. (refl, less))
    (λ _. holds_cond T (is_quote c) _ _ (λ _. holds_on (Ascii s) T quoted_end quoted (quoted_text n p s) (quoted_ascii n p s))
    (λ _. holds_cond T (is_bracket c) _ _ (λ _. tt)
    (λ _. holds_cond T (is_wildcard c) _ _ (λ _. tt)
    (λ _. holds_then (Ascii (c ∷ s)) T (term_end n) (λ q h. ascii_end n q (h a)) (term_text n (c ∷ s)) (term_ascii n (c ∷ s))))))))
  where
    quoted : (p : Piece) → Ascii s p → AsciiToken (quoted_end p)
    quoted (piece t r) h = h (text_cons c s a).1

abbrev pub AsciiTokens : List Token → Type 0
AsciiTokens ts = (i : ℕ) → is_text (token_of ts i).text ≡ true

tokens_ascii : (n k : ℕ) (s : List ℕ) → is_text s ≡ true → Holds AsciiTokens (tokens_in n k s)
unfolding tokens_in tokens_step token_then is_text
tokens_ascii n zero s a = λ i. refl
tokens_ascii n (suc k) [] a = λ i. refl
tokens_ascii n (suc k) (c ∷ s) a =
    holds_cond AsciiTokens (is_space c) _ _ (λ _. tokens_ascii n k s (text_cons c s a).1)
    (λ _. holds_then AsciiToken AsciiTokens _ (then (λ t. tokens_ascii n k t)) (token_at n c s) (token_ascii n c s a))
  where
    then : ((t : List ℕ) → is_text t ≡ true → Holds AsciiTokens (tokens_in n k t)) → (l : Lexed) → AsciiToken l
        → Holds AsciiTokens (token_then (n - length (c ∷ s)) (λ t. tokens_in n k t) l)
    then more (lexed d t r) h = holds_on AsciiTokens AsciiTokens _ (λ ts f. first d t ts h.0 f) (tokens_in n k r) (more r h.1)
      where
        first : (d : ℕ) (t : List ℕ) (ts : List Token) → is_text t ≡ true → AsciiTokens ts → AsciiTokens (record { kind = d; text = t; place = n - length (c ∷ s) } ∷ ts)
        first d t ts h f zero = h
        first d t ts h f (suc i) = f i

pub lex_ascii : (s : List ℕ) {ts : List Token} → is_text s ≡ true → lex s ≡ got ts → AsciiTokens ts
unfolding lex
lex_ascii s a e = holds_of AsciiTokens (lex s) (tokens_ascii (length s) (length s) s a) e
