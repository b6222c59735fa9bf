-- The tokens of a text under each analyzer: a token at a time, how many there are at most, what each is like. Assumes nothing.
use mathlib.Core.Path.{◌≡◌, refl, sym, ap, ap₂, ◌∙◌}
use mathlib.Core.Bool.{Bool, true, false, not, ◌&&◌, cond, and-eq-true_iff, true≢false}
use mathlib.Core.List.{List, [], ◌∷◌, map}
use Prim.Native.Nat.{ℕ, suc, ◌+◌, ◌≤◌, ◌<◌}
use native.Mathlib.Omega.{arith}
use lib.Dec.{leb, ltb, eqb}
use lib.ListN.{length, take, drop, length-map}
use borrow.Author.Tests.{le-leb, lt-ltb, ne_eqb, leb-true, ltb-true}
use Rattle.rules.specs.Numbers.{chunk_most, whitespace_analyzer, simple_analyzer}
use Rattle.rules.specs.Bytes.{some, all, those, is_text}
use Rattle.rules.specs.Query.{Word, word, text_of}
use Rattle.rules.specs.Words.{is_alphanumeric, words_in, words_from, words, is_stop_word}
use Rattle.rules.specs.Analysis.{front, after, runs, cut, is_letter, is_gap, is_capital, between, lower, lowercase, whole_text, whitespace_tokens, simple_tokens, word_tokens, is_words, keyword_tokens, token_texts, placed_from, is_left_out, kept_of, tokenize}
use Rattle.rules.proofs.Text.Pieces.{by_test, all_cons, all_one, all_nil, outside, total, pieces_none, pieces_step, pieces_all, pieces_total, cut_all, all_those}
use Rattle.rules.proofs.Bools.{and_l, and_no_l, cond_yes, cond_no}
use Rattle.rules.proofs.Text.Words.{words_all, tokens_within}

-- ---- the analyzers

-- what holds of the tokens of each analyzer holds of those of any number, where the others count as keyword
module _ (s : List ℕ) (N : List (List ℕ) → Type 0) (w : N (whitespace_tokens s)) (m : N (simple_tokens s)) (x : N (word_tokens s)) (k : N (keyword_tokens s)) where
  pub by_analyzer_lem : (a : ℕ) → N (token_texts a s)
  unfolding token_texts
  by_analyzer_lem a = pick (eqb a 1) (eqb a 2) (is_words a)
    where
      pick : (b c d : Bool) → N (cond b (whitespace_tokens s) (cond c (simple_tokens s) (cond d (word_tokens s) (keyword_tokens s))))
      pick true c d = w
      pick false true d = m
      pick false false true = x
      pick false false false = k

-- a byte of a token of the whitespace analyzer
abbrev pub in_word : ℕ → Bool
in_word c = not (is_gap c)

pub whitespace_is : (s : List ℕ) → token_texts 1 s ≡ cut (runs in_word s)
unfolding token_texts whitespace_tokens
whitespace_is s = refl

pub whitespace_none : (s : List ℕ) → after (outside in_word) s ≡ [] → token_texts 1 s ≡ []
whitespace_none s e = whitespace_is s ∙ pieces_none in_word s e

pub whitespace_step : (s t : List ℕ) → after (outside in_word) s ≡ t → 0 < length t →
    token_texts 1 s ≡ take chunk_most (front in_word t) ∷ token_texts 1 (drop (length (take chunk_most (front in_word t))) t)
whitespace_step s t e h =
    rw (whitespace_is, whitespace_is (drop (length (take chunk_most (front in_word t))) t)) (pieces_step in_word s t e h)

pub simple_is : (s : List ℕ) → token_texts 2 s ≡ map lowercase (cut (runs is_letter s))
unfolding token_texts simple_tokens
simple_is s = refl

pub simple_none : (s : List ℕ) → after (outside is_letter) s ≡ [] → token_texts 2 s ≡ []
simple_none s e = simple_is s ∙ ap (map lowercase) (pieces_none is_letter s e)

pub simple_step : (s t : List ℕ) → after (outside is_letter) s ≡ t → 0 < length t →
    token_texts 2 s ≡ lowercase (take chunk_most (front is_letter t)) ∷ token_texts 2 (drop (length (take chunk_most (front is_letter t))) t)
simple_step s t e h =
    rw (simple_is, simple_is (drop (length (take chunk_most (front is_letter t))) t)) (ap (map lowercase) (pieces_step is_letter s t e h))

pub words_is : (a : ℕ) (s : List ℕ) → is_words a ≡ true → token_texts a s ≡ map lowercase (cut (words s))
unfolding token_texts word_tokens
words_is a s h =
    let k = leb-true 4 a (and_l (leb 4 a) (leb a 5) h) in
    rw (ne_eqb a 1 (λ e. omega arith), ne_eqb a 2 (λ e. omega arith)) (cond_yes _ _ h)

module _ (a : ℕ) (v : a ≡ 1 → ⊥) (w : a ≡ 2 → ⊥) (x : is_words a ≡ false) where
  pub keyword_is : (s : List ℕ) → token_texts a s ≡ whole_text s
  unfolding token_texts keyword_tokens
  keyword_is s = rw (ne_eqb a 1 v, ne_eqb a 2 w) (cond_no _ _ x)

  pub keyword_none : token_texts a [] ≡ []
  keyword_none = keyword_is []

  pub keyword_step : (s : List ℕ) → 0 < length s → token_texts a s ≡ s ∷ []
  keyword_step [] h = absurd (omega arith)
  keyword_step (c ∷ s) h = keyword_is (c ∷ s)

-- ---- of every analyzer's tokens

-- lowercasing keeps lengths
total_lower : (ts : List (List ℕ)) → total (map lowercase ts) ≡ total ts
unfolding total
total_lower [] = refl
total_lower (t ∷ ts) = ap₂ ◌+◌ (length-map t lower) (total_lower ts)

all_map : {A B : Type 0} (Q : B → Bool) (f : A → B) (xs : List A) → all Q (map f xs) ≡ all (λ x. Q (f x)) xs
unfolding all
all_map Q f [] = refl
all_map Q f (x ∷ xs) = ap (λ (b : Bool). Q (f x) && b) (all_map Q f xs)

all_any : (s : List ℕ) → all (λ c. true) s ≡ true
all_any [] = all_nil (λ c. true)
all_any (c ∷ s) = all_cons (λ c. true) c s refl (all_any s)

-- Q is true of each token: of each piece, lowercased where simple says so, and of a whole text that is not empty. R is true of the text
module _ (R : ℕ → Bool) (Q : List ℕ → Bool)
    (w : (t : List ℕ) → 0 < length t → length t ≤ chunk_most → all in_word t ≡ true → all R t ≡ true → Q t ≡ true)
    (m : (t : List ℕ) → 0 < length t → length t ≤ chunk_most → all is_letter t ≡ true → all R t ≡ true → Q (lowercase t) ≡ true)
    (x : (t : List ℕ) → 0 < length t → length t ≤ chunk_most → all R t ≡ true → Q (lowercase t) ≡ true)
    (k : (t : List ℕ) → 0 < length t → all R t ≡ true → Q t ≡ true) where
  pub whitespace_each : (s : List ℕ) → all R s ≡ true → all Q (whitespace_tokens s) ≡ true
  unfolding whitespace_tokens
  whitespace_each s h = pieces_all in_word R Q w s h

  pub simple_each : (s : List ℕ) → all R s ≡ true → all Q (simple_tokens s) ≡ true
  unfolding simple_tokens
  simple_each s h = rw all_map (pieces_all is_letter R (λ t. Q (lowercase t)) m s h)

  words_each : (s : List ℕ) → all R s ≡ true → all Q (word_tokens s) ≡ true
  unfolding word_tokens words
  words_each s h =
      rw all_map (cut_all R (λ t. Q (lowercase t)) x (words_from s 0) (all_those (all R) (some is_alphanumeric) (words_in s (length s) 0) (words_all s R h (length s) 0)))

  keyword_each : (s : List ℕ) → all R s ≡ true → all Q (keyword_tokens s) ≡ true
  unfolding keyword_tokens
  keyword_each [] h = all_nil Q
  keyword_each (c ∷ s) h = all_cons Q (c ∷ s) [] (k (c ∷ s) (omega arith) h) (all_nil Q)

  pub tokens_each : (a : ℕ) (s : List ℕ) → all R s ≡ true → all Q (token_texts a s) ≡ true
  tokens_each a s h = by_analyzer_lem s (λ ts. all Q ts ≡ true) (whitespace_each s h) (simple_each s h) (words_each s h) (keyword_each s h) a

-- no token is empty
abbrev pub filled : List ℕ → Bool
filled t = ltb 0 (length t)

pub tokens_filled : (a : ℕ) (s : List ℕ) → all filled (token_texts a s) ≡ true
tokens_filled a s =
    tokens_each (λ c. true) filled (λ t l b p q. lt-ltb 0 (length t) l)
    (λ t l b p q. rw length-map (lt-ltb 0 (length t) l))
    (λ t l b q. rw length-map (lt-ltb 0 (length t) l))
    (λ t l q. lt-ltb 0 (length t) l) a s (all_any s)

-- a chunk has at most 255 bytes
abbrev pub short : List ℕ → Bool
short t = leb (length t) chunk_most

pub whitespace_short : (s : List ℕ) → all short (token_texts 1 s) ≡ true
whitespace_short s = rw whitespace_is (pieces_all in_word (λ c. true) short (λ t l b p q. le-leb _ _ b) s (all_any s))

pub simple_short : (s : List ℕ) → all short (token_texts 2 s) ≡ true
simple_short s = rw (simple_is, all_map) (pieces_all is_letter (λ c. true) (λ t. short (lowercase t)) (λ t l b p q. rw length-map (le-leb _ _ b)) s (all_any s))

-- the bytes of the tokens are at most those of the text, and so are the tokens
total_whole : (s : List ℕ) → total (whole_text s) ≤ length s
unfolding total
total_whole [] = omega arith
total_whole (c ∷ s) = omega arith

pub tokens_total : (a : ℕ) (s : List ℕ) → total (token_texts a s) ≤ length s
unfolding whitespace_tokens simple_tokens word_tokens keyword_tokens
tokens_total a s =
    by_analyzer_lem s (λ ts. total ts ≤ length s) (pieces_total in_word s) (rw total_lower (pieces_total is_letter s)) (rw total_lower (tokens_within s)) (total_whole s) a

count_total : (ts : List (List ℕ)) → all filled ts ≡ true → length ts ≤ total ts
unfolding total
count_total [] h = omega arith
count_total (t ∷ ts) h = let p = all_one filled t ts h in omega (arith, ltb-true 0 (length t) p.0, count_total ts p.1)

pub tokens_most : (a : ℕ) (s : List ℕ) → length (token_texts a s) ≤ length s
tokens_most a s = omega (arith, tokens_total a s, count_total (token_texts a s) (tokens_filled a s))

-- ---- how simple spells

-- a small letter
abbrev pub is_small : ℕ → Bool
is_small c = between 0x61 0x7a c

between_yes : (a b c : ℕ) → a ≤ c → c ≤ b → between a b c ≡ true
between_yes a b c h k = rw (le-leb a c h, le-leb c b k)

between_is : (a b c : ℕ) → between a b c ≡ true → (a ≤ c) × (c ≤ b)
between_is a b c h = let p = (and-eq-true_iff (leb a c) (leb c b)).0 h in (leb-true a c p.0, leb-true c b p.1)

pub lower_small : (c : ℕ) → is_letter c ≡ true → is_small (lower c) ≡ true
lower_small c h =
    by_test (is_capital c) (λ p. let b = between_is 0x41 0x5a c p in rw p (between_yes 0x61 0x7a (c + 0x20) (omega arith) (omega arith)))
    (λ p. rw p (rw p at h))

pub lower_ascii : (c : ℕ) → leb c 0x7f ≡ true → leb (lower c) 0x7f ≡ true
lower_ascii c h =
    by_test (is_capital c) (λ p. let b = between_is 0x41 0x5a c p in rw p (le-leb (c + 0x20) 0x7f (omega arith)))
    (λ p. rw p h)

all_mapped : (Q R : ℕ → Bool) (f : ℕ → ℕ) → ((c : ℕ) → R c ≡ true → Q (f c) ≡ true) → (s : List ℕ) → all R s ≡ true → all Q (map f s) ≡ true
all_mapped Q R f g [] h = all_nil Q
all_mapped Q R f g (c ∷ s) h = let p = all_one R c s h in all_cons Q (f c) (map f s) (g c p.0) (all_mapped Q R f g s p.1)

-- simple's tokens are small letters
pub simple_small : (s : List ℕ) → all (all is_small) (token_texts 2 s) ≡ true
simple_small s = rw (simple_is, all_map) (pieces_all is_letter (λ c. true) (λ t. all is_small (lowercase t)) (λ t l b p q. all_mapped is_small is_letter lower lower_small t p) s (all_any s))

-- ---- tokens of an ASCII text are ASCII

pub text_all : (s : List ℕ) → is_text s ≡ all (λ c. leb c 0x7f) s
unfolding is_text all
text_all [] = refl
text_all (c ∷ s) = ap (λ (b : Bool). leb c 0x7f && b) (text_all s)

pub lowercase_text : (t : List ℕ) → is_text t ≡ true → is_text (lowercase t) ≡ true
lowercase_text t h =
    text_all (lowercase t) ∙ all_mapped (λ c. leb c 0x7f) (λ c. leb c 0x7f) lower lower_ascii t (sym (text_all t) ∙ h)

pub tokens_text : (a : ℕ) (s : List ℕ) → is_text s ≡ true → all is_text (token_texts a s) ≡ true
tokens_text a s h =
    tokens_each (λ c. leb c 0x7f) is_text (λ t l b p q. text_all t ∙ q) (λ t l b p q. lowercase_text t (text_all t ∙ q))
    (λ t l b q. lowercase_text t (text_all t ∙ q))
    (λ t l q. text_all t ∙ q)
    a s
    (sym (text_all s) ∙ h)

-- ---- the tokens with their positions, stop words left out

pub kept_nil : (a : ℕ) → kept_of a [] ≡ []
unfolding kept_of those
kept_nil a = refl

pub kept_yes : (a p : ℕ) (t : List ℕ) (ws : List Word) → is_left_out a t ≡ false → kept_of a (word p t ∷ ws) ≡ word p t ∷ kept_of a ws
unfolding kept_of those
kept_yes a p t ws e = rw e

pub kept_no : (a p : ℕ) (t : List ℕ) (ws : List Word) → is_left_out a t ≡ true → kept_of a (word p t ∷ ws) ≡ kept_of a ws
unfolding kept_of those
kept_no a p t ws e = rw e

-- but for English every word is kept
pub kept_same : (a : ℕ) (ws : List Word) → eqb a 5 ≡ false → kept_of a ws ≡ ws
kept_same a [] e = kept_nil a
kept_same a (word p t ∷ ws) e = kept_yes a p t ws (and_no_l (is_stop_word t) e) ∙ ap (λ (vs : List Word). word p t ∷ vs) (kept_same a ws e)

pub english_not : (a : ℕ) → is_words a ≡ false → eqb a 5 ≡ false
english_not a h = ne_eqb a 5 (λ e. true≢false (sym (ap is_words e) ∙ h))

-- so the answers of the first three analyzers are what they were before there were words
pub first_three : (a : ℕ) (s : List ℕ) → is_words a ≡ false →
    tokenize a s ≡ placed_from 0 (cond (eqb a whitespace_analyzer) (whitespace_tokens s) (cond (eqb a simple_analyzer) (simple_tokens s) (keyword_tokens s)))
unfolding token_texts
first_three a s h =
    kept_same a (placed_from 0 (token_texts a s)) (english_not a h)
    ∙ ap (λ (ts : List (List ℕ)). placed_from 0 (cond (eqb a 1) (whitespace_tokens s) (cond (eqb a 2) (simple_tokens s) ts))) (cond_no (word_tokens s) (keyword_tokens s) h)

-- the bytes of the kept tokens, and their number, are at most those of all
texts_of : (p : ℕ) (ts : List (List ℕ)) → map text_of (placed_from p ts) ≡ ts
unfolding placed_from
texts_of p [] = refl
texts_of p (t ∷ ts) = ap (λ (us : List (List ℕ)). t ∷ us) (texts_of (suc p) ts)

kept_total : (a : ℕ) (ws : List Word) → total (map text_of (kept_of a ws)) ≤ total (map text_of ws)
unfolding total
kept_total a [] = rw (kept_nil a) (omega arith)
kept_total a (word p t ∷ ws) =
    by_test (is_left_out a t) (λ e. rw (kept_no a p t ws e) (omega (arith, kept_total a ws))) (λ e. rw (kept_yes a p t ws e) (omega (arith, kept_total a ws)))

kept_count : (a : ℕ) (ws : List Word) → length (kept_of a ws) ≤ length ws
kept_count a [] = rw (kept_nil a) (omega arith)
kept_count a (word p t ∷ ws) =
    by_test (is_left_out a t) (λ e. rw (kept_no a p t ws e) (omega (arith, kept_count a ws))) (λ e. rw (kept_yes a p t ws e) (omega (arith, kept_count a ws)))

placed_count : (p : ℕ) (ts : List (List ℕ)) → length (placed_from p ts) ≡ length ts
placed_count p ts = sym (length-map (placed_from p ts) text_of) ∙ ap length (texts_of p ts)

pub kept_bytes : (a : ℕ) (s : List ℕ) → total (map text_of (tokenize a s)) ≤ length s
kept_bytes a s = omega (arith, kept_total a (placed_from 0 (token_texts a s)), ap total (texts_of 0 (token_texts a s)), tokens_total a s)

pub kept_most : (a : ℕ) (s : List ℕ) → length (tokenize a s) ≤ length s
kept_most a s = omega (arith, kept_count a (placed_from 0 (token_texts a s)), placed_count 0 (token_texts a s), tokens_most a s)
