-- Texts that are one token: letters alone, whatever the analyzer, and every text that is not empty, for a keyword. Assumes nothing.
use mathlib.Core.Path.{◌≡◌, sym, ap, subst, ◌∙◌}
use mathlib.Core.Bool.{Bool, true, false}
use mathlib.Core.List.{List, [], ◌∷◌, map}
use Prim.Native.Nat.{ℕ, ◌≤◌, ◌<◌}
use native.Mathlib.Decide.{ℕ_discrete}
use lib.ListN.{length, take, drop, drop_of_length-le}
use lib.Seq.{take_all, drop-length}
use borrow.Author.Tests.{ne_eqb}
use Rattle.rules.specs.Numbers.{chunk_most}
use Rattle.rules.specs.Bytes.{all}
use Rattle.rules.specs.Query.{Word, word}
use Rattle.rules.specs.Analysis.{front, after, cut, is_letter, lowercase, is_words, token_texts, placed_from, is_left_out, kept_of, tokenize}
use Rattle.rules.specs.Words.{is_stop_word}
use Rattle.rules.proofs.Bools.{and_no_l}
use Rattle.rules.proofs.Text.Pieces.{by_test, outside, front_nil, front_yes, after_nil, after_no, all_nil, all_cons, all_one, chunks_nil, chunks_step}
use Rattle.rules.proofs.Text.Tokens.{in_word, whitespace_none, whitespace_step, simple_none, simple_step, keyword_step, words_is, kept_nil, kept_yes}
use Rattle.rules.proofs.Text.Words.{one_word as letters-one}
use Rattle.analysis.proofs.Steps.{word_spelled}
use Rattle.analysis.specs.Tokens.{spelled, OneWord}
use Rattle.classes.proofs.Comparing.{letter_in_word}

module _ (P : ℕ → Bool) where
  front_whole : (t : List ℕ) → all P t ≡ true → front P t ≡ t
  front_whole [] h = front_nil P
  front_whole (c ∷ t) h = let p = all_one P c t h in front_yes P c t p.0 ∙ ap (λ (u : List ℕ). c ∷ u) (front_whole t p.1)

  after_none : (t : List ℕ) → all P t ≡ true → after (outside P) t ≡ t
  after_none [] h = after_nil (outside P)
  after_none (c ∷ t) h = after_no (outside P) c t (rw (all_one P c t h).0)

  -- texts F of tokens, each spelled by g, of which the rules give the first
  module _ (F : List ℕ → List (List ℕ)) (g : List ℕ → List ℕ) (none : (s : List ℕ) → after (outside P) s ≡ [] → F s ≡ [])
      (step : (s t : List ℕ) → after (outside P) s ≡ t → 0 < length t →
      F s ≡ g (take chunk_most (front P t)) ∷ F (drop (length (take chunk_most (front P t))) t)) where
    one_run : (t : List ℕ) → 0 < length t → length t ≤ chunk_most → all P t ≡ true → F t ≡ g t ∷ []
    one_run t h k p =
        let e : take chunk_most (front P t) ≡ t = rw (front_whole t p) (take_all chunk_most t k) in
        step t t (after_none t p) h ∙ rw (e, drop-length, none [] (after_nil (outside P)))

letters_word : (t : List ℕ) → all is_letter t ≡ true → all in_word t ≡ true
letters_word [] h = all_nil in_word
letters_word (c ∷ t) h = let p = all_one is_letter c t h in all_cons in_word c t (letter_in_word c p.0) (letters_word t p.1)

pub one_whole : (a : ℕ) (t : List ℕ) → (a ≡ 1 → ⊥) → (a ≡ 2 → ⊥) → is_words a ≡ false → 0 < length t → token_texts a t ≡ spelled a t ∷ []
unfolding spelled
one_whole a t v w x h = rw (ne_eqb a 2 w, x) (keyword_step a v w x t h)

one_whitespace : (t : List ℕ) → OneWord t → token_texts 1 t ≡ spelled 1 t ∷ []
unfolding spelled
one_whitespace t o = one_run in_word (token_texts 1) (λ u. u) whitespace_none whitespace_step t o.some o.short (letters_word t o.letters)

one_simple : (t : List ℕ) → OneWord t → token_texts 2 t ≡ spelled 2 t ∷ []
unfolding spelled
one_simple t o = one_run is_letter (token_texts 2) lowercase simple_none simple_step t o.some o.short o.letters

one_chunk : (t : List ℕ) → 0 < length t → length t ≤ chunk_most → cut (t ∷ []) ≡ t ∷ []
unfolding cut
one_chunk t h k = let d : drop chunk_most t ≡ [] = drop_of_length-le t {i = chunk_most} k in rw (chunks_step t h, take_all chunk_most t k, d, chunks_nil 0)

one_words : (a : ℕ) (t : List ℕ) → is_words a ≡ true → OneWord t → token_texts a t ≡ spelled a t ∷ []
one_words a t x o =
    words_is a t x ∙ ap (λ (ts : List (List ℕ)). map lowercase (cut ts)) (letters-one t o.some o.letters)
    ∙ ap (map lowercase) (one_chunk t o.some o.short) ∙ ap (λ (u : List ℕ). u ∷ []) (sym (word_spelled a t x t))

pub one_word : (a : ℕ) (t : List ℕ) → OneWord t → token_texts a t ≡ spelled a t ∷ []
one_word a t o = pass (ℕ_discrete a 1) (ℕ_discrete a 2)
  where
    pass : Dec (a ≡ 1) → Dec (a ≡ 2) → token_texts a t ≡ spelled a t ∷ []
    pass (yes e) d = subst (λ (b : ℕ). token_texts b t ≡ spelled b t ∷ []) (sym e) (one_whitespace t o)
    pass (no v) (yes e) = subst (λ (b : ℕ). token_texts b t ≡ spelled b t ∷ []) (sym e) (one_simple t o)
    pass (no v) (no w) = by_test (is_words a) (λ x. one_words a t x o) (λ x. one_whole a t v w x o.some)

-- with its position, if it is not left out
pub one_kept : (a : ℕ) (t : List ℕ) → token_texts a t ≡ spelled a t ∷ [] → is_left_out a (spelled a t) ≡ false → tokenize a t ≡ word 0 (spelled a t) ∷ []
unfolding placed_from
one_kept a t e n = ap (λ (ts : List (List ℕ)). kept_of a (placed_from 0 ts)) e ∙ kept_yes a 0 (spelled a t) [] n ∙ ap (λ (ws : List Word). word 0 (spelled a t) ∷ ws) (kept_nil a)

-- another analyzer than English leaves nothing out
pub not_english : (a : ℕ) (t : List ℕ) → (a ≡ 5 → ⊥) → is_left_out a (spelled a t) ≡ false
not_english a t n = and_no_l (is_stop_word (spelled a t)) (ne_eqb a 5 n)
