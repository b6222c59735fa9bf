-- The first token from a place on, by the rules: no token is left, or it stands there and the others are those of what is behind it.
-- Assumes nothing.
use mathlib.Core.Path.{◌≡◌, refl, sym, ap, subst, fun_ext, ◌∙◌}
use mathlib.Core.Bool.{Bool, true, false, cond}
use mathlib.Core.List.{List, [], ◌∷◌, ◌++◌, map, append_assoc}
use Prim.Native.Nat.{ℕ, suc, ◌+◌, ◌-◌, ◌≤◌, ◌<◌, min, max}
use native.Mathlib.Decide.{ℕ_discrete}
use native.Mathlib.Omega.{arith}
use lib.ListN.{length, take, drop, length-take, length-drop, take-append-drop, drop_of_length-le}
use lib.Seq.{drop-drop, drop-length, take-length, take-append_seam}
use lib.Dec.{eqb}
use borrow.Author.Tests.{ne_eqb}
use Rattle.std.proofs.Common.{Option, None, Some}
use Rattle.std.specs.Option.{MatchOption}
use Rattle.rules.specs.Numbers.{chunk_most}
use Rattle.rules.specs.Analysis.{front, after, is_letter, lowercase, is_words, token_texts}
use Rattle.rules.specs.Words.{reach}
use Rattle.rules.specs.InWords.{token_start, pieces_from}
use Rattle.rules.proofs.Bools.{or_r, cond_yes, cond_no}
use Rattle.rules.proofs.Text.Pieces.{by_test, by_list, outside, front_nil, front_yes, front_no, front_after, front_most, front_is, after_is, first_length}
use Rattle.rules.proofs.Text.Tokens.{in_word, whitespace_none, whitespace_step, simple_none, simple_step, keyword_none, keyword_step, words_is}
use Rattle.rules.proofs.Text.Words.{start_end, start_least, pieces_first, pieces_end}
use Rattle.analysis.specs.Tokens.{inside, first_of, start_from, text_from, spelled, word_text, start_of, found_text, rest_texts, FoundWord, Found}

-- ---- any test

module _ (P : ℕ → Bool) where
  -- what stands from the first token on
  pub rest_is : (s : List ℕ) (at : ℕ) → after (outside P) (drop at s) ≡ drop (start_from P s at) s
  unfolding start_from
  rest_is s at = after_is (outside P) (drop at s) ∙ drop-drop (length (front (outside P) (drop at s))) at s

  -- a part of a front is a part of the text
  part_is : (n : ℕ) (t : List ℕ) → take (length (take n (front P t))) t ≡ take n (front P t)
  part_is n t =
      let w : take n (front P t) ++ (drop n (front P t) ++ after P t) ≡ t = rw (← append_assoc, take-append-drop, front_after) in
      rw w at (take-append_seam (take n (front P t)) (drop n (front P t) ++ after P t))

  -- texts F of tokens, each spelled by g, of which the rules give the first
  module _ (F : List ℕ → List (List ℕ)) (g : List ℕ → List ℕ) (none : (s : List ℕ) → after (outside P) s ≡ [] → F s ≡ [])
      (step : (s t : List ℕ) → after (outside P) s ≡ t → 0 < length t →
      F s ≡ g (take chunk_most (front P t)) ∷ F (drop (length (take chunk_most (front P t))) t))
      (s : List ℕ) (at : ℕ) where
    run_none : length (take chunk_most (front P (drop (start_from P s at) s))) ≡ 0 → F (drop at s) ≡ []
    run_none e =
        by_list (drop (start_from P s at) s) (λ n. none (drop at s) (rest_is s at ∙ n))
        (λ c u m.
        let l : 0 < length (after (outside P) (drop at s)) = rw (rest_is s at, m) (omega arith) in
        let f = rw (rest_is s at) at (first_length P (drop at s) l) in
        absurd (omega arith))

    run_one : (n : ℕ) → length (take chunk_most (front P (drop (start_from P s at) s))) ≡ n → 0 < n →
        F (drop at s) ≡ g (take n (drop (start_from P s at) s)) ∷ F (drop (start_from P s at + n) s)
    run_one n e h =
        let t = drop (start_from P s at) s in
        let l : 0 < length t = omega (arith, front_most P t, simp length-take at e) in
        step (drop at s) t (rest_is s at) l
        ∙ rw (← drop-drop n (start_from P s at) s, ← e, part_is chunk_most t)

-- ---- every byte

front_every : (t : List ℕ) → front (λ c. true) t ≡ t
front_every [] = front_nil (λ c. true)
front_every (c ∷ t) = front_yes (λ c. true) c t refl ∙ ap (λ (u : List ℕ). c ∷ u) (front_every t)

front_never : (t : List ℕ) → front (λ c. false) t ≡ []
front_never [] = front_nil (λ c. false)
front_never (c ∷ t) = front_no (λ c. false) c t refl

-- where every byte is one that a token has, the first token begins at once, and a keyword is all that is left
module _ (P : ℕ → Bool) (q : P ≡ (λ c. true)) (s : List ℕ) (at : ℕ) where
  pub whole_start : start_from P s at ≡ at
  unfolding start_from
  whole_start = rw (q, front_never) (omega arith)

  pub whole_text_lem : (a : ℕ) → (a ≡ 1 → ⊥) → (a ≡ 2 → ⊥) → text_from P a s at ≡ drop at s
  unfolding text_from first_of
  whole_text_lem a v w = rw (whole_start, q, front_every, ne_eqb a 1 v, ne_eqb a 2 w)

pub every_inside : (a : ℕ) → (a ≡ 1 → ⊥) → (a ≡ 2 → ⊥) → inside a ≡ (λ c. true)
unfolding inside
every_inside a v w = fun_ext (λ c. rw (ne_eqb a 1 v, ne_eqb a 2 w))

-- ---- each analyzer

abbrev Step : ℕ → List ℕ → ℕ → Type 0
Step a s at =
    (length (text_from (inside a) a s at) ≡ 0 → token_texts a (drop at s) ≡ [])
    × ((n : ℕ) → length (text_from (inside a) a s at) ≡ n → 0 < n →
    token_texts a (drop at s) ≡ spelled a (take n (drop (start_from (inside a) s at) s)) ∷ token_texts a (drop (start_from (inside a) s at + n) s))

whitespace : (s : List ℕ) (at : ℕ) → Step 1 s at
unfolding text_from first_of inside spelled
whitespace s at =
    (run_none in_word (token_texts 1) (λ t. t) whitespace_none whitespace_step s at, run_one in_word (token_texts 1) (λ t. t) whitespace_none whitespace_step s at)

simple : (s : List ℕ) (at : ℕ) → Step 2 s at
unfolding text_from first_of inside spelled
simple s at =
    (run_none is_letter (token_texts 2) lowercase simple_none simple_step s at, run_one is_letter (token_texts 2) lowercase simple_none simple_step s at)

module _ (a : ℕ) (v : a ≡ 1 → ⊥) (w : a ≡ 2 → ⊥) (x : is_words a ≡ false) (s : List ℕ) (at : ℕ) where
  keyword : Step a s at
  unfolding spelled
  keyword =
      let l : length (text_from (inside a) a s at) ≡ length (drop at s) = ap length (whole_text_lem (inside a) (every_inside a v w) s at a v w) in (
        λ e. by_list (drop at s) (λ n. rw n (keyword_none a v w x)) (λ c u m. absurd (omega (arith, ap length m))),
        λ n e h.
            let m : length (drop at s) ≡ n = sym l ∙ e in
            let b : drop (at + n) s ≡ [] = rw (← drop-drop n at s, ← m) (drop-length (drop at s)) in
            rw (whole_start (inside a) (every_inside a v w) s at, ne_eqb a 2 w, x, b, keyword_none a v w x, ← m, take-length) (keyword_step a v w x (drop at s) (omega arith)),
      )

steps : (a : ℕ) (s : List ℕ) (at : ℕ) → is_words a ≡ false → Step a s at
steps a s at x = pass (ℕ_discrete a 1) (ℕ_discrete a 2)
  where
    pass : Dec (a ≡ 1) → Dec (a ≡ 2) → Step a s at
    pass (yes e) d = subst (λ (b : ℕ). Step b s at) (sym e) (whitespace s at)
    pass (no v) (yes e) = subst (λ (b : ℕ). Step b s at) (sym e) (simple s at)
    pass (no v) (no w) = keyword a v w x s at

-- ---- what the contracts say

past_start : (P : ℕ → Bool) (s : List ℕ) (at : ℕ) → length s ≤ at → start_from P s at ≡ at
unfolding start_from
past_start P s at h =
    let d : drop at s ≡ [] = drop_of_length-le s {i = at} h in
    rw (d, front_nil (outside P)) (omega arith)

pub start_onward : (P : ℕ → Bool) (s : List ℕ) (at : ℕ) → at ≤ start_from P s at
unfolding start_from
start_onward P s at = omega arith

start_most : (P : ℕ → Bool) (s : List ℕ) (at : ℕ) → start_from P s at ≤ at + (length s - at)
unfolding start_from
start_most P s at = omega (arith, front_most (outside P) (drop at s), length-drop at s)

first_most : (a : ℕ) (r : List ℕ) → length (first_of a r) ≤ length r
unfolding first_of
first_most a r = pass (eqb a 1) (eqb a 2)
  where
    pass : (b c : Bool) → length (cond b (take chunk_most r) (cond c (take chunk_most r) r)) ≤ length r
    pass true c = rw length-take (omega arith)
    pass false true = rw length-take (omega arith)
    pass false false = omega arith

pub text_most_lem : (P : ℕ → Bool) (a : ℕ) (s : List ℕ) (at : ℕ) → length (text_from P a s at) ≤ length s - start_from P s at
unfolding text_from
text_most_lem P a s at =
    let t = drop (start_from P s at) s in
    omega (arith, first_most a (front P t), front_most P t, length-drop (start_from P s at) s)

-- ---- of runs

module _ (a : ℕ) (s : List ℕ) (x : is_words a ≡ false) where
  run_start : (at : ℕ) → start_of a s at ≡ start_from (inside a) s at
  unfolding start_of
  run_start at = cond_no (token_start s at) (start_from (inside a) s at) x

  run_text : (at : ℕ) → found_text a s at ≡ text_from (inside a) a s at
  unfolding found_text
  run_text at = cond_no (word_text s at) (text_from (inside a) a s at) x

  run_rest : (at : ℕ) → rest_texts a s at ≡ token_texts a (drop at s)
  unfolding rest_texts
  run_rest at = cond_no (map lowercase (pieces_from s at)) (token_texts a (drop at s)) x

  pub found : (at start len : ℕ) → start ≡ start_from (inside a) s at → len ≡ length (text_from (inside a) a s at) → Found a s at start len
  found at start len p z = record {
    place = p ∙ sym (run_start at);
    size = z ∙ sym (ap length (run_text at));
    onward = rw p (start_onward (inside a) s at);
    within = rw (p, z) (omega (arith, start_most (inside a) s at, text_most_lem (inside a) a s at));
    none = λ e. run_rest at ∙ (steps a s at x).0 (sym z ∙ e);
    one = λ h. run_rest at ∙ rw p ((steps a s at x).1 len (sym z) h) ∙ ap (λ (ts : List (List ℕ)). spelled a (take len (drop start s)) ∷ ts) (sym (run_rest (start + len)));
  }

-- ---- of words

module _ (a : ℕ) (s : List ℕ) (x : is_words a ≡ true) where
  word_start : (at : ℕ) → start_of a s at ≡ token_start s at
  unfolding start_of
  word_start at = cond_yes (token_start s at) (start_from (inside a) s at) x

  word_text_lem : (at : ℕ) → found_text a s at ≡ word_text s at
  unfolding found_text
  word_text_lem at = cond_yes (word_text s at) (text_from (inside a) a s at) x

  pub word_rest : (at : ℕ) → rest_texts a s at ≡ map lowercase (pieces_from s at)
  unfolding rest_texts
  word_rest at = cond_yes (map lowercase (pieces_from s at)) (token_texts a (drop at s)) x

  pub word_spelled : (t : List ℕ) → spelled a t ≡ lowercase t
  unfolding spelled
  word_spelled t = cond_yes (lowercase t) t (or_r (eqb a 2) x)

  pub found_word : {at start len : ℕ} → FoundWord s at start len → at ≤ length s → Found a s at start len
  found_word {at} {start} {len} f h = record {
    place = f.place ∙ sym (word_start at);
    size = f.size ∙ sym (ap length (word_text_lem at));
    onward = f.onward;
    within = omega (arith, f.within);
    none = λ e. word_rest at ∙ ap (map lowercase) (f.none e);
    one = λ l.
        word_rest at ∙ ap (map lowercase) (f.one l)
        ∙ rw (word_spelled (take len (drop start s)), word_rest (start + len));
  }

-- ---- behind the end there is none

past_word : (s : List ℕ) (at : ℕ) → length s ≤ at → length (word_text s at) ≡ 0
unfolding word_text
past_word s at h =
    rw (start_end s at h, drop_of_length-le s {i = at} h, length-take) (omega arith)

pub past : (a : ℕ) (s : List ℕ) (at : ℕ) → length s ≤ at → Found a s at at 0
past a s at h = by_test (is_words a) words runs
  where
    words : is_words a ≡ true → Found a s at at 0
    words x =
        record {
          place = sym (word_start a s x at ∙ start_end s at h);
          size = sym (ap length (word_text_lem a s x at) ∙ past_word s at h);
          onward = omega arith;
          within = omega arith;
          none = λ e. word_rest a s x at ∙ ap (map lowercase) (pieces_end s at h);
          one = λ l. absurd (omega arith);
        }

    runs : is_words a ≡ false → Found a s at at 0
    runs x = let p = past_start (inside a) s at h in found a s x at at 0 (sym p) (omega (arith, text_most_lem (inside a) a s at))

-- at a place behind it, and of words before it, as the code has the first token or none
pub past_piece : (a : ℕ) (s : List ℕ) (at : ℕ) → length s ≤ at → Found a s at (max at (length s)) 0
past_piece a s at h = let z : max at (length s) ≡ at = omega arith in rw z (past a s at h)

pub word_piece : {A : Type 0} (r : Option A) (start len : A → ℕ) (a : ℕ) (s : List ℕ) (at : ℕ) → is_words a ≡ true → at ≤ length s →
    MatchOption r (FoundWord s at (length s) 0) (λ p. FoundWord s at (start p) (len p) × 0 < len p) →
    MatchOption r (Found a s at (max at (length s)) 0) (λ p. Found a s at (start p) (len p) × 0 < len p)
word_piece None start len a s at x h f = let z : max at (length s) ≡ length s = omega arith in rw z (found_word a s x f h)
word_piece (Some p) start len a s at x h f = (found_word a s x f.0 h, f.1)

-- every place has its token: the tokens from the first place on are those of the text
pub rest_first : (a : ℕ) (s : List ℕ) → rest_texts a s 0 ≡ token_texts a s
rest_first a s = by_test (is_words a) (λ x. word_rest a s x 0 ∙ ap (map lowercase) (pieces_first s) ∙ sym (words_is a s x)) (λ x. run_rest a s x 0)

-- it begins at the place or behind it
pub starts_onward : (a : ℕ) (s : List ℕ) (at : ℕ) → at ≤ start_of a s at
starts_onward a s at =
    by_test (is_words a) (λ x. rw (word_start a s x at) (start_least s at)) (λ x. rw (run_start a s x at) (start_onward (inside a) s at))

-- ---- its text is a part of the text

taken : (n : ℕ) (l : List ℕ) → take (length (take n l)) l ≡ take n l
taken n l = let w = take-append_seam (take n l) (drop n l) in rw (take-append-drop n l) at w

first_part : (P : ℕ → Bool) (a : ℕ) (t : List ℕ) → first_of a (front P t) ≡ take (length (first_of a (front P t))) t
unfolding first_of
first_part P a t = pass (eqb a 1) (eqb a 2)
  where
    pass : (b c : Bool) →
        cond b (take chunk_most (front P t)) (cond c (take chunk_most (front P t)) (front P t))
        ≡ take (length (cond b (take chunk_most (front P t)) (cond c (take chunk_most (front P t)) (front P t)))) t
    pass true c = sym (part_is P chunk_most t)
    pass false true = sym (part_is P chunk_most t)
    pass false false = front_is P t

pub text_part : (a : ℕ) (s : List ℕ) (at : ℕ) → found_text a s at ≡ take (length (found_text a s at)) (drop (start_of a s at) s)
unfolding word_text text_from
text_part a s at =
    by_test (is_words a)
    (λ x. rw (word_text_lem a s x at, word_start a s x at) (sym (taken (min chunk_most (reach s (suc (token_start s at)) - token_start s at)) (drop (token_start s at) s))))
    (λ x. rw (run_text a s x at, run_start a s x at) (first_part (inside a) a (drop (start_from (inside a) s at) s)))
