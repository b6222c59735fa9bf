-- A phrase is true only where each of its words is there: words gone through from the left, until one is missing.
use mathlib.Core.Path.{◌≡◌, refl, sym, ap, ◌∙◌}
use Prim.Native.Nat.{ℕ, ◌+◌, ◌<◌}
use mathlib.Core.List.{List, [], ◌∷◌}
use mathlib.Core.Bool.{Bool, true, false}
use lib.ListN.{length, drop}
use Rattle.rules.specs.Bytes.{body_of, rest_of, every, each, all}
use Rattle.rules.specs.Query.{Word, word}
use Rattle.rules.specs.Reading.{is_word, word_of}
use Rattle.rules.specs.Lists.{Entry}
use Rattle.rules.specs.Matching.{is_here, has_term, is_at, follows_from, starts_on, has_phrase}
use Rattle.rules.proofs.Bools.{clash, fails, and_l, and_r, both}
use Rattle.rules.proofs.Stored.Parts.{more_empty}
use Rattle.rules.proofs.Stored.Rows.{first, others, each_next}
use Rattle.rules.proofs.Choosing.Phrases.{some_from, some_in}
use Rattle.entries.specs.Entry.{position_of}
use Rattle.entries.proofs.Entries.{at_parts, starts_parts}

abbrev is_there : List Entry → List ℕ → Word → Bool
is_there es f (word p t) = has_term es f t

all_more : {A : Type 0} (P Q : A → Bool) → ((x : A) → P x ≡ true → Q x ≡ true) → (xs : List A) → all P xs ≡ true → all Q xs ≡ true
unfolding all
all_more P Q h [] k = refl
all_more P Q h (x ∷ xs) k = both (h x (and_l (P x) (all P xs) k)) (all_more P Q h xs (and_r (P x) (all P xs) k))

module _ (es : List Entry) (f : List ℕ) where
  follows_there : (p x : ℕ) (w : Word) → follows_from es f p x w ≡ true → is_there es f w ≡ true
  unfolding has_term
  follows_there p x (word o t) h =
      let e = some_from (is_at f t p (o + x)) es h in
      some_in (is_here f t) e.0 es e.1 (and_l (is_here f t e.0) _ (sym (at_parts f t p (o + x) e.0) ∙ e.2))

  phrase_there : (ws : List Word) → has_phrase es f ws ≡ true → all (is_there es f) ws ≡ true
  unfolding has_phrase has_term all
  phrase_there [] h = clash h refl
  phrase_there (word p t ∷ ws) h =
      let e = some_from (starts_on es f p t ws) es h in
      let k = sym (starts_parts f t es p ws e.0) ∙ e.2 in
      both (some_in (is_here f t) e.0 es e.1 (and_l (is_here f t e.0) _ k))
      (all_more (follows_from es f p (position_of e.0)) (is_there es f) (follows_there p (position_of e.0)) ws (and_r (is_here f t e.0) _ k))

  -- if all words of the row are there, those of s are
  pub record Rest (row s : List ℕ) : Type 0 where
    pub good : every is_word s ≡ true
    pub there : all (is_there es f) (each word_of row) ≡ true → all (is_there es f) (each word_of s) ≡ true

  pub rest_all : {row : List ℕ} → every is_word row ≡ true → Rest row row
  rest_all h = record { good = h; there = λ k. k }

  module _ {row s : List ℕ} (R : Rest row s) (more : 0 < length s) where
    pub rest_first : is_word s ≡ true
    rest_first = first is_word s (more_empty s more) R.good

    split_there : all (is_there es f) (each word_of s) ≡ all (is_there es f) (word_of s ∷ each word_of (rest_of s))
    split_there = ap (all (is_there es f)) (each_next word_of s (more_empty s more))

    pub rest_next : {u : List ℕ} → u ≡ rest_of s → Rest row u
    unfolding all
    rest_next e = rw e (record {
      good = others is_word s (more_empty s more) R.good;
      there = λ k. and_r (is_there es f (word_of s)) (all (is_there es f) (each word_of (rest_of s))) (sym split_there ∙ R.there k);
    })

    pub rest_stop : {t : List ℕ} → t ≡ drop 4 (body_of s) → has_term es f t ≡ false → has_phrase es f (each word_of row) ≡ false
    unfolding all
    rest_stop e h = fails (has_phrase es f (each word_of row)) (λ k.
        clash (and_l (is_there es f (word_of s)) (all (is_there es f) (each word_of (rest_of s))) (sym split_there ∙ R.there (phrase_there (each word_of row) k)))
        (rw e at h))
