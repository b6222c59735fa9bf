-- Going from token to token past those that are left out. Assumes nothing.
use mathlib.Core.Path.{◌≡◌, refl, sym, ap, ◌∙◌}
use mathlib.Core.Bool.{Bool, true, false, ◌&&◌, cond}
use mathlib.Core.List.{List, [], ◌∷◌}
use Prim.Native.Nat.{ℕ, zero, suc, ◌+◌, ◌-◌, ◌≤◌, ◌<◌}
use native.Mathlib.Omega.{arith}
use native.Mathlib.Numerals.{add-one}
use lib.Dec.{eqb}
use lib.ListN.{length, take, drop}
use Rattle.rules.specs.Bytes.{ascii, same, some}
use Rattle.rules.specs.Query.{word}
use Rattle.rules.specs.Words.{stop_words, is_stop_word}
use Rattle.rules.specs.Analysis.{lowercase, is_left_out, placed_from, kept_of, tokenize}
use Rattle.rules.proofs.Bools.{clash, and_no_r}
use Rattle.rules.proofs.Text.Pieces.{by_test, by_list}
use Rattle.rules.proofs.Text.Words.{by_less}
use Rattle.rules.proofs.Text.Tokens.{kept_nil, kept_yes, kept_no}
use Rattle.analysis.specs.Tokens.{lowers, spelled, start_of, found_text, rest_texts, behind_first, passed_in, passed, behind_tokens, kept_at, rest_words, Found, Next}
use Rattle.analysis.proofs.Steps.{past, rest_first, starts_onward, text_part}

-- ---- no token is left out where there is none

none_out : (a : ℕ) → is_left_out a (spelled a []) ≡ false
unfolding spelled is_stop_word stop_words some same ascii
none_out a = pass (lowers a)
  where
    pass : (b : Bool) → eqb a 5 && some (same (cond b (lowercase []) [])) stop_words ≡ false
    pass true = and_no_r (eqb a 5) refl
    pass false = and_no_r (eqb a 5) refl

module _ (a : ℕ) (s : List ℕ) where
  abbrev out : ℕ → Bool
  out at = is_left_out a (spelled a (found_text a s at))

  out_some : (at : ℕ) → out at ≡ true → 0 < length (found_text a s at)
  out_some at e =
      by_list (found_text a s at) (λ n. clash e (rw n (none_out a))) (λ c u n. rw n (omega arith))

  out_within : (at : ℕ) → out at ≡ true → at < length s
  out_within at e =
      by_less at (length s) (λ h. h) (λ h. absurd (omega (arith, out_some at e, (past a s at h).size)))

  -- ---- how many are left out

  passed_none : (n at : ℕ) → out at ≡ false → passed_in a s n at ≡ 0
  unfolding passed_in
  passed_none zero at e = refl
  passed_none (suc n) at e = rw e

  passed_go : (n at : ℕ) → out at ≡ true → passed_in a s (suc n) at ≡ suc (passed_in a s n (behind_first a s at))
  unfolding passed_in
  passed_go n at e = rw e

  passed_enough : (n m at : ℕ) → length s ≤ at + n → length s ≤ at + m → passed_in a s n at ≡ passed_in a s m at
  passed_enough zero m at h k =
      by_test (out at) (λ e. absurd (omega (arith, out_within at e))) (λ e. passed_none zero at e ∙ sym (passed_none m at e))
  passed_enough (suc n) zero at h k =
      by_test (out at) (λ e. absurd (omega (arith, out_within at e))) (λ e. passed_none (suc n) at e ∙ sym (passed_none zero at e))
  passed_enough (suc n) (suc m) at h k =
      by_test (out at)
      (λ e.
      let o = starts_onward a s at in
      let l = out_some at e in
      passed_go n at e ∙ ap suc (passed_enough n m (behind_first a s at) (omega arith) (omega arith)) ∙ sym (passed_go m at e))
      (λ e. passed_none (suc n) at e ∙ sym (passed_none (suc m) at e))

  passed_yes : (at : ℕ) → out at ≡ true → passed a s at ≡ suc (passed a s (behind_first a s at))
  passed_yes at e = passed_enough (length s) (suc (length s)) at (omega arith) (omega arith) ∙ passed_go (length s) at e

  kept_here : (at : ℕ) → out at ≡ false → kept_at a s at ≡ at
  unfolding behind_tokens
  kept_here at e = rw (passed_none (length s) at e)

  kept_behind : (at : ℕ) → out at ≡ true → kept_at a s at ≡ kept_at a s (behind_first a s at)
  unfolding behind_tokens
  kept_behind at e = rw (passed_yes at e)

-- ---- a token at a time

-- what the first token is, as the code has it
module _ {a : ℕ} {s : List ℕ} {at start len : ℕ} (f : Found a s at start len) where
  behind_is : behind_first a s at ≡ start + len
  behind_is = omega (arith, f.place, f.size)

  text_is : found_text a s at ≡ take len (drop start s)
  text_is = text_part a s at ∙ rw (← f.size, ← f.place)

-- so much is passed of what stands from `at` on, where the first would have the position p
pub record Passing (a : ℕ) (s : List ℕ) (at p from position : ℕ) : Type 0 where
  pub place : kept_at a s at ≡ kept_at a s from
  pub counted : p + passed a s at ≡ position + passed a s from
  pub onward : at ≤ from
  pub in_text : from ≤ at + (length s - at)
  pub least : p ≤ position
  pub few : position + at ≤ p + from
  pub rest : rest_words a s at p ≡ rest_words a s from position

pub passing_starts : (a : ℕ) (s : List ℕ) (at p : ℕ) → Passing a s at p at p
passing_starts a s at p = record { place = refl; counted = refl; onward = omega arith; in_text = omega arith; least = omega arith; few = omega arith; rest = refl }

-- the rest of the words, by the texts
rest_nil : (a : ℕ) (s : List ℕ) (at p : ℕ) → rest_texts a s at ≡ [] → rest_words a s at p ≡ []
unfolding rest_words placed_from
rest_nil a s at p e = ap (λ (ts : List (List ℕ)). kept_of a (placed_from p ts)) e ∙ kept_nil a

module _ (a : ℕ) (s : List ℕ) (at p to : ℕ) (t : List ℕ) (e : rest_texts a s at ≡ t ∷ rest_texts a s to) where
  rest_cons : rest_words a s at p ≡ kept_of a (word p t ∷ placed_from (suc p) (rest_texts a s to))
  unfolding rest_words placed_from
  rest_cons = ap (λ (ts : List (List ℕ)). kept_of a (placed_from p ts)) e

  rest_kept : is_left_out a t ≡ false → rest_words a s at p ≡ word p t ∷ rest_words a s to (suc p)
  unfolding rest_words
  rest_kept n = rest_cons ∙ kept_yes a p t (placed_from (suc p) (rest_texts a s to)) n

  rest_left : is_left_out a t ≡ true → rest_words a s at p ≡ rest_words a s to (suc p)
  unfolding rest_words
  rest_left n = rest_cons ∙ kept_no a p t (placed_from (suc p) (rest_texts a s to)) n

pub rest_words_lem : (a : ℕ) (s : List ℕ) → rest_words a s 0 0 ≡ tokenize a s
unfolding rest_words
rest_words_lem a s = ap (λ (ts : List (List ℕ)). kept_of a (placed_from 0 ts)) (rest_first a s)

module _ {a : ℕ} {s : List ℕ} {at p from position start len : ℕ} (P : Passing a s at p from position) (F : Found a s from start len) where
  out_is : {b : Bool} → is_left_out a (spelled a (take len (drop start s))) ≡ b → is_left_out a (spelled a (found_text a s from)) ≡ b
  out_is e = ap (λ (t : List ℕ). is_left_out a (spelled a t)) (text_is F) ∙ e

  pub passing_on : 0 < len → is_left_out a (spelled a (take len (drop start s))) ≡ true → Passing a s at p (start + len) (position + 1)
  passing_on h e = record {
    place = P.place ∙ kept_behind a s from (out_is e) ∙ ap (kept_at a s) (behind_is F);
    counted = let z = ap (passed a s) (behind_is F) in omega (arith, P.counted, passed_yes a s from (out_is e));
    onward = omega (arith, P.onward, F.onward);
    in_text = omega (arith, P.onward, P.in_text, F.within);
    least = omega (arith, P.least);
    few = omega (arith, P.few, F.onward);
    rest = P.rest ∙ rest_left a s from position (start + len) (spelled a (take len (drop start s))) (F.one h) e ∙ rw (add-one position);
  }

  -- one that is not left out, or none
  ends_here : is_left_out a (spelled a (found_text a s from)) ≡ false → {n : ℕ} → n ≡ len →
      (n ≡ 0 → rest_words a s at p ≡ []) →
      (0 < n → rest_words a s at p ≡ word position (spelled a (take n (drop start s))) ∷ rest_words a s (start + n) (suc position)) → Next a s at p start n position
  ends_here e {n} m none one =
      let k = P.place ∙ kept_here a s from e in
      record {
        place = F.place ∙ ap (start_of a s) (sym k);
        size = m ∙ F.size ∙ ap (λ (i : ℕ). length (found_text a s i)) (sym k);
        counted = omega (arith, P.counted, passed_none a s (length s) from e);
        onward = omega (arith, P.onward, F.onward);
        within = omega (arith, P.onward, P.in_text, F.within);
        least = P.least;
        few = omega (arith, P.few, F.onward);
        none = none;
        one = one;
      }

  pub passing_one : (len ≡ 0 → ⊥) → is_left_out a (spelled a (take len (drop start s))) ≡ false → Next a s at p start len position
  passing_one h e =
      ends_here (out_is e) refl (λ z. absurd (h z))
      (λ l. P.rest ∙ rest_kept a s from position (start + len) (spelled a (take len (drop start s))) (F.one l) e)

  pub passing_none : len ≡ 0 → Next a s at p start 0 position
  passing_none z =
      let n : found_text a s from ≡ [] = text_is F ∙ rw z in
      ends_here (ap (λ (t : List ℕ). is_left_out a (spelled a t)) n ∙ none_out a) (sym z)
      (λ _. P.rest ∙ rest_nil a s from position (F.none z)) (λ l. absurd (omega arith))

-- ---- a part of the text, as the code has it

module _ (a : ℕ) (s : List ℕ) (start len : ℕ) {r : Bool} (e : r ≡ is_left_out a (spelled a (take (start + len - start) (drop start s)))) where
  pub part_told : {b : Bool} → r ≡ b → is_left_out a (spelled a (take len (drop start s))) ≡ b
  part_told f = let z : start + len - start ≡ len = omega arith in sym (e ∙ ap (λ (n : ℕ). is_left_out a (spelled a (take n (drop start s)))) z) ∙ f
