-- The tokens in the room: how many there are, which stands where, and how their places rise. Assumes nothing.
use mathlib.Core.Path.{◌≡◌, refl, sym, ap, subst, ◌∙◌}
use mathlib.Core.Bool.{Bool, true, false, ◌&&◌}
use Prim.Native.Nat.{ℕ, suc, ◌+◌, ◌≤◌, ◌<◌}
use mathlib.Core.List.{List}
use native.Mathlib.Decide.{dec_lt}
use native.Mathlib.Omega.{arith}
use native.Mathlib.Numerals.{add-one}
use lib.ListN.{length, get_or-eq_default}
use borrow.Author.Tests.{eqb-true}
use Rattle.rules.specs.Numbers.{text_most}
use Rattle.rules.specs.Lexing.{Token}
use Rattle.rules.specs.Parsing.{token_of, is_at, text_at, stops_at}
use Rattle.rules.proofs.Bools.{clash, or_r}
use Rattle.row.specs.Row.{token_at, tokens_of}
use Rattle.row.proofs.Rows.{length_tokens, token_is}
use Rattle.clauses.specs.Measured.{place_at, Rowed, is_named}

module _ (room : List ℕ) (n : ℕ) where
  pub text_is : (i : ℕ) → i < n → text_at (tokens_of room n) i ≡ (token_at room i).text
  text_is i h = ap (λ (t : Token). t.text) (token_is room n i _ h)

  -- a token of a kind stands among the n
  pub kind_in_lem : (k i : ℕ) → (k ≡ 0 → ⊥) → is_at k (tokens_of room n) i ≡ true → i < n
  kind_in_lem k i z e = by (dec_lt i n)
    where
      by : Dec (i < n) → i < n
      by (yes l) = l
      by (no m) =
          let d : (token_of (tokens_of room n) i).kind ≡ 0 = ap (λ (t : Token). t.kind) (get_or-eq_default (tokens_of room n) _ (rw length_tokens (omega arith))) in
          absurd (z (sym (eqb-true _ k e) ∙ d))

  pub named_in : (i : ℕ) → is_named (tokens_of room n) i ≡ true → i + 1 < n
  named_in i e = kind_in_lem 3 (i + 1) (λ z. omega arith) (and_r' (is_at 1 (tokens_of room n) i) _ e)
    where
      and_r' : (a b : Bool) → a && b ≡ true → b ≡ true
      and_r' true b h = h
      and_r' false b h = clash h refl

  -- a clause is read at a token that is there
  pub goes_in : (i : ℕ) → stops_at (tokens_of room n) i ≡ false → i < n
  goes_in i e = by (dec_lt i n)
    where
      by : Dec (i < n) → i < n
      by (yes l) = l
      by (no m) =
          let d : (token_of (tokens_of room n) i).kind ≡ 0 = ap (λ (t : Token). t.kind) (get_or-eq_default (tokens_of room n) _ (rw length_tokens (omega arith))) in
          clash (or_r (is_at 10 (tokens_of room n) i) (rw d)) e

module _ {room : List ℕ} {n : ℕ} (R : Rowed room n) where
  past_end : (i : ℕ) → n ≤ i → place_at (tokens_of room n) i ≡ text_most
  past_end i h = ap (λ (t : Token). t.place) (get_or-eq_default (tokens_of room n) _ (rw length_tokens h))

  pub place_up : (i : ℕ) → place_at (tokens_of room n) i ≤ place_at (tokens_of room n) (i + 1)
  place_up i = rw add-one (by (dec_lt i n))
    where
      by : Dec (i < n) → place_at (tokens_of room n) i ≤ place_at (tokens_of room n) (suc i)
      by (yes l) = omega (arith, (R.spaced i l).onward)
      by (no m) = omega (arith, past_end i (omega arith), past_end (suc i) (omega arith))

  pub place_on : (i : ℕ) → i < n → place_at (tokens_of room n) i < place_at (tokens_of room n) (i + 1)
  place_on i l = rw add-one (R.spaced i l).onward

  pub place_text : (i : ℕ) → i < n → place_at (tokens_of room n) i + length (text_at (tokens_of room n) i) ≤ place_at (tokens_of room n) (i + 1)
  place_text i l = rw add-one (R.spaced i l).within

  pub place_most_lem : (i : ℕ) → place_at (tokens_of room n) i ≤ text_most
  place_most_lem i = by (dec_lt i n)
    where
      by : Dec (i < n) → place_at (tokens_of room n) i ≤ text_most
      by (yes l) = omega (arith, (R.spaced i l).onward, (R.spaced i l).most)
      by (no m) = omega (arith, past_end i (omega arith))

  pub place_near : (i j : ℕ) → i ≤ j → j ≤ i + 1 → place_at (tokens_of room n) i ≤ place_at (tokens_of room n) j
  place_near i j h k = by (dec_lt i j)
    where
      by : Dec (i < j) → place_at (tokens_of room n) i ≤ place_at (tokens_of room n) j
      by (yes l) = let e : j ≡ i + 1 = omega arith in rw e (place_up i)
      by (no m) = let e : j ≡ i = omega arith in rw e (omega arith)

  pub place_step_two : (i : ℕ) → place_at (tokens_of room n) i ≤ place_at (tokens_of room n) (i + 2)
  place_step_two i =
      let up : place_at (tokens_of room n) (i + 1) ≤ place_at (tokens_of room n) (i + 2) = subst (λ (x : ℕ). place_at (tokens_of room n) (i + 1) ≤ place_at (tokens_of room n) x) (omega arith) (place_up (i + 1)) in
      omega (arith, place_up i, up)
