-- Where bytes that a test is true of end, by the first of which it is false. Assumes nothing.
use mathlib.Core.Path.{◌≡◌, refl, sym, ap, ◌∙◌}
use mathlib.Core.Bool.{Bool, true, false, not, cond, beq}
use mathlib.Core.List.{List, ◌∷◌}
use Prim.Native.Nat.{ℕ, ◌+◌, ◌-◌, ◌≤◌}
use native.Mathlib.Omega.{arith}
use lib.ListN.{length, take, drop}
use Rattle.std.specs.List.{position_or_len}
use Rattle.std.proofs.lemmas.List.Recursion.{is_position_or_len}
use Rattle.rules.specs.Analysis.{front}
use Rattle.rules.proofs.Text.Pieces.{by_test, front_nil, front_yes, front_no}
use Rattle.analysis.specs.Tokens.{inside, as_wanted, wanted, span_from, Span}
use Rattle.analysis.proofs.Firsts.{part_length}

-- the bytes of a front are those before the first that P is false of
front_first : (P : ℕ → Bool) (t : List ℕ) → length (front P t) ≡ position_or_len (λ c. not (P c)) t
front_first P t = is_position_or_len (λ u. length (front P u)) (λ c. not (P c)) (ap length (front_nil P)) step t
  where
    step : (c : ℕ) (u : List ℕ) → length (front P (c ∷ u)) ≡ cond (not (P c)) 0 (1 + length (front P u))
    step c u = by_test (P c) (λ e. rw (front_yes P c u e, e) (omega arith)) (λ e. rw (front_no P c u e, e))

-- the code's test, that a byte is not as wanted
abbrev pub unwanted : ℕ → Bool → ℕ → Bool
unwanted a b c = not (beq (inside a c) b)

as_wanted_lem : (b r : Bool) → beq r b ≡ as_wanted b r
as_wanted_lem true true = refl
as_wanted_lem true false = refl
as_wanted_lem false true = refl
as_wanted_lem false false = refl

pub span_first : (a : ℕ) (b : Bool) (s : List ℕ) {from end r : ℕ} → from ≤ end → end ≤ length s → r ≡ position_or_len (unwanted a b) (take (end - from) (drop from s)) → r ≤ length (take (end - from) (drop from s)) → Span (wanted a b) s from end (from + r)
unfolding wanted span_from
span_first a b s {from} {end} {r} l m e h = record {
  is = let k = simp as_wanted_lem at e in ap (λ (n : ℕ). from + n) (k ∙ sym (front_first (λ c. as_wanted b (inside a c)) (take (end - from) (drop from s))));
  low = omega arith;
  high = omega (arith, part_length s l m);
}
