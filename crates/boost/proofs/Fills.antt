-- What the proof of `number` cites: the digits before and behind the point, read into one row. Assumes nothing.
use mathlib.Core.Path.{◌≡◌, refl, sym, ap, ◌∙◌}
use mathlib.Core.List.{List, [], ◌∷◌}
use mathlib.Core.Bool.{Bool, true, ◌&&◌}
use Prim.Native.Nat.{ℕ, zero, suc, ◌+◌, ◌-◌, ◌*◌, ◌^◌}
use native.Mathlib.Nat.{lt_of_lt_of_le, zero-mul}
use native.Mathlib.Omega.{arith}
use lib.Dec.{T, eqb, eqb→eq}
use lib.ListN.{length, get_or}
use lib.Ieee.Fits.{and_l, and_r}
use Rattle.rules.specs.Numerals.{digits_on}
use Rattle.boost.specs.Row.{up_to, value}
use Rattle.boost.specs.Digits.{Holds, Filled, Held, number_of, NumberRow}
use Rattle.boost.proofs.Rows.{B, up_to_none, up_to_suc}
use Rattle.boost.proofs.Tens.{ten_mono, ten_pos}
use Rattle.boost.proofs.Scales.{whole_few, held_few}

-- ---- a row of nothing
abbrev noughts : List ℕ → Bool
noughts [] = true
noughts (x ∷ xs) = eqb x 0 && noughts xs

nought : (xs : List ℕ) → T (noughts xs) → (j : ℕ) → get_or xs j 0 ≡ 0
nought [] t j = refl
nought (x ∷ xs) t zero = eqb→eq x 0 (and_l (eqb x 0) (noughts xs) t)
nought (x ∷ xs) t (suc j) = nought xs (and_r (eqb x 0) (noughts xs) t) j

nothing : (xs : List ℕ) → T (noughts xs) → (i : ℕ) → up_to xs i ≡ 0
nothing xs t zero = up_to_none xs
nothing xs t (suc i) = up_to_suc xs i ∙ ap (λ (x : ℕ). x + get_or xs i 0 * B ^ i) (nothing xs t i) ∙ ap (λ (x : ℕ). 0 + x * B ^ i) (nought xs t i) ∙ ap (λ (x : ℕ). 0 + x) (zero-mul (B ^ i))

abbrev pub zeros : List ℕ
zeros = 0 ∷ 0 ∷ 0 ∷ 0 ∷ 0 ∷ 0 ∷ 0 ∷ 0 ∷ 0 ∷ 0 ∷ 0 ∷ 0 ∷ 0 ∷ 0 ∷ 0 ∷ 0 ∷ 0 ∷ 0 ∷ []

none_at : (from : ℕ) → value zeros ≡ 0 * B ^ from
none_at from = nothing zeros tt 18 ∙ sym (zero-mul (B ^ from))

pub zeros_hold : (from k : ℕ) → Holds zeros from k
zeros_hold from k = record { none = nothing zeros tt from; number = 0; is = none_at from; small = ten_pos k }

-- the digits before the point, and then those behind it
module _ (whole fraction : List ℕ) (v from : ℕ) (ys : List ℕ) (g : Held whole fraction v) (f : Filled whole from zeros ys) where
  whole_is : value ys ≡ digits_on 0 whole * B ^ from
  whole_is = f.is 0 (none_at from)

  pub whole_holds : Holds ys from (40 - length fraction)
  whole_holds = record { none = f.none; number = digits_on 0 whole; is = whole_is; small = lt_of_lt_of_le (whole_few whole g.whole_digits) (ten_mono (length whole) (40 - length fraction) (omega (arith, g.few))) }

  pub number_full : (zs : List ℕ) → Filled fraction from ys zs → NumberRow (number_of whole fraction) from zs
  number_full zs k = record { none = k.none; is = k.is (digits_on 0 whole) whole_is; small = held_few whole fraction v g }
