-- What digits and an exponent give: the pattern nearest to d * 10 ^ X / 10 ^ f, and to d / 10 ^ (f + X), for every X that x stands for.
use Rattle.std.specs.Prelude.{◌≡◌, ℕ, ◌+◌, ◌*◌, ◌^◌, ◌≤◌, min}
use Rattle.rules.specs.Numerals.{infinity, nearest}
use Rattle.boost.specs.Digits.{short_most, number_of}
use Rattle.boost.specs.declared.digits.Digits.{Digits}

abbrev pub number : Digits → ℕ
number d = number_of d.whole.now d.fraction.now

pub record Up (d x f r : ℕ) : Type 0 where
  pub within : r ≤ infinity
  pub is : (X : ℕ) → x ≡ min X short_most → r ≡ nearest (d * 10 ^ X) (10 ^ f)

pub record Down (d x f r : ℕ) : Type 0 where
  pub within : r ≤ infinity
  pub is : (X : ℕ) → x ≡ min X short_most → r ≡ nearest (d * 10 ^ 0) (10 ^ (f + X))
