-- What `map_err` gives, read back: the same value, or an error that the function made of one.
use mathlib.Core.Path.{◌≡◌, refl, sym, subst}
use Rattle.std.specs.Prelude.{Result, Ok, Err}
use Rattle.std.specs.Result.{MatchResult, IsErrAnd}

abbrev From : {T E D : Type 0} → (E → D → Type 0) → Result T E → Result T D → Type 0
From Q r (Ok x) = r ≡ Ok x
From {E = E} Q r (Err d) = (e : E) × (r ≡ Err e) × Q e d

from : {T E D : Type 0} (Q : E → D → Type 0) (r : Result T E) (s : Result T D) → MatchResult r (λ x. s ≡ Ok x) (λ e. IsErrAnd s (Q e)) → From Q r s
from Q (Ok y) s M = subst (From Q (Ok y)) (sym M) refl
from Q (Err y) (Ok x) M = absurd M
from Q (Err y) (Err d) M = (y, refl, M)

module _ {T E D : Type 0} (Q : E → D → Type 0) (r : Result T E) {s : Result T D} (M : MatchResult r (λ x. s ≡ Ok x) (λ e. IsErrAnd s (Q e))) where
  pub at_ok : {x : T} → s ≡ Ok x → r ≡ Ok x
  at_ok e = subst (From Q r) e (from Q r s M)

  pub at_err : {d : D} → s ≡ Err d → (e : E) × (r ≡ Err e) × Q e d
  at_err e = subst (From Q r) e (from Q r s M)
