-- `boost::quick::ten` meets its contract. Assumes nothing.
use Prim.Native.Nat.{ℕ, ◌≤◌, ◌^◌}
use Rattle.boost.proofs.Once.{holds, power_le}
use mathlib.Core.Path.{sym, subst}
use Rattle.boost.proofs.quick.ten.Goals as goal

pub int_to_float-result : goal.int_to_float-result
int_to_float-result c = holds c.ten-t.result (subst (λ (x : ℕ). x ≤ 2 ^ 24) (sym c.ten-t.ensures) (power_le c.args.n c.requires))
