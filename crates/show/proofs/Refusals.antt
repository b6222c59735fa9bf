-- A refusal of an input is a byte.
use Prim.Native.Nat.{◌≤◌}
use native.Mathlib.Omega.{arith}
use Rattle.std.specs.Prelude.{Result, Ok, Err}
use Rattle.names.specs.declared.refusal.Fault.{Fault}
use Rattle.names.proofs.Refusals.{numbered_low}
use Rattle.show.specs.Answer.{refusal_in}

pub refusal_low : {A : Type 0} (o : Result A Fault) → refusal_in o ≤ 0xff
refusal_low (Ok a) = omega arith
refusal_low (Err f) = numbered_low f.refusal
