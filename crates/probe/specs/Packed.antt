-- An answer as one number: a refusal's number times 2 ^ 32, or the bits.
use Rattle.std.specs.Prelude.{ℕ, ◌*◌, ◌^◌, Result, Ok, Err}
use Rattle.names.specs.declared.refusal.Refusal.{Refusal}
use Rattle.names.specs.Refusals.{numbered}

abbrev pub packed : Result ℕ Refusal → ℕ
packed (Err e) = numbered e * 2 ^ 32
packed (Ok b) = b
