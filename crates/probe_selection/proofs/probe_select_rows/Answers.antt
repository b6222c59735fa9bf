-- `probe_selection::probe_select_rows` meets its contract.
use Prim.Native.Nat.{◌*◌}
use Rattle.probe_selection.specs.Probe.{packed}
use Rattle.selection.specs.Select.{told}
use Prim.Native.Nat.{ℕ}
use Rattle.names.specs.Refusals.{numbered}
use Rattle.names.specs.declared.refusal.Refusal.{Refusal}
use Rattle.std.proofs.Common.{rules}
use Rattle.std.specs.Prelude.{Result, Ok, Err}
use mathlib.Core.Path.{◌≡◌, sym, ap, ◌∙◌}
use native.Mathlib.Omega.{arith}
use Rattle.probe_selection.proofs.probe_select_rows.Goals as goal

pub overflow_mul-result : goal.overflow_mul-result
overflow_mul-result c = omega arith

pub shape_of-rows-in-Err : goal.shape_of-rows-in-Err
shape_of-rows-in-Err c = c.select.auto.rows

pub returns-in-Err : goal.returns-in-Err
returns-in-Err c = record { answer = (let k : c.from-in-Err.result ≡ numbered c.in-Err.r = search rules in let z : c.from-in-Err.result * 4294967296 ≡ packed (told (Err c.in-Err.r)) = omega arith in z) ∙ ap (λ (x : Result ℕ Refusal). packed (told x)) (sym c.in-Err.is ∙ c.select.ensures.answer); rows = c.select.ensures.rows }

pub shape_of-rows-in-Ok : goal.shape_of-rows-in-Ok
shape_of-rows-in-Ok c = c.select.auto.rows

pub returns-in-Ok : goal.returns-in-Ok
returns-in-Ok c = record { answer = (let z : c.in-Ok.n ≡ packed (told (Ok c.in-Ok.n)) = omega arith in z) ∙ ap (λ (x : Result ℕ Refusal). packed (told x)) (sym c.in-Ok.is ∙ c.select.ensures.answer); rows = c.select.ensures.rows }
