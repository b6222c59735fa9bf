use Rattle.batch.proofs.Turning as turning
use Rattle.selection.specs.Select.{told}
use Prim.Native.Nat.{ℕ}
use Rattle.names.specs.declared.refusal.Refusal.{Refusal}
use Rattle.std.specs.Prelude.{Result}
use Rattle.names.specs.Refusals.{numbered}
use Rattle.std.proofs.Common.{rules, ◌≡◌}
use mathlib.Core.Path.{sym, ap, ◌∙◌}
use native.Mathlib.Omega.{arith}
use Rattle.batch.proofs.all.tell.Goals as goal

pub overflow_cast-n : goal.overflow_cast-n
overflow_cast-n c = omega (arith, turning.chosen_few c.in-Ok.is c.requires.1)

pub returns-in-Err : goal.returns-in-Err
returns-in-Err c = turning.tell_put (told c.args.s) (ap (λ (x : Result ℕ Refusal). (told x).refusal) c.in-Err.is ∙ sym (let k : c.from-in-Err.result ≡ numbered c.in-Err.r = search rules in k)) (ap (λ (x : Result ℕ Refusal). (told x).count) c.in-Err.is) c.put_big4-w.ensures c.put_big4.ensures c.requires.0

pub returns-in-Ok : goal.returns-in-Ok
returns-in-Ok c = turning.tell_put (told c.args.s) (ap (λ (x : Result ℕ Refusal). (told x).refusal) c.in-Ok.is) (ap (λ (x : Result ℕ Refusal). (told x).count) c.in-Ok.is) c.put_big4-w-in-Ok.ensures c.put_big4-in-Ok.ensures c.requires.0
