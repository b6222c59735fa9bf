-- `entries::slots::is_missing` meets its contract.
use Rattle.entries.proofs.Noting as noting
use Rattle.rules.proofs.Bools as bools
use borrow.Author.Tests.{ltb-true}
use mathlib.Core.Path.{refl}
use native.Mathlib.Omega.{arith}
use Rattle.std.proofs.Common.{rules}
use Rattle.entries.proofs.slots.is_missing.Goals as goal

pub returns-then-is_empty : goal.returns-then-is_empty
returns-then-is_empty c = λ z. bools.clash z refl

pub bounds-slots-i : goal.bounds-slots-i
bounds-slots-i c = omega (arith, (c.requires (search rules)).standing.many, c.slot-i.ensures.1)

pub overflow_cast-result : goal.overflow_cast-result
overflow_cast-result c = omega (arith, c.shared_slice_known-5-1.given c.slot-i.result)

pub returns : goal.returns
returns c = λ z. noting.slot_missing (c.requires (search rules)) c.args.f.now c.args.t.now c.slot-i.ensures.0 (ltb-true _ _ z)
