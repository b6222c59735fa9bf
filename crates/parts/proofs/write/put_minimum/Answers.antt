-- `parts::write::put_minimum` meets its contract.
use Rattle.numbers.proofs.Laying as laying
use mathlib.Core.Path.{refl}
use native.Mathlib.Omega.{arith}
use Rattle.parts.proofs.write.put_minimum.Goals as goal

pub returns : goal.returns
returns c = laying.put_body c.put_header-b.ensures c.put_big2.ensures refl (omega arith)
