-- `parts::write::put_part` meets its contract.
use Rattle.numbers.proofs.Laying as laying
use mathlib.Core.Path.{refl}
use native.Mathlib.Omega.{arith}
use Rattle.parts.proofs.write.put_part.Goals as goal

pub returns : goal.returns
returns c = laying.put_body c.put_header-b.ensures c.copy.ensures refl (omega arith)
