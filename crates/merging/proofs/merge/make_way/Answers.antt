-- `merging::merge::make_way` meets its contract.
use Rattle.merging.proofs.Laid as laid
use native.Mathlib.Omega.{arith}
use Rattle.merging.proofs.merge.make_way.Goals as goal

pub shift-requires : goal.shift-requires
shift-requires c = omega (arith, c.max-begin.ensures, c.requires)

pub returns : goal.returns
returns c = laid.way_made _ _ _ _ c.requires.0 _ c.max-begin.ensures c.requires.1 (omega (arith, c.max-begin.ensures, c.requires.2)) c.shift.ensures
