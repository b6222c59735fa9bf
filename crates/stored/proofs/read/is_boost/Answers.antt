-- `stored::read::is_boost` meets its contract.
use Rattle.stored.proofs.Reader as reader
use borrow.Author.Tests.{le-leb}
use mathlib.Core.Path.{◌∙◌}
use native.Mathlib.Omega.{arith}
use Rattle.stored.proofs.read.is_boost.Goals as goal

pub returns-then-bits-le-INFINITY : goal.returns-then-bits-le-INFINITY
returns-then-bits-le-INFINITY c = le-leb _ _ c.if-bits-le-INFINITY.true ∙ reader.boost_number c.args.bits (omega arith) c.if-bits-le-INFINITY.true

pub returns-else-bits-le-INFINITY : goal.returns-else-bits-le-INFINITY
returns-else-bits-le-INFINITY c = reader.boost_nan c.args.bits (omega arith) c.if-bits-le-INFINITY.false
