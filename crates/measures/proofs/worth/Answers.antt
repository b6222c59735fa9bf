-- `measures::worth` meets its contract.
use Rattle.measures.specs.Measure.{worth_of}
use borrow.Author.Tests.{ne_eqb}
use mathlib.Core.Path.{sym, ap}
use native.Mathlib.Omega.{arith}
use Rattle.measures.proofs.worth.Goals as goal

pub returns-in-2 : goal.returns-in-2
returns-in-2 c = (ap worth_of (sym c.in-2.is), omega arith)

pub returns-in-3 : goal.returns-in-3
returns-in-3 c = (ap worth_of (sym c.in-3.is), omega arith)

pub returns-in_default : goal.returns-in_default
returns-in_default c = (sym (rw (ne_eqb _ 2 c.in_default.in_default-own.rest.0.1, ne_eqb _ 3 c.in_default.in_default-own.rest.1)), omega arith)
