-- `gorbihesh::gorbihesh_parse` meets its contract.
use Rattle.gorbihesh.proofs.Edge.{parse_short, parse_near, parse_left_lem, parse_refused}
use mathlib.Core.Path.{◌∙◌}
use native.Mathlib.Omega.{arith}
use Rattle.gorbihesh.proofs.gorbihesh_parse.Goals as goal

pub overflow_cast-e : goal.overflow_cast-e
overflow_cast-e c = omega (arith, parse_near c.parse.ensures c.in-Err.is)

pub overflow_cast-len : goal.overflow_cast-len
overflow_cast-len c = omega (arith, parse_short c.parse.ensures c.in-Ok.is)

pub returns-in-Err : goal.returns-in-Err
returns-in-Err c = parse_refused c.parse.ensures c.in-Err.is (c.from-in-Err.ensures ∙ c.from.ensures) c.told.ensures

pub returns-in-Ok : goal.returns-in-Ok
returns-in-Ok c = parse_left_lem c.parse.ensures c.in-Ok.is c.told-in-Ok.ensures
