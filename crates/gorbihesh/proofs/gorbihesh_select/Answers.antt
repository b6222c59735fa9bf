-- `gorbihesh::gorbihesh_select` meets its contract.
use Rattle.gorbihesh.proofs.Edge.{select_few, select_left_lem, select_refused}
use Rattle.std.proofs.Common.{rules}
use native.Mathlib.Omega.{arith}
use Rattle.gorbihesh.proofs.gorbihesh_select.Goals as goal

pub overflow_cast-count : goal.overflow_cast-count
overflow_cast-count c = omega (arith, select_few c.select_bytes.ensures c.in-Ok.is)

pub overflow_mul-count : goal.overflow_mul-count
overflow_mul-count c = omega (arith, select_few c.select_bytes.ensures c.in-Ok.is)

pub overflow_cast-count-in-Ok : goal.overflow_cast-count-in-Ok
overflow_cast-count-in-Ok c = omega (arith, select_few c.select_bytes.ensures c.in-Ok.is)

pub returns-in-Err : goal.returns-in-Err
returns-in-Err c = select_refused c.select_bytes.ensures c.in-Err.is (search rules) c.told.ensures

pub returns-in-Ok : goal.returns-in-Ok
returns-in-Ok c = select_left_lem c.select_bytes.ensures c.in-Ok.is c.told-in-Ok.ensures
