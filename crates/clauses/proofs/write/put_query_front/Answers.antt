-- `clauses::write::put_query_front` meets its contract.
use Rattle.numbers.proofs.Laying.{put_then}
use native.Mathlib.Omega.{arith}
use Rattle.clauses.proofs.write.put_query_front.Goals as goal

pub returns : goal.returns
returns c = let n = c.requires.0 c.if-alone.false in rw c.if-alone.false (put_then c.put_header-b.ensures c.put_minimum.ensures (omega (arith, n)))
