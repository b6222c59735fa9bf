-- `round::over::term_over` meets its contract.
use Rattle.round.proofs.Finishing as finishing
use native.Mathlib.Omega.{arith}
use Rattle.round.proofs.over.term_over.Goals as goal

pub returns : goal.returns
returns c = finishing.term_put _ _ _ _ c.requires.0 c.requires.1 (omega arith) c.requires.2 (omega arith) c.put_header-p.ensures c.shift-q.ensures c.put_header-r.ensures c.shift.ensures
