-- `boost::row::fives` meets its contract. Assumes nothing.
use Rattle.std.proofs.Common.{◌-◌, ◌*◌}
use Rattle.boost.proofs.Tens.{Fives}
use Rattle.boost.proofs.row.fives.Given as goal

abbrev pub invariant-loop-pass : goal.invariant-loop-pass
invariant-loop-pass l = Fives l.initial.row l.row l.n (l.n - 20 * l._pass) l.len l.left
