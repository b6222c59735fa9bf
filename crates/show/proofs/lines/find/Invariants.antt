-- `show::lines::find` meets its contract.
use Rattle.show.proofs.Cutting as cutting
use Rattle.show.proofs.lines.find.Given as goal

abbrev pub invariant-loop-i : goal.invariant-loop-i
invariant-loop-i l = cutting.Sought l.s l.b l.i
