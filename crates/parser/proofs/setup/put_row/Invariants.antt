-- `parser::setup::put_row` meets its contract.
use Rattle.parser.proofs.Entries.{Testing}
use Rattle.parser.proofs.setup.put_row.Given as goal

abbrev pub invariant-loop-i : goal.invariant-loop-i
invariant-loop-i l = Testing l.s l.row l.i
