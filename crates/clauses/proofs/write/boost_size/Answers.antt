-- `clauses::write::boost_size` meets its contract.
use Prim.Native.Nat.{◌+◌}
use Rattle.row.specs.Row.{tokens_of}
use Rattle.rules.proofs.Bools.{and_no_l, and_no_r}
use Rattle.rules.specs.Parsing.{is_at}
use mathlib.Core.Path.{sym, ◌∙◌}
use Rattle.clauses.proofs.write.boost_size.Goals as goal
use Rattle.clauses.proofs.write.boost_size.Goals.{else-is_at-via-then-is_at+else-is_at-2, else-is_at-via-else-is_at}

pub returns : goal.returns
returns c = elim c.else-is_at.branch [
  | else-is_at-via-then-is_at+else-is_at-2 w ↦ rw (and_no_r (is_at 11 (tokens_of c.args.row.now.room.now c.args.row.now.n) c.args.i) (sym w.is_at-then-is_at.ensures ∙ w.if-is_at-2.false))
  | else-is_at-via-else-is_at w ↦ rw (and_no_l (is_at 1 (tokens_of c.args.row.now.room.now c.args.row.now.n) (c.args.i + 1)) (sym c.is_at.ensures ∙ w.if-is_at.false))
]
