-- `clauses::write::write_bracket`, `write_clause` and `write_query` call each other and meet their contracts: unread tokens fall, then a call rank.
use Prim.Native.Nat.{ℕ, ◌+◌, ◌-◌, ◌*◌, ◌≤◌}
use Rattle.clauses.proofs.Going.{Going}
use Rattle.clauses.specs.Written.{QueryToWrite}
use Rattle.row.specs.Row.{tokens_of, name_from}
use Rattle.rules.specs.Query.{Clauses}
use Rattle.rules.specs.Setup.{Setup}
use lib.ListN.{length}
use mathlib.Core.Path.{◌≡◌}
use Rattle.clauses.proofs.write.+write_bracket_write_clause_write_query.Given as goal

abbrev pub decreases-write_bracket : goal.decreases-write_bracket
decreases-write_bracket l = 3 * (l.row.now.n - l.i) + 2

abbrev pub decreases-write_clause : goal.decreases-write_clause
decreases-write_clause l = 3 * (l.row.now.n - l.i)

abbrev pub decreases-write_query : goal.decreases-write_query
decreases-write_query l = 3 * (l.row.now.n - l.at) + 1

abbrev pub invariant-write_query-loop-p : goal.invariant-write_query-loop-p
invariant-write_query-loop-p l = (l.at ≤ l.i)
    × (l.i ≤ l.row.n)
    × (length l.out ≡ length l.initial.out)
    × ((st : Setup) (cs : Clauses) (j : ℕ) → QueryToWrite l.row.room.now l.row.n l.row.default.now l.p.operator l.p.from l.p.analyzer l.p.depth l.at l.alone (length l.initial.out) st cs j
    → Going l.alone st (tokens_of l.row.room.now l.row.n) (name_from l.row.room.now l.row.default.now l.p.from) l.p.depth cs j l.initial.out l.i l.w l.last l.out)

abbrev pub decreases-write_query-loop-p : goal.decreases-write_query-loop-p
decreases-write_query-loop-p l = l.row.n - l.i
