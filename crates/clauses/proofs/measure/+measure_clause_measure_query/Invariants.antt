-- `clauses::measure::measure_clause` and `clauses::measure::measure_query` call each other and meet their contracts: unread tokens fall, then a call rank.
use Prim.Native.Nat.{◌+◌, ◌-◌, ◌*◌}
use Rattle.clauses.proofs.Steps.{Bounds, Turn}
use Rattle.clauses.specs.Measured.{Tuned}
use Rattle.row.specs.Row.{tokens_of, name_from}
use Rattle.rules.specs.Setup.{Setup}
use Rattle.clauses.proofs.measure.+measure_clause_measure_query.Given as goal

abbrev pub decreases-measure_clause : goal.decreases-measure_clause
decreases-measure_clause l = 2 * (l.row.now.n - l.i)

abbrev pub decreases-measure_query : goal.decreases-measure_query
decreases-measure_query l = 2 * (l.row.now.n - l.at) + 1

abbrev pub invariant-measure_query-loop-p : goal.invariant-measure_query-loop-p
invariant-measure_query-loop-p l = Bounds (tokens_of l.row.room.now l.row.n) l.row.n l.at l.i l.s.count l.s.bytes
    × ((st : Setup) → Tuned st l.p.operator l.row.room.now l.row.n l.row.default.now l.p.from l.p.analyzer → Turn st (tokens_of l.row.room.now l.row.n) l.row.n (name_from l.row.room.now l.row.default.now l.p.from) l.p.depth l.at l.i l.s.count l.s.tag l.s.bytes)

abbrev pub decreases-measure_query-loop-p : goal.decreases-measure_query-loop-p
decreases-measure_query-loop-p l = l.row.n - l.i
