-- `fields::analyzer_of` meets its contract. The loop's invariant: the entries from the k-th on are not the field's. Assumes nothing.
use Rattle.fields.proofs.Rows.{among_to}
use Rattle.fields.specs.Fields.{array_entries}
use Rattle.rules.specs.Setup.{analyzer_among}
use mathlib.Core.Path.{◌≡◌}
use Rattle.fields.proofs.analyzer_of.Given as goal

abbrev pub invariant-loop-k : goal.invariant-loop-k
invariant-loop-k l = analyzer_among l.default (array_entries l.names l.lengths l.analyzers l.count) l.field ≡ among_to l.names l.lengths l.analyzers l.default l.field l.k
