-- `clauses::leaf::put_clauses` meets its contract.
use Prim.Native.Nat.{◌-◌, ◌≤◌}
use Rattle.analysis.specs.Tokens.{rest_words}
use Rattle.clauses.proofs.Writing.{Laying}
use Rattle.clauses.specs.Leaves.{term_row}
use Rattle.rules.specs.Analysis.{tokenize}
use lib.ListN.{length}
use Rattle.clauses.proofs.leaf.put_clauses.Given as goal

abbrev pub invariant-loop-t : goal.invariant-loop-t
invariant-loop-t l = Laying (term_row l.tag l.field (tokenize l.analyzer l.text)) (term_row l.tag l.field (rest_words l.analyzer l.text l.from l.position)) l.initial.out l.at l.w l.out × (l.from ≤ length l.text) × (l.position ≤ l.from)

abbrev pub decreases-loop-t : goal.decreases-loop-t
decreases-loop-t l = length l.text - l.from
