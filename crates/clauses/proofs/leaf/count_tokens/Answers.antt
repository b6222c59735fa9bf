-- `clauses::leaf::count_tokens` meets its contract.
use Rattle.clauses.proofs.Tallying.{counting_starts, counting_ends, counting_goes, counting_few, counting_most}
use native.Mathlib.Omega.{arith}
use Rattle.clauses.proofs.leaf.count_tokens.Goals as goal

pub loop-t-init : goal.loop-t-init
loop-t-init c = counting_starts _ _ _

pub returns-then-t-eq0 : goal.returns-then-t-eq0
returns-then-t-eq0 c = counting_ends c.loop-t.invariant c.next_token-t.ensures c.if-t-eq0.true

pub overflow_add-count : goal.overflow_add-count
overflow_add-count c = omega (arith, counting_few c.loop-t.invariant c.requires.0, c.requires.1)

pub overflow_add-bytes : goal.overflow_add-bytes
overflow_add-bytes c = omega (arith, counting_most c.loop-t.invariant c.requires.0, c.requires.0, c.requires.1)

pub overflow_add-bytes-in-loop-t : goal.overflow_add-bytes-in-loop-t
overflow_add-bytes-in-loop-t c = omega (arith, counting_most c.loop-t.invariant c.requires.0, c.requires.0, c.requires.1, c.next_token-t.ensures.within, c.loop-t.invariant.within)

pub loop-t-preserved : goal.loop-t-preserved
loop-t-preserved c = counting_goes c.loop-t.invariant c.next_token-t.ensures c.if-t-eq0.false
