-- `vectors::tokens::are_tokens` is safe and ends. The loop's invariant: what was passed lies within the text and the row.
use native.Mathlib.Omega.{arith}
use Rattle.vectors.proofs.tokens.are_tokens.Goals as goal

pub next_token-t-requires : goal.next_token-t-requires
next_token-t-requires c = c.loop-at.invariant.0

pub overflow_add-end : goal.overflow_add-end
overflow_add-end c = omega (arith, c.next_token-t.ensures.within, c.loop-at.invariant.1)

pub slice_bounds-is_token-end : goal.slice_bounds-is_token-end
slice_bounds-is_token-end c = omega (arith, c.next_token-t.ensures.within, c.loop-at.invariant.1)

pub overflow_add-position : goal.overflow_add-position
overflow_add-position c = omega (arith, c.next_token-t.ensures.few, c.next_token-t.ensures.within, c.loop-at.invariant.0, c.loop-at.invariant.1, c.if-t-eq0.false, c.well_formed, c.ranges)

pub loop-at-preserved : goal.loop-at-preserved
loop-at-preserved c = (omega (arith, c.next_token-t.ensures.few, c.loop-at.invariant.0, c.if-t-eq0.false), omega (arith, c.next_token-t.ensures.within, c.loop-at.invariant.1), omega (arith, c.token_columns-c.ensures.3))

pub next_token-requires : goal.next_token-requires
next_token-requires c = c.loop-at.invariant.0
