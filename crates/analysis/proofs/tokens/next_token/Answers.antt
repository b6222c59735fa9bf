-- `tokens::next_token` meets its contract. The loop's invariant: what was passed is left out. Assumes nothing.
use Rattle.analysis.proofs.Keeping.{passing_starts, passing_on, passing_one, passing_none, part_told}
use native.Mathlib.Omega.{arith}
use mathlib.Core.Path.{refl}
use Rattle.analysis.proofs.tokens.next_token.Goals as goal

pub loop-t-init : goal.loop-t-init
loop-t-init c = passing_starts _ _ _ _

pub returns-then-not-is_left_out : goal.returns-then-not-is_left_out
returns-then-not-is_left_out c = passing_one c.loop-t.invariant c.in-Some.ensures.0 (λ z. omega (arith, c.in-Some.ensures.1)) (part_told c.args.analyzer c.args.text.now c.in-Some.t.start c.in-Some.t.len c.is_left_out.ensures c.if-not-is_left_out.true)

pub loop-t-preserved : goal.loop-t-preserved
loop-t-preserved c = passing_on c.loop-t.invariant c.in-Some.ensures.0 c.in-Some.ensures.1 (part_told c.args.analyzer c.args.text.now c.in-Some.t.start c.in-Some.t.len c.is_left_out.ensures c.if-not-is_left_out.false)

pub returns : goal.returns
returns c = rw c.max.ensures (passing_none c.loop-t.invariant c.in_default.ensures refl)
