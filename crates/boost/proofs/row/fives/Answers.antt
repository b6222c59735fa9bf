-- `boost::row::fives` meets its contract. Assumes nothing.
use Rattle.std.proofs.Common.{◌≡◌, ℕ, ◌+◌, ◌-◌, ◌*◌, ◌%◌, refl, subst, lit≤, arith}
use Rattle.boost.proofs.Tens.{Fives, fives_first, fives_next, fives_last, five_factor}
use Rattle.boost.proofs.row.fives.Goals as goal

pub loop-pass-init : goal.loop-pass-init
loop-pass-init c = fives_first c.args.row.now c.args.n (c.args.n - 20 * 0) c.used-len.result (omega arith) c.used-len.ensures

pub divide-rest-requires-clause-divisor : goal.divide-rest-requires-clause-divisor
divide-rest-requires-clause-divisor c = five_factor 20 95367431640625 (lit≤ tt) refl

pub loop-pass-preserved : goal.loop-pass-preserved
loop-pass-preserved c = let e : c.args.n - 20 * c.loop-pass._pass - 20 ≡ c.args.n - 20 * (c.loop-pass._pass + 1) = omega arith in
    subst (λ (j : ℕ). Fives c.args.row.now c.divide-rest.new.row c.args.n j c.used-len-in-loop-pass.result c.with_rest-left.result) e
    (fives_next c.args.row.now c.loop-pass.row c.divide-rest.new.row c.args.n (c.args.n - 20 * c.loop-pass._pass) c.loop-pass.len 20 95367431640625 c.divide-rest.result c.used-len-in-loop-pass.result c.loop-pass.left c.with_rest-left.result c.loop-pass.invariant (omega arith) refl c.divide-rest.ensures c.used-len-in-loop-pass.ensures c.with_rest-left.ensures)

pub divide-rest-requires-2-clause-divisor : goal.divide-rest-requires-2-clause-divisor
divide-rest-requires-2-clause-divisor c = five_factor (c.args.n % 20) c.five.result (omega arith) c.five.ensures

pub returns : goal.returns
returns c = fives_last c.args.row.now c.divide-rest-2.new.row c.args.n (c.args.n - 20 * c.loop-pass._pass - c.args.n % 20) c.used.result c.with_rest.result
    (fives_next c.args.row.now c.loop-pass.row c.divide-rest-2.new.row c.args.n (c.args.n - 20 * c.loop-pass._pass) c.loop-pass.len (c.args.n % 20) c.five.result c.divide-rest-2.result c.used.result
    c.loop-pass.left c.with_rest.result c.loop-pass.invariant (omega arith) c.five.ensures c.divide-rest-2.ensures c.used.ensures c.with_rest.ensures) (omega arith)
