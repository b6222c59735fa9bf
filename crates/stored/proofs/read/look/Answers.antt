-- `stored::read::look` meets its contract.
use Prim.Native.Nat.{◌+◌}
use Rattle.rules.proofs.Bools as bools
use Rattle.rules.proofs.Stored.Parts as parts
use Rattle.std.proofs.lemmas.Result as result
use Rattle.stored.proofs.Opening as opening
use native.Mathlib.Omega.{arith}
use Rattle.stored.proofs.read.look.Goals as goal

pub returns-in_err-say : goal.returns-in_err-say
returns-in_err-say c = let p = result.err_from_is_err_and c.from_residual.result c.from_residual.ensures.1 in let f = opening.failed c.is_record.ensures c.in_err-say.ensures in rw (p.1, p.2, f.1) (opening.fault_bad c.args.depth c.args.q.now f.0)

pub returns-then-depth-eq0 : goal.returns-then-depth-eq0
returns-then-depth-eq0 c = opening.fault_deep c.args.depth c.args.q.now c.if-depth-eq0.true (opening.passed c.is_record.ensures c.in_ok-say.ensures)

pub size_of-to-requires : goal.size_of-to-requires
size_of-to-requires c = omega (arith, parts.whole_le c.args.q.now (bools.and_l _ _ (opening.passed c.is_record.ensures c.in_ok-say.ensures)))

pub returns-in_err-say-in-3 : goal.returns-in_err-say-in-3
returns-in_err-say-in-3 c = let p = result.err_from_is_err_and c.from_residual-in_err-say-in-3.result c.from_residual-in_err-say-in-3.ensures.1 in let f = opening.failed c.is_minimum.ensures c.in_err-say-in-3.ensures in
    rw (p.1, p.2, f.1) (opening.boolean_fault c.args.depth c.args.q.now c.body-b.result.now (3 + c.size_of-to.result) c.if-depth-eq0.false (opening.passed c.is_record.ensures c.in_ok-say.ensures) (omega arith) (omega arith) c.body-b.ensures c.in-3.is f.0)

pub returns-in_err-say-in-4 : goal.returns-in_err-say-in-4
returns-in_err-say-in-4 c = let p = result.err_from_is_err_and c.from_residual-in_err-say-in-4.result c.from_residual-in_err-say-in-4.ensures.1 in let f = opening.failed c.is_boosted.ensures c.in_err-say-in-4.ensures in
    rw (p.1, p.2, f.1) (opening.boost_fault c.args.depth c.args.q.now c.body-b.result.now (3 + c.size_of-to.result) c.if-depth-eq0.false (opening.passed c.is_record.ensures c.in_ok-say.ensures) (omega arith) (omega arith) c.body-b.ensures c.in-4.is f.0)

pub returns-in_err-say-in_default : goal.returns-in_err-say-in_default
returns-in_err-say-in_default c = let p = result.err_from_is_err_and c.from_residual-in_err-say-in_default.result c.from_residual-in_err-say-in_default.ensures.1 in let f = opening.failed c.is_leaf.ensures c.in_err-say-in_default.ensures in
    rw (p.1, p.2, f.1) (opening.leaf_fault_lem c.args.depth c.args.q.now c.body-b.result.now (3 + c.size_of-to.result) c.if-depth-eq0.false (opening.passed c.is_record.ensures c.in_ok-say.ensures) (omega arith) (omega arith) c.body-b.ensures c.in_default.in_default-own.rest.0.0.1 c.in_default.in_default-own.rest.0.1 c.in_default.in_default-own.rest.1 f.0)

pub returns-in_ok-say-in-3 : goal.returns-in_ok-say-in-3
returns-in_ok-say-in-3 c = opening.boolean_row c.args.depth c.args.q.now c.body-b.result.now (3 + c.size_of-to.result) c.if-depth-eq0.false (opening.passed c.is_record.ensures c.in_ok-say.ensures) (omega arith) (omega arith) c.body-b.ensures c.in-3.is (opening.passed c.is_minimum.ensures c.in_ok-say-in-3.ensures)

pub returns-in_ok-say-in-4 : goal.returns-in_ok-say-in-4
returns-in_ok-say-in-4 c = opening.boost_query c.args.depth c.args.q.now c.body-b.result.now (3 + c.size_of-to.result) c.if-depth-eq0.false (opening.passed c.is_record.ensures c.in_ok-say.ensures) (omega arith) (omega arith) c.body-b.ensures c.in-4.is (opening.passed c.is_boosted.ensures c.in_ok-say-in-4.ensures)

pub returns-in-5 : goal.returns-in-5
returns-in-5 c = opening.constant_query c.args.depth c.args.q.now c.body-b.result.now (3 + c.size_of-to.result) c.if-depth-eq0.false (opening.passed c.is_record.ensures c.in_ok-say.ensures) (omega arith) (omega arith) c.body-b.ensures c.in-5.is

pub returns-in_ok-say-in_default : goal.returns-in_ok-say-in_default
returns-in_ok-say-in_default c = opening.leaf_record c.args.depth c.args.q.now c.body-b.result.now (3 + c.size_of-to.result) c.if-depth-eq0.false (opening.passed c.is_record.ensures c.in_ok-say.ensures) (omega arith) (omega arith) c.body-b.ensures c.in_default.in_default-own.rest.0.0.1 c.in_default.in_default-own.rest.0.1 c.in_default.in_default-own.rest.1 (opening.passed c.is_leaf.ensures c.in_ok-say-in_default.ensures)
