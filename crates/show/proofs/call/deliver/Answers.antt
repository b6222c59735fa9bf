-- `show::call::deliver` meets its contract.
use Rattle.show.proofs.Answering as answering
use Rattle.show.proofs.Refusals as refusals
use native.Mathlib.Omega.{arith}
use Rattle.show.proofs.call.deliver.Goals as goal

pub returns-then-out-n : goal.returns-then-out-n
returns-then-out-n c = let n = c.put_answer-n.ensures.place (answering.answer_length c.requires (refusals.refusal_low c.args.rounds)) in answering.too_long _ c.args.out.now c.put_answer-n.new.out (omega (arith, c.put_answer-n.auto.out)) (omega (arith, n, c.if-out-n.true))

pub returns : goal.returns
returns c = let far = answering.answer_length c.requires (refusals.refusal_low c.args.rounds) in
    answering.fits _ c.args.out.now c.put_answer-n.new.out c.put_answer-n.result (omega (arith, c.put_answer-n.auto.out)) far (c.put_answer-n.ensures.place far) c.if-out-n.false c.put_answer.ensures
