-- `show::answer::put_refusal` meets its contract.
use Rattle.rules.specs.Bytes.{ascii}
use Rattle.show.proofs.Laying as laying
use Rattle.show.specs.Answer.{refusal_text}
use Rattle.show.proofs.answer.put_refusal.Goals as goal

pub returns : goal.returns
unfolding ascii refusal_text
returns c = laying.lays_as (rw (← c.from-number.ensures)) (laying.lays_then
    (laying.lays_then
    (laying.lays_then
    (laying.lays_then
    c.put-p.ensures
    c.put_decimal-q.ensures)
    c.put-r.ensures)
    c.put_decimal-s.ensures)
    c.put.ensures)
