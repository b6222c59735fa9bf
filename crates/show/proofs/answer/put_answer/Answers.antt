-- `show::answer::put_answer` meets its contract.
use Rattle.names.specs.Refusals.{numbered}
use Rattle.rules.specs.Bytes.{ascii}
use Rattle.rules.specs.Show.{show_rewritten}
use Rattle.show.proofs.Laying as laying
use Rattle.names.proofs.Refusals as refusals
use Rattle.show.specs.Answer.{answer_text}
use Rattle.show.specs.Node.{kind_text}
use borrow.Author.Tests.{ne_eqb}
use Rattle.show.proofs.answer.put_answer.Goals as goal

pub returns-in-Err : goal.returns-in-Err
unfolding answer_text
returns-in-Err c = laying.lays_as
    (rw (
      c.in-Err.is,
      ne_eqb
          (numbered c.in-Err.f.refusal)
          0 (refusals.numbered_some c.in-Err.f.refusal),
    ))
    c.put_refusal.ensures

pub returns-in-Ok : goal.returns-in-Ok
unfolding answer_text ascii show_rewritten kind_text
returns-in-Ok c = laying.lays_as
    (rw c.in-Ok.is)
    (laying.lays_then
    (laying.lays_then
    (laying.lays_then
    (laying.lays_then
    (laying.lays_then
    c.put-p.ensures
    c.show_query-q.ensures)
    c.put-r.ensures)
    c.put_decimal-s.ensures)
    c.put-t.ensures)
    c.show_query.ensures)
