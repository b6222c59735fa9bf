use Rattle.batch.proofs.Cutting as cutting
use Rattle.batch.proofs.Leaving as leaving
use mathlib.Core.Path.{◌∙◌}
use Rattle.batch.proofs.all.select_all.Goals as goal

pub returns-then-room-lt-SELECT_ALL_ROOM : goal.returns-then-room-lt-SELECT_ALL_ROOM
returns-then-room-lt-SELECT_ALL_ROOM c = record { answer = leaving.refused_left c.args.queries.now c.args.list.now c.args.answers.now c.args.rows.now c.args.room.now (leaving.gate_room c.args.queries.now c.args.answers.now c.args.room.now c.if-room-lt-SELECT_ALL_ROOM.true) c.refuse.ensures.0 c.refuse.ensures.1 c.refuse.ensures.2 c.clear.ensures; few = leaving.no_few c.refuse.ensures.1 c.refuse.ensures.2 }

pub answer_all-requires : goal.answer_all-requires
answer_all-requires c = (cutting.cuts c.args.queries.now c.in-Ok.many c.cut_all.ensures c.in-Ok.is, c.if-room-lt-SELECT_ALL_ROOM.false)

pub returns-in-Err : goal.returns-in-Err
returns-in-Err c = let g = leaving.gate_cut c.args.queries.now c.args.answers.now c.args.room.now c.if-room-lt-SELECT_ALL_ROOM.false c.cut_all.ensures c.in-Err.is in record { answer = leaving.refused_left c.args.queries.now c.args.list.now c.args.answers.now c.args.rows.now c.args.room.now g.1 (c.refuse-in-Err.ensures.0 ∙ g.2) c.refuse-in-Err.ensures.1 c.refuse-in-Err.ensures.2 c.clear-in-Err.ensures; few = leaving.no_few c.refuse-in-Err.ensures.1 c.refuse-in-Err.ensures.2 }

pub returns-in-Ok : goal.returns-in-Ok
returns-in-Ok c = record { answer = c.answer_all.ensures.is; few = c.answer_all.ensures.few }
