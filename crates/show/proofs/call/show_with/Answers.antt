-- `show::call::show_with` meets its contract.
use Rattle.show.proofs.Answering as answering
use Rattle.show.proofs.call.show_with.Goals as goal

pub returns-in-Err : goal.returns-in-Err
returns-in-Err c = answering.whole_left c.args.input.now c.args.out.now c.args.room.now c.requires.2 _ _ _ c.make.new.room c.deliver.ensures (answering.made_text (rw c.in-Err.is at c.make.ensures.makes)) c.make.ensures.room_after

pub returns-in-Ok : goal.returns-in-Ok
returns-in-Ok c = answering.whole_left c.args.input.now c.args.out.now c.args.room.now c.requires.2 _ _ _ c.make.new.room c.deliver-in-Ok.ensures (answering.made_text (rw c.in-Ok.is at c.make.ensures.makes)) c.make.ensures.room_after
