-- `round::over::put_lone` meets its contract.
use Prim.Native.Nat.{◌-◌}
use Rattle.round.proofs.Booleans as booleans
use Rattle.round.proofs.Finishing as finishing
use mathlib.Core.Path.{sym, ◌∙◌}
use native.Mathlib.Omega.{arith}
use Rattle.round.proofs.over.put_lone.Goals as goal

pub bounds-room-8 : goal.bounds-room-8
bounds-room-8 c = let l = (booleans.lone_at c.args.room.now _ _ _ c.requires.are c.requires.low c.requires.fits).long in omega (arith, c.requires.fits)

pub overflow_sub-n : goal.overflow_sub-n
overflow_sub-n c = let l = (booleans.lone_at c.args.room.now _ _ _ c.requires.are c.requires.low c.requires.fits).long in omega arith

pub returns-in-34 : goal.returns-in-34
returns-in-34 c = λ k q a. rw (finishing.lone_none k q (sym (booleans.lone_at c.args.room.now _ k q a c.requires.low c.requires.fits).tag ∙ c.in-34.is)) c.put_none.ensures

pub shift-requires : goal.shift-requires
shift-requires c = let l = (booleans.lone_at c.args.room.now _ _ _ c.requires.are c.requires.low c.requires.fits).long in (omega arith, omega arith)

pub put_header-requires : goal.put_header-requires
put_header-requires c = let l = (booleans.lone_at c.args.room.now _ _ _ c.requires.are c.requires.low c.requires.fits).long in omega (arith, c.requires.fits, c.requires.small, c.shift.auto.room)

pub returns-in-35 : goal.returns-in-35
returns-in-35 c = λ k q a. let A = booleans.lone_at c.args.room.now _ k q a c.requires.low
    c.requires.fits in let l = A.long in rw
    (finishing.lone_filter k q (sym A.tag ∙ c.in-35.is)) (finishing.filter_laid q (finishing.moved 11 (c.args.end - 11) c.shift.ensures A.here (omega arith) (omega arith))
    (omega arith) c.put_header.ensures c.put_big4.ensures c.put_header-in-35.ensures)

pub shift-requires-in_default : goal.shift-requires-in_default
shift-requires-in_default c = let l = (booleans.lone_at c.args.room.now _ _ _ c.requires.are c.requires.low c.requires.fits).long in (omega arith, omega arith)

pub returns-in_default : goal.returns-in_default
returns-in_default c = λ k q a. let A = booleans.lone_at c.args.room.now _ k q a c.requires.low c.requires.fits in let l = A.long in
    rw (finishing.lone_plain k q (λ z. omega (arith, A.tag, z)) (λ z. omega (arith, A.tag, z))) (finishing.moved 11 (c.args.end - 11) c.shift-in_default.ensures A.here (omega arith) (omega arith))
