-- `rewriter::rounds::rewrite_into` meets its contract.
use Rattle.rewriter.proofs.Settling as settling
use Rattle.std.proofs.lemmas.Result.{err_from_is_err_and}
use mathlib.Core.Path.{sym, ◌∙◌}
use native.Mathlib.Omega.{arith}
use Rattle.rewriter.proofs.rounds.rewrite_into.Goals as goal

pub returns-then-room-lt-REWRITE_ROOM : goal.returns-then-room-lt-REWRITE_ROOM
returns-then-room-lt-REWRITE_ROOM c = settling.short_room_lem c.args.strict c.args.query.now c.args.out.now c.args.room.now c.if-room-lt-REWRITE_ROOM.true

pub returns-in_err-for_rewriting : goal.returns-in_err-for_rewriting
returns-in_err-for_rewriting c = let p = err_from_is_err_and c.from_residual.result c.from_residual.ensures.1 in rw (p.1, p.2) (settling.refused_left c.args.strict c.args.query.now c.args.out.now c.args.room.now c.if-room-lt-REWRITE_ROOM.false _ (sym c.in_err-for_rewriting.was ∙ c.for_rewriting.ensures))

pub rewrite_all-a-requires : goal.rewrite_all-a-requires
rewrite_all-a-requires c = settling.ready c.args.strict c.args.query.now c.args.out.now c.args.room.now c.if-room-lt-REWRITE_ROOM.false (λ i. omega (arith, c.type_inv.query i)) (sym c.in_ok-for_rewriting.was ∙ c.for_rewriting.ensures) c.copy.ensures

pub returns-then-out-a : goal.returns-then-out-a
returns-then-out-a c = settling.long_left c.args.strict c.args.query.now c.args.out.now c.args.room.now c.if-room-lt-REWRITE_ROOM.false (λ i. omega (arith, c.type_inv.query i)) (sym c.in_ok-for_rewriting.was ∙ c.for_rewriting.ensures) c.copy.ensures _ c.rewrite_all-a.ensures c.if-out-a.true

pub slice_bounds-copy-end : goal.slice_bounds-copy-end
slice_bounds-copy-end c = (settling.settled_low c.args.strict c.args.query.now c.args.out.now c.args.room.now c.if-room-lt-REWRITE_ROOM.false (λ i. omega (arith, c.type_inv.query i)) (sym c.in_ok-for_rewriting.was ∙ c.for_rewriting.ensures) c.copy.ensures _ c.rewrite_all-a.ensures).0

pub returns : goal.returns
returns c = settling.got_left c.args.strict c.args.query.now c.args.out.now c.args.room.now c.if-room-lt-REWRITE_ROOM.false (λ i. omega (arith, c.type_inv.query i)) (sym c.in_ok-for_rewriting.was ∙ c.for_rewriting.ensures) c.copy.ensures _ c.rewrite_all-a.ensures c.if-out-a.false _ _ c.copy-2.ensures
