use Prim.Native.Nat.{ℕ}
use Rattle.batch.proofs.Leaving as leaving
use lib.ListN.{replicate}
use mathlib.Core.Path.{ap, ◌∙◌}
use mathlib.Core.Path.{◌∙◌}
use native.Mathlib.Omega.{arith}
use Rattle.batch.proofs.all.answer_all.Goals as goal

pub returns-then-answers-many : goal.returns-then-answers-many
returns-then-answers-many c = record { is = leaving.refused_left c.args.queries.now c.args.list.now c.args.answers.now c.args.rows.now c.args.room.now (leaving.gate_long c.args.queries.now c.args.answers.now c.args.room.now c.requires.1 c.requires.0 c.if-answers-many.true) c.refuse.ensures.0 c.refuse.ensures.1 c.refuse.ensures.2 c.clear.ensures; few = leaving.no_few c.refuse.ensures.1 c.refuse.ensures.2 }

pub prepare-requires : goal.prepare-requires
prepare-requires c = (c.requires.0, c.records_of-records.ensures, c.requires.1)

pub turn_all-w-requires : goal.turn_all-w-requires
turn_all-w-requires c = (c.requires.0, c.prepare.ensures, c.records_of-records.ensures, (omega arith), (omega arith))

pub returns : goal.returns
returns c = record { is = leaving.turned_left c.args.queries.now c.args.list.now c.args.answers.now c.args.rows.now c.args.room.now c.requires.1 c.requires.0 c.if-answers-many.false c.turn_all-w.ensures (c.clear-2.ensures ∙ ap (λ (n : ℕ). replicate n 0) c.prepare.auto.table); few = leaving.turned_few c.requires.0 c.turn_all-w.ensures }
