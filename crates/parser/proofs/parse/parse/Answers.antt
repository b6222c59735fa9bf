-- `parser::parse::parse` meets its contract.
use Prim.Native.Nat.{ℕ}
use Rattle.parser.proofs.Delivering.{parse_short, parse_whole}
use lib.ListN.{replicate}
use mathlib.Core.Path.{ap, ◌∙◌}
use Rattle.parser.proofs.parse.parse.Goals as goal

pub returns-then-room-lt-PARSE_ROOM : goal.returns-then-room-lt-PARSE_ROOM
returns-then-room-lt-PARSE_ROOM c = parse_short c.args.operator c.args.analyzer c.args.field.now c.args.fields.now c.args.text.now c.args.out.now c.args.room.now c.if-room-lt-PARSE_ROOM.true _ c.clear.ensures

pub returns : goal.returns
returns c = parse_whole c.args.operator c.args.analyzer c.args.field.now c.args.fields.now c.args.text.now c.args.out.now c.args.room.now c.if-room-lt-PARSE_ROOM.false c.parse_text-p.result _ _ c.parse_text-p.ensures (c.clear-2.ensures ∙ ap (λ (k : ℕ). replicate k 0) c.parse_text-p.auto.room)
