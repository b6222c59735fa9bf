-- `boost::decimal::below_by_row` meets its contract. Assumes nothing.
use Prim.Native.Nat.{◌-◌, ◌*◌, ◌%◌, ◌^◌}
use Rattle.boost.proofs.Rooms.{bits_factor, placed, placed_room}
use Rattle.boost.proofs.Scales.{below_row}
use Rattle.boost.proofs.Tops.{shifted_one}
use Rattle.boost.specs.Decimal.{number}
use Rattle.boost.specs.Row.{value}
use mathlib.Core.Path.{◌∙◌}
use native.Mathlib.Omega.{arith}
use Rattle.boost.proofs.decimal.below_by_row.Goals as goal

pub scale-requires-clause-factor : goal.scale-requires-clause-factor
scale-requires-clause-factor c = bits_factor (150 - c.args.n) (1 * 2 ^ ((150 - c.args.n) % 16) % 2 ^ 64) (shifted_one ((150 - c.args.n) % 16) (omega arith))

pub scale-requires-clause-fits : goal.scale-requires-clause-fits
scale-requires-clause-fits c = placed_room (value c.number-row.result) (number c.args.d.now) (150 - c.args.n) (1 * 2 ^ ((150 - c.args.n) % 16) % 2 ^ 64) c.number-row.ensures.is (shifted_one ((150 - c.args.n) % 16) (omega arith)) c.number-row.ensures.small (omega arith)

pub returns : goal.returns
returns c = below_row (number c.args.d.now) c.args.n c.scale.new.row c.fives-q.new.row c.fives-q.result.len c.fives-q.result.left c.pattern.result c.requires
    (c.scale.ensures.is ∙ placed (value c.number-row.result) (number c.args.d.now) (150 - c.args.n) (1 * 2 ^ ((150 - c.args.n) % 16) % 2 ^ 64) c.number-row.ensures.is (shifted_one ((150 - c.args.n) % 16) (omega arith))) c.fives-q.ensures c.pattern.ensures
