-- `boost::decimal::above_by_row` meets its contract. Assumes nothing.
use Rattle.boost.proofs.Scales.{above_room, above_enough, above_row}
use Rattle.boost.specs.Decimal.{number}
use Rattle.boost.specs.Row.{value}
use mathlib.Core.Logic.{inl}
use Rattle.boost.proofs.decimal.above_by_row.Goals as goal

pub tens-requires : goal.tens-requires
tens-requires c = above_room (number c.args.d.now) c.args.n (value c.number-row.result) c.number-row.ensures.is c.number-row.ensures.small c.requires.n_bound

pub pattern-requires-clause-enough_places : goal.pattern-requires-clause-enough_places
pattern-requires-clause-enough_places c = inl (above_enough (number c.args.d.now) c.args.n c.number-row.result c.tens.new.row c.used-len.result c.number-row.ensures.is c.tens.ensures c.used-len.ensures c.requires.enough_places)

pub returns : goal.returns
returns c = above_row (number c.args.d.now) c.args.n c.number-row.result c.tens.new.row c.used-len.result c.number-row.ensures.is c.tens.ensures c.used-len.ensures c.pattern.result c.pattern.ensures
