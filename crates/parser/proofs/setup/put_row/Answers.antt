-- `parser::setup::put_row` meets its contract.
use Rattle.parser.proofs.Entries.{testing_starts, testing_turn, testing_stops, testing_ends}
use mathlib.Core.Path.{refl}
use Rattle.parser.proofs.setup.put_row.Goals as goal

pub loop-i-init : goal.loop-i-init
loop-i-init c = testing_starts _ _ c.requires.0

pub returns-then-c-gt-ASCII_MOST : goal.returns-then-c-gt-ASCII_MOST
returns-then-c-gt-ASCII_MOST c = testing_stops c.loop-i.invariant c.loop-i-test.true c.if-c-gt-ASCII_MOST.true

pub loop-i-preserved : goal.loop-i-preserved
loop-i-preserved c = testing_turn c.loop-i.invariant _ c.requires.1 c.loop-i-test.true refl c.if-c-gt-ASCII_MOST.false

pub returns : goal.returns
returns c = testing_ends c.loop-i.invariant c.loop-i.auto.i-end c.loop-i-test.false
