-- `show::text::put_shown` meets its contract.
use Prim.Native.Nat.{◌+◌}
use Rattle.rules.specs.Show.{shown}
use Rattle.show.proofs.Laying as laying
use Rattle.show.proofs.Texts as texts
use Rattle.show.specs.Lays.{shown_byte}
use lib.ListN.{get_or}
use lib.ListN.{drop}
use mathlib.Core.Path.{refl}
use native.Mathlib.Omega.{arith}
use Rattle.show.proofs.text.put_shown.Goals as goal

pub loop-c-init : goal.loop-c-init
loop-c-init c = (omega arith, refl, laying.going_start _ _ _)

pub loop-c-preserved : goal.loop-c-preserved
loop-c-preserved c = (omega arith, omega (arith, c.put_shown_byte-a.auto.out, c.loop-c.invariant.1), laying.going_next c.loop-c.invariant.2 (shown_byte (get_or c.args.s.now c.loop-c.c-index 0)) (shown (drop (c.loop-c.c-index + 1) c.args.s.now)) (texts.shown_next c.args.s.now c.loop-c.c-index c.loop-c-test.true) c.put_shown_byte-a.ensures)

pub shape_of-out : goal.shape_of-out
shape_of-out c = c.loop-c.invariant.1

pub returns : goal.returns
returns c = laying.going_end c.loop-c.invariant.2 (texts.shown_done c.args.s.now c.loop-c.c-index c.loop-c.invariant.0 c.loop-c-test.false)
