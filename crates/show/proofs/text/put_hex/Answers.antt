-- `show::text::put_hex` meets its contract.
use Prim.Native.Nat.{◌+◌}
use Rattle.rules.specs.Show.{hex}
use Rattle.show.proofs.Laying as laying
use Rattle.show.proofs.Texts as texts
use Rattle.show.specs.Lays.{hex_byte}
use lib.ListN.{get_or}
use lib.ListN.{drop}
use mathlib.Core.Path.{refl}
use native.Mathlib.Omega.{arith}
use Rattle.show.proofs.text.put_hex.Goals as goal

pub loop-c-init : goal.loop-c-init
loop-c-init c = (omega arith, refl, laying.going_start _ _ _)

pub loop-c-preserved : goal.loop-c-preserved
loop-c-preserved c = (omega arith, omega (arith, c.put_hex_byte-a.auto.out, c.loop-c.invariant.1), laying.going_next c.loop-c.invariant.2 (hex_byte (get_or c.args.s.now c.loop-c.c-index 0)) (hex (drop (c.loop-c.c-index + 1) c.args.s.now)) (texts.hex_next c.args.s.now c.loop-c.c-index c.loop-c-test.true) c.put_hex_byte-a.ensures)

pub shape_of-out : goal.shape_of-out
shape_of-out c = c.loop-c.invariant.1

pub returns : goal.returns
returns c = laying.going_end c.loop-c.invariant.2 (texts.hex_done c.args.s.now c.loop-c.c-index c.loop-c.invariant.0 c.loop-c-test.false)
