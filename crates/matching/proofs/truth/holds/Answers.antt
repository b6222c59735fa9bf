-- `matching::truth::holds` meets its contract.
use Rattle.matching.proofs.Walks as walks
use Rattle.rules.specs.Bytes.{each}
use Rattle.rules.specs.Lists.{entry_of}
use mathlib.Core.Path.{refl, ◌∙◌}
use native.Mathlib.Omega.{arith}
use Rattle.matching.proofs.truth.holds.Goals as goal

pub loop-y-init : goal.loop-y-init
loop-y-init c = (refl, walks.standing_first (each entry_of c.args.rec.now) _ c.requires.0)

pub step-requires : goal.step-requires
step-requires c = (c.loop-y.invariant.1.place, c.requires.2, c.requires.0.short, omega (arith, c.loop-y.invariant.0, c.requires.3))

pub returns-in-Break : goal.returns-in-Break
returns-in-Break c = walks.standing_done c.step.new.row c.loop-y.invariant.1 c.step.result (c.step.ensures c.loop-y.invariant.1.place) c.in-Break.y c.in-Break.is

pub loop-y-smaller : goal.loop-y-smaller
loop-y-smaller c = let N = walks.standing_next c.step.new.row c.loop-y.invariant.1 c.step.result (c.step.ensures c.loop-y.invariant.1.place) c.in-Continue.next c.in-Continue.is in let l = N.0 in let f = N.1.place.fits in omega (arith, walks.at_end N.1.place)

pub loop-y-preserved : goal.loop-y-preserved
loop-y-preserved c = (c.step.auto.row ∙ c.loop-y.invariant.0, (walks.standing_next c.step.new.row c.loop-y.invariant.1 c.step.result (c.step.ensures c.loop-y.invariant.1.place) c.in-Continue.next c.in-Continue.is).1)
