use Prim.Native.Nat.{◌-◌}
use Rattle.batch.proofs.Asking as asking
use Rattle.batch.proofs.Cutting as cutting
use Rattle.batch.proofs.Pushing as pushing
use Rattle.rules.specs.Bytes.{each}
use Rattle.rules.specs.Lists.{entry_of}
use lib.Pow.{pow_mono}
use mathlib.Core.Path.{refl, ◌∙◌}
use native.Mathlib.Omega.{arith}
use Rattle.batch.proofs.ask.ask.Goals as goal

pub called-any-requires : goal.called-any-requires
called-any-requires c = (c.requires.0.planned.many, c.requires.1.entries)

pub note-requires : goal.note-requires
note-requires c = (c.requires.1.before, c.requires.1.entries, c.requires.1.fits)

pub bounds-masks-513 : goal.bounds-masks-513
bounds-masks-513 c = omega arith

pub loop-i-init : goal.loop-i-init
loop-i-init c = (refl, omega arith, cutting.queue_start c.requires.0.cuts, asking.told_none)

pub first-requires : goal.first-requires
first-requires c = cutting.queue_first c.requires.0.cuts c.loop-i.invariant.2 (omega arith)

pub bit_at-requires : goal.bit_at-requires
bit_at-requires c = omega arith

pub bit_at-requires-in-loop-i : goal.bit_at-requires-in-loop-i
bit_at-requires-in-loop-i c = omega arith

pub truth-y-requires : goal.truth-y-requires
truth-y-requires c = let q = cutting.queue_query c.requires.0.cuts c.loop-i.invariant.2 (omega arith) c.first.ensures in let K = c.requires.0.planned.known c.loop-i.i (omega arith) in (rw q K.is, (λ z w. rw q (asking.uncalled (each entry_of c.args.rec.now) K z c.called-any.result (c.called-any.ensures (c.args.many - 1 - c.loop-i.i)) c.bit_at.ensures c.bit_at-in-loop-i.ensures w)), c.requires.1.entries, (λ z. c.note.ensures.0), (omega arith))

pub pushed-bits-requires : goal.pushed-bits-requires
pushed-bits-requires c = let p = pow_mono {i = c.loop-i.i} {j = 63} (omega arith) in omega (arith, c.loop-i.invariant.1)

pub others-t-requires : goal.others-t-requires
others-t-requires c = cutting.queue_first c.requires.0.cuts c.loop-i.invariant.2 (omega arith)

pub loop-i-preserved : goal.loop-i-preserved
loop-i-preserved c = let q = cutting.queue_query c.requires.0.cuts c.loop-i.invariant.2 (omega arith) c.first.ensures in (c.row-1.given ∙ c.loop-i.invariant.0, rw c.pushed-bits.ensures (pushing.bit_below c.loop-i.bits c.truth-y.result c.loop-i.i c.loop-i.invariant.1), cutting.queue_next c.requires.0.cuts c.loop-i.invariant.2 (omega arith) c.others-t.ensures, asking.told_next c.loop-i.invariant.3 _ c.truth-y.result q (rw q (c.requires.0.planned.known c.loop-i.i (omega arith)).is) c.truth-y.ensures c.pushed-bits.ensures)

pub returns : goal.returns
returns c = record { told = asking.told_all c.loop-i.invariant.3 (omega arith) (omega arith); before = c.note.ensures.1 }
