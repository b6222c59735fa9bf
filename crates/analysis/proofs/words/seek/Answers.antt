-- `words::seek` meets its contract. The loop's invariant: what was passed has no letter and no digit, and what is behind `start` holds. Assumes nothing.
use Rattle.analysis.proofs.Seeking.{seeking_starts, seeking_holds, seeking_breaks, seeking_finds, seeking_ends}
use native.Mathlib.Omega.{arith}
use Rattle.analysis.proofs.words.seek.Goals as goal
use Rattle.analysis.proofs.words.seek.Goals.{then-class-lt-UNDERSCORE_CLASS, else-class-lt-UNDERSCORE_CLASS}

pub loop-i-init : goal.loop-i-init
loop-i-init c = seeking_starts _ _ (omega (arith, c.requires.0))

pub returns-then-class-ge-DIGIT_CLASS : goal.returns-then-class-ge-DIGIT_CLASS
returns-then-class-ge-DIGIT_CLASS c = seeking_finds _ c.loop-i.invariant c.loop-i-test.true c.class_of-class.ensures c.requires.1 c.if-class-ge-DIGIT_CLASS.true

pub loop-i-preserved : goal.loop-i-preserved
loop-i-preserved c =
    elim c.if-class-lt-UNDERSCORE_CLASS.branch [
      | then-class-lt-UNDERSCORE_CLASS w ↦
          rw w.start-is (seeking_breaks _ c.loop-i.invariant c.loop-i-test.true c.class_of-class.ensures w.if-class-lt-UNDERSCORE_CLASS.true)
      | else-class-lt-UNDERSCORE_CLASS w ↦
          rw w.start-is (seeking_holds _ c.loop-i.invariant c.loop-i-test.true c.class_of-class.ensures c.if-class-ge-DIGIT_CLASS.false w.if-class-lt-UNDERSCORE_CLASS.false)
    ]

pub returns : goal.returns
returns c = seeking_ends _ c.loop-i.invariant c.requires.1 c.loop-i-test.false
