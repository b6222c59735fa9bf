-- `stored::read::is_words` meets its contract.
use Rattle.rules.specs.Bytes.{every}
use Rattle.rules.specs.Reading.{is_word}
use lib.ListN.{length}
use mathlib.Core.Path.{◌≡◌}
use Rattle.stored.proofs.read.is_words.Given as goal

abbrev pub invariant-loop-t : goal.invariant-loop-t
invariant-loop-t l = every is_word l.s ≡ every is_word l.t

abbrev pub decreases-loop-t : goal.decreases-loop-t
decreases-loop-t l = length l.t
