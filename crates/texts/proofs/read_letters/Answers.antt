-- `texts::read_letters` meets its contract. Assumes nothing.
use Rattle.texts.proofs.Flags.{text_byte}
use Rattle.texts.proofs.Unescaped.{lettered_none, lettered_more}
use native.Mathlib.Omega.{arith}
use Rattle.texts.proofs.read_letters.Goals as goal

pub loop-i-init : goal.loop-i-init
loop-i-init c = lettered_none c.args.term.now c.args.out.now

pub is_letter-requires : goal.is_letter-requires
is_letter-requires c = text_byte c.args.term.now c.loop-i.i c.requires.1

pub loop-i-preserved : goal.loop-i-preserved
loop-i-preserved c = lettered_more c.loop-i.invariant (omega arith) (omega arith) (cc)
