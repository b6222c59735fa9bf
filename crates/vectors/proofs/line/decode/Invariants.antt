-- `vectors::line::decode`: the bytes so far are decoded.
use Rattle.vectors.proofs.Reading.{Decoding}
use Rattle.vectors.proofs.line.decode.Given as goal

abbrev pub invariant-loop-i : goal.invariant-loop-i
invariant-loop-i l = Decoding l.hex l.initial.out l.i l.out
