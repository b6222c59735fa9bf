-- `vectors::line::decimal`: what is left makes the rest of the number.
use Rattle.std.proofs.Common.{◌≡◌, drop}
use Rattle.vectors.specs.Line.{decimal_of}
use Rattle.vectors.proofs.line.decimal.Given as goal

abbrev pub invariant-loop-c : goal.invariant-loop-c
invariant-loop-c l = decimal_of l.n (drop l.c-index l.s) ≡ decimal_of 0 l.s
