-- `lex` meets its contract. The loop's invariant: the tokens in the row, before those of what is still to be read, are the definition's answer. The measure is what is left of the text. Assumes nothing.
use Prim.Native.Nat.{◌-◌}
use Rattle.lexer.proofs.Turns.{Lexing}
use lib.ListN.{length}
use Rattle.lexer.proofs.lex.Given as goal

abbrev pub invariant-loop-spaces : goal.invariant-loop-spaces
invariant-loop-spaces l = Lexing l.text l.initial.room l.room l.i l.n

abbrev pub decreases-loop-spaces : goal.decreases-loop-spaces
decreases-loop-spaces l = length l.text - l.i
