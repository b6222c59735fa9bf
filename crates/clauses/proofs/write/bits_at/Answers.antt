-- `clauses::write::bits_at` meets its contract.
use Prim.Native.Nat.{ℕ}
use Rattle.clauses.proofs.Bodies.{bits_taken}
use Rattle.clauses.proofs.Rows.{text_is}
use Rattle.clauses.specs.Written.{bits_in}
use Rattle.rules.specs.Numerals.{numeral_bits}
use mathlib.Core.List.{List}
use mathlib.Core.Path.{sym, ap, ◌∙◌}
use Rattle.clauses.proofs.write.bits_at.Goals as goal

pub returns : goal.returns
returns c = rw (c.unwrap_or.ensures, c.numeral.ensures) (bits_taken (numeral_bits c.text_at.result.now) ∙ ap (λ (s : List ℕ). bits_in (numeral_bits s)) (c.text_at.ensures ∙ sym (text_is c.args.row.now.room.now c.args.row.now.n c.args.i c.requires)))
