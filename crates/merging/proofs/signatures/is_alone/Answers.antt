-- `merging::signatures::is_alone` meets its contract.
use Rattle.merging.specs.Signatures.{cell_of}
use borrow.Author.Tests.{eqb-true}
use mathlib.Core.Path.{sym, ap, ◌∙◌}
use Rattle.merging.proofs.signatures.is_alone.Goals as goal

pub returns : goal.returns
returns c = λ t. ap (cell_of c.args.table.now) (sym c.signature.ensures.0) ∙ sym c.cell.ensures ∙ eqb-true _ _ t
