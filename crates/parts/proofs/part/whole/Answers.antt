-- `parts::part::whole` meets its contract.
use Rattle.rules.proofs.Stored.Parts as parts
use Rattle.rules.specs.Bytes.{whole_of}
use borrow.Author.Tests.{lt-leb}
use mathlib.Core.Path.{sym, ◌∙◌}
use native.Mathlib.Omega.{arith}
use Rattle.parts.proofs.part.whole.Goals as goal

pub returns-then-s-ge-HEADER : goal.returns-then-s-ge-HEADER
unfolding whole_of
returns-then-s-ge-HEADER c = rw c.size_of.ensures.0

pub returns-else-s-ge-HEADER : goal.returns-else-s-ge-HEADER
returns-else-s-ge-HEADER c = lt-leb _ _ c.if-s-ge-HEADER.false ∙ sym (parts.short_whole _ (omega arith))
