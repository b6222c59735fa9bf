-- `lists::is_held` meets its contract.
use borrow.Author.Tests.{eq-eqb, ne_eqb}
use mathlib.Core.Path.{sym, ◌∙◌}
use Rattle.lists.proofs.is_held.Goals as goal

pub returns-then-tag-eq-PLACE_TAG : goal.returns-then-tag-eq-PLACE_TAG
returns-then-tag-eq-PLACE_TAG c = c.is_word.ensures ∙ sym (rw (eq-eqb _ _ c.if-tag-eq-PLACE_TAG.true))

pub returns-else-tag-eq-PLACE_TAG : goal.returns-else-tag-eq-PLACE_TAG
returns-else-tag-eq-PLACE_TAG c = c.is_value.ensures ∙ sym (rw (ne_eqb _ _ c.if-tag-eq-PLACE_TAG.false))
