-- `classes::class_of` meets its contract, by the rule of the table. Assumes nothing.
use Rattle.std.proofs.Common.{◌≡◌, ℕ, List, Option, None, Some, Bor, get_or, arith}
use Rattle.std.proofs.lemmas.Grind.{common_steps}
use Rattle.std.proofs.lemmas.Option.{gets}
use Rattle.std.specs.Option.{option_copied, unwrap_or}
use Rattle.std.specs.Slice.{IsItemAt}
use Rattle.rules.proofs.Text.Classes.{class_at}
use Rattle.rules.specs.Analysis.{classes}
use Rattle.classes.specs.declared.table.TheConstants.{CLASSES}
use Rattle.classes.proofs.class_of.Goals as goal

-- what `get` lends, copied, or 0 past the end
copied_at : (s : List ℕ) (i : ℕ) (r : Option (Bor ℕ)) → IsItemAt s i r → unwrap_or (option_copied r) 0 ≡ get_or s i 0
copied_at s i None g = grind (arith, common_steps, gets)
copied_at s i (Some x) g = grind (arith, common_steps, gets)

pub returns : goal.returns
unfolding classes
returns c = rw (c.unwrap_or.ensures, c.copied.ensures, copied_at CLASSES _ _ c.get.ensures.lookup, ← c.from.ensures) (class_at c.from.result)
