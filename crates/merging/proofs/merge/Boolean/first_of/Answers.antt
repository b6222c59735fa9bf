-- `merging::merge::Boolean::first_of` meets its contract.
use Rattle.merging.proofs.Laid as laid
use Rattle.rules.specs.Floats.{one}
use lib.ListN.{length}
use mathlib.Core.Path.{refl, ap, ◌∙◌}
use native.Mathlib.Omega.{arith}
use Rattle.merging.proofs.merge.Boolean.first_of.Goals as goal

pub overflow_sub-result : goal.overflow_sub-result
overflow_sub-result c = omega (arith, ap length (c.base-h.ensures c.requires.0.query c.requires.0.is).form, ap length c.requires.0.is.form, (laid.base_end c.requires.0.query).1)

pub returns-then-summable : goal.returns-then-summable
returns-then-summable c = λ j x ej ix. laid.first_summed _ _ _ _ j x ej ix _ (c.summable.ensures j ej) c.if-summable.true _ (c.base-h.ensures x ix) _ (c.as_sum.ensures ∙ c.boost_of.ensures x ix)

pub returns-else-summable : goal.returns-else-summable
unfolding one
returns-else-summable c = λ j x ej ix. laid.first_plain _ _ _ _ j x ej ix _ (c.summable.ensures j ej) c.if-summable.false _ refl
