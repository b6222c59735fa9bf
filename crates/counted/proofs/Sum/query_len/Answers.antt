-- `counted::Sum::query_len` meets its contract.
use Rattle.counted.proofs.Keeping.{length_none, length_alone, length_several}
use mathlib.Core.Path.{sym, ◌∙◌}
use native.Mathlib.Omega.{arith}
use Rattle.counted.proofs.Sum.query_len.Goals as goal

pub returns-then-self-eq0 : goal.returns-then-self-eq0
returns-then-self-eq0 c = record { made = (λ cs s. length_none cs s c.if-self-eq0.true); bound = omega arith }

pub overflow_sub-result : goal.overflow_sub-result
overflow_sub-result c = omega (arith, c.requires.1, c.if-self-eq0.false)

pub returns-then-is_alone : goal.returns-then-is_alone
returns-then-is_alone c = record { made = (λ cs s. length_alone cs s (sym (c.is_alone.ensures cs _ s) ∙ c.if-is_alone.true)); bound = omega arith }

pub overflow_add-result : goal.overflow_add-result
overflow_add-result c = omega (arith, c.requires.0)

pub returns : goal.returns
returns c = record { made = (λ cs s. length_several cs s c.if-self-eq0.false (sym (c.is_alone.ensures cs _ s) ∙ c.if-is_alone.false)); bound = omega arith }
