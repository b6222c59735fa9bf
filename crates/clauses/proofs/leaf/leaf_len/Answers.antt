-- `clauses::leaf::leaf_len` meets its contract.
use Rattle.clauses.proofs.Tallying.{one_some, leaf_length_one}
use native.Mathlib.Omega.{arith}
use Rattle.clauses.proofs.leaf.leaf_len.Goals as goal

pub returns-then-one : goal.returns-then-one
returns-then-one c = let one = c.requires.2 c.if-one.true in record { made = (λ o f e. rw (← e) (leaf_length_one _ _ one c.args.plain o f)); bound = omega (arith, c.requires.0, one_some _ _ one) }
