use Prim.Native.Nat.{ℕ}
use Rattle.batch.proofs.Planning as planning
use lib.Seq.{get_or-set_other}
use native.Mathlib.Omega.{arith}
use Rattle.batch.proofs.plan.push.Goals as goal

pub push_words-requires : goal.push_words-requires
push_words-requires c = c.requires

pub pushed-requires : goal.pushed-requires
pushed-requires c = rw (c.push_words.ensures.others 512 (omega arith)) (c.requires 512)

pub pushed-requires-2 : goal.pushed-requires-2
pushed-requires-2 c = rw (get_or-set_other {A = ℕ} _ 512 513 _ 0 (λ z. omega arith), c.push_words.ensures.others 513 (omega arith)) (c.requires 513)

pub returns : goal.returns
returns c = planning.push_both c.push_words.ensures c.pushed.ensures c.pushed-2.ensures
