-- `stored::read::is_bound` meets its contract.
use Prim.Native.Nat.{ℕ}
use Rattle.rules.proofs.Bools as bools
use Rattle.rules.proofs.Chains as chains
use Rattle.rules.proofs.Stored.Leaves as leaves
use Rattle.rules.proofs.Stored.Parts as parts
use lib.Dec.{eqb}
use lib.ListN.{length}
use mathlib.Core.List.{List}
use mathlib.Core.Path.{sym, ap, ◌∙◌}
use native.Mathlib.Omega.{arith}
use Rattle.stored.proofs.read.is_bound.Goals as goal

pub returns-then-not-whole : goal.returns-then-not-whole
returns-then-not-whole c = sym (leaves.bound_broken c.args.s.now (bools.told_no c.whole.ensures c.if-not-whole.true-raw))

pub body-b-requires : goal.body-b-requires
body-b-requires c = bools.told_yes c.whole.ensures c.if-not-whole.false-raw

pub bounds-s-0 : goal.bounds-s-0
bounds-s-0 c = omega (arith, parts.whole_le _ (bools.told_yes c.whole.ensures c.if-not-whole.false-raw))

pub returns-in-48 : goal.returns-in-48
returns-in-48 c = c.is_empty.ensures ∙ chains.nothing c.body-b.result.now c.body-b.ensures ∙ sym (leaves.open_bound c.args.s.now (bools.told_yes c.whole.ensures c.if-not-whole.false-raw) c.in-48.is)

pub returns-in-49 : goal.returns-in-49
returns-in-49 c = ap (λ (l : List ℕ). eqb (length l) 8) c.body-b.ensures ∙ sym (leaves.included_bound c.args.s.now (bools.told_yes c.whole.ensures c.if-not-whole.false-raw) c.in-49.is)

pub returns-in-50 : goal.returns-in-50
returns-in-50 c = ap (λ (l : List ℕ). eqb (length l) 8) c.body-b.ensures ∙ sym (leaves.excluded_bound c.args.s.now (bools.told_yes c.whole.ensures c.if-not-whole.false-raw) c.in-50.is)

pub returns-in_default : goal.returns-in_default
returns-in_default c = sym (leaves.no_bound c.args.s.now c.in_default.in_default-own.rest.0.0.1 c.in_default.in_default-own.rest.0.1 c.in_default.in_default-own.rest.1)
