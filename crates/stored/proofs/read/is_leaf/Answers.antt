-- `stored::read::is_leaf` meets its contract.
use Prim.Native.Nat.{ℕ}
use Rattle.rules.proofs.Chains as chains
use Rattle.stored.specs.Read.{is_leaf}
use borrow.Author.Tests.{ne_eqb}
use mathlib.Core.Path.{refl, sym, ap, ◌∙◌}
use Rattle.stored.proofs.read.is_leaf.Goals as goal

pub returns-in-1 : goal.returns-in-1
returns-in-1 c = c.is_term.ensures ∙ ap (λ (t : ℕ). is_leaf t c.args.b.now) (sym c.in-1.is)

pub returns-in-2 : goal.returns-in-2
returns-in-2 c = c.is_phrase.ensures ∙ ap (λ (t : ℕ). is_leaf t c.args.b.now) (sym c.in-2.is)

pub returns-in-6 : goal.returns-in-6
returns-in-6 c = c.is_empty.ensures ∙ chains.nothing c.args.b.now refl ∙ ap (λ (t : ℕ). is_leaf t c.args.b.now) (sym c.in-6.is)

pub returns-in-7 : goal.returns-in-7
returns-in-7 c = c.is_empty-in-7.ensures ∙ chains.nothing c.args.b.now refl ∙ ap (λ (t : ℕ). is_leaf t c.args.b.now) (sym c.in-7.is)

pub returns-in_default : goal.returns-in_default
returns-in_default c = c.is_range.ensures ∙ sym (rw (ne_eqb _ 1 c.in_default.in_default-own.rest.0.0.0.1, ne_eqb _ 2 c.in_default.in_default-own.rest.0.0.1, ne_eqb _ 6 c.in_default.in_default-own.rest.0.1, ne_eqb _ 7 c.in_default.in_default-own.rest.1))
