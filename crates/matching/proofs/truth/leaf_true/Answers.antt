-- `matching::truth::leaf_true` meets its contract.
use Rattle.matching.proofs.Leaves as leaves
use Rattle.rules.proofs.Stored.Parts as parts
use Rattle.rules.specs.Bytes.{each}
use Rattle.rules.specs.Lists.{entry_of}
use mathlib.Core.Path.{sym, ◌∙◌}
use native.Mathlib.Omega.{arith}
use Rattle.matching.proofs.truth.leaf_true.Goals as goal

pub tag_of-requires : goal.tag_of-requires
tag_of-requires c = omega (arith, parts.whole_le _ (leaves.stored_whole c.requires.0))

pub term_true-requires : goal.term_true-requires
term_true-requires c = (record { stored = c.requires.0; tag = sym c.tag_of.ensures ∙ c.in-1.is }, c.requires.2)

pub phrase_true-requires : goal.phrase_true-requires
phrase_true-requires c = (record { stored = c.requires.0; tag = sym c.tag_of.ensures ∙ c.in-2.is }, c.requires.2)

pub range_true-requires : goal.range_true-requires
range_true-requires c = record { stored = c.requires.0; tag = sym c.tag_of.ensures ∙ c.in-8.is }

pub range_true-requires-in-9 : goal.range_true-requires-in-9
range_true-requires-in-9 c = record { stored = c.requires.0; tag = sym c.tag_of.ensures ∙ c.in-9.is }

pub returns-in-1 : goal.returns-in-1
returns-in-1 c = c.term_true.ensures

pub returns-in-2 : goal.returns-in-2
returns-in-2 c = c.phrase_true.ensures

pub returns-in-6 : goal.returns-in-6
returns-in-6 c = leaves.all_says c.args.q.now (each entry_of c.args.r.now.entries.now) (sym c.tag_of.ensures ∙ c.in-6.is)

pub returns-in-8 : goal.returns-in-8
returns-in-8 c = c.range_true.ensures

pub returns-in-9 : goal.returns-in-9
returns-in-9 c = c.range_true-in-9.ensures

pub returns-in_default : goal.returns-in_default
returns-in_default c = leaves.none_says c.args.q.now (each entry_of c.args.r.now.entries.now) c.requires.1 (λ z. c.in_default.in_default-own.rest.0.0.0.0.1 (c.tag_of.ensures ∙ z)) (λ z. c.in_default.in_default-own.rest.0.0.0.1 (c.tag_of.ensures ∙ z)) (λ z. c.in_default.in_default-own.rest.0.0.1 (c.tag_of.ensures ∙ z)) (λ z. c.in_default.in_default-own.rest.0.1 (c.tag_of.ensures ∙ z)) (λ z. c.in_default.in_default-own.rest.1 (c.tag_of.ensures ∙ z))
