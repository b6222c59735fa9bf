use Rattle.matching.proofs.Walks as walks
use Rattle.matching.specs.Truth.{Truth, outcome}
use Rattle.rules.proofs.Stored.Parts as parts
use Rattle.rules.specs.Bytes.{each}
use Rattle.rules.specs.Lists.{entry_of}
use mathlib.Core.Path.{sym, ap, ◌∙◌}
use native.Mathlib.Omega.{arith}
use Rattle.matching.proofs.truth.step.Goals as goal

pub slice_bounds-x-count : goal.slice_bounds-x-count
slice_bounds-x-count c = omega arith

pub slice_bounds-x-start : goal.slice_bounds-x-start
slice_bounds-x-start c = omega arith

pub slice_bounds-x-end : goal.slice_bounds-x-end
slice_bounds-x-end c = omega (arith, walks.at_end c.requires.0)

pub is_open-requires : goal.is_open-requires
is_open-requires c = omega (arith, parts.whole_le _ (walks.at_whole c.requires.0))

pub enter-requires : goal.enter-requires
enter-requires c = (c.requires.0, sym c.is_open.ensures ∙ c.if-is_open.true, c.requires.2, c.requires.3)

pub shape_of-row-then-is_open : goal.shape_of-row-then-is_open
shape_of-row-then-is_open c = c.enter.auto.row

pub returns-then-is_open : goal.returns-then-is_open
returns-then-is_open c = λ t. c.enter.ensures (each entry_of c.args.r.now.entries.now) t

pub tag_of-requires : goal.tag_of-requires
tag_of-requires c = omega (arith, parts.whole_le _ (walks.at_whole c.requires.0))

pub overflow_add-result : goal.overflow_add-result
overflow_add-result c = omega (arith, walks.at_end c.requires.0)

pub overflow_add-result-in-5 : goal.overflow_add-result-in-5
overflow_add-result-in-5 c = omega (arith, walks.at_end c.requires.0)

pub leaf_true-y-requires : goal.leaf_true-y-requires
leaf_true-y-requires c = (record { query = c.requires.0.query; is = c.requires.0.is }, record { boolean = sym c.is_open.ensures ∙ c.if-is_open.false; boost = λ z. c.in_default.in_default-own.rest.0.1 (c.tag_of.ensures ∙ z); constant_score = λ z. c.in_default.in_default-own.rest.1 (c.tag_of.ensures ∙ z) }, c.requires.1)

pub settle-requires : goal.settle-requires
settle-requires c = (c.requires.0.around, c.requires.1, c.requires.2, c.requires.3)

pub returns-in-4 : goal.returns-in-4
returns-in-4 c = λ t. walks.to_boosted t (sym c.tag_of.ensures ∙ c.in-4.is) (each entry_of c.args.r.now.entries.now)

pub returns-in-5 : goal.returns-in-5
returns-in-5 c = λ t. walks.to_constant t (sym c.tag_of.ensures ∙ c.in-5.is) (each entry_of c.args.r.now.entries.now)

pub shape_of-row : goal.shape_of-row
shape_of-row c = c.settle.auto.row

pub returns-in_default : goal.returns-in_default
unfolding Truth
returns-in_default c = λ t. walks.leads_on (each entry_of c.args.r.now.entries.now) _ _ c.settle.result t.fits (ap (outcome (each entry_of c.args.r.now.entries.now) t.around) (sym (c.leaf_true-y.ensures t.query t.is))) (c.settle.ensures t.around)
