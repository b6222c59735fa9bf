use Rattle.lists.proofs.Lister as lister
use Rattle.rules.proofs.Stored.Parts as parts
use Rattle.rules.proofs.Stored.Rows as rows
use Rattle.rules.specs.Bytes.{every}
use Rattle.rules.specs.Lists.{is_entry}
use mathlib.Core.Path.{refl, sym, ap, ◌∙◌}
use Rattle.lists.proofs.is_entries.Goals as goal

pub loop-t-init : goal.loop-t-init
loop-t-init c = refl

pub returns-in_default : goal.returns-in_default
returns-in_default c = sym (c.loop-t.invariant ∙ rows.every_bad is_entry c.loop-t.t.now (parts.more_empty c.loop-t.t.now (lister.some_left _ c.is_empty.ensures c.loop-t-test.true)) (lister.no_end _ c.in_default.ensures))

pub slice_bounds-u-count : goal.slice_bounds-u-count
slice_bounds-u-count c = lister.end_fits _ c.in-Some.ensures

pub slice_bounds-u-start : goal.slice_bounds-u-start
slice_bounds-u-start c = lister.end_fits _ c.in-Some.ensures

pub loop-t-smaller : goal.loop-t-smaller
loop-t-smaller c = rw (lister.end_rest c.loop-t.t.now c.in-Some.ensures) (parts.rest_shorter c.loop-t.t.now (lister.some_left _ c.is_empty.ensures c.loop-t-test.true))

pub loop-t-preserved : goal.loop-t-preserved
loop-t-preserved c = c.loop-t.invariant ∙ rows.every_next is_entry c.loop-t.t.now (parts.more_empty c.loop-t.t.now (lister.some_left _ c.is_empty.ensures c.loop-t-test.true)) (lister.some_end _ c.in-Some.ensures) ∙ ap (every is_entry) (sym (lister.end_rest c.loop-t.t.now c.in-Some.ensures))

pub returns : goal.returns
returns c = sym (c.loop-t.invariant ∙ rows.every_done is_entry c.loop-t.t.now (parts.less_empty c.loop-t.t.now (lister.none_left _ c.is_empty.ensures c.loop-t-test.false)))
