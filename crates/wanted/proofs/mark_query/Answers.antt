-- `wanted::mark_query` meets its contract.
use Rattle.rules.proofs.Stored.Parts as parts
use Rattle.wanted.proofs.Marking as marking
use mathlib.Core.Path.{refl, sym, ◌∙◌}
use Rattle.wanted.proofs.mark_query.Goals as goal

pub loop-t-init : goal.loop-t-init
loop-t-init c = marking.going_start c.requires

pub look-ranges-requires : goal.look-ranges-requires
look-ranges-requires c = c.loop-t.invariant.many

pub loop-t-preserved : goal.loop-t-preserved
loop-t-preserved c = marking.going_next c.loop-t.invariant c.look-ranges.ensures refl
    (parts.cut_from 1 c.loop-t.t.now)

pub shape_of-wanted : goal.shape_of-wanted
shape_of-wanted c = c.loop-t.invariant.many ∙ sym c.requires

pub returns : goal.returns
returns c = marking.going_end c.loop-t.invariant c.loop-t-test.false
