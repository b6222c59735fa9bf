-- `matching::truth::clause` meets its contract.
use Rattle.matching.proofs.Walks as walks
use Rattle.rules.proofs.Stored.Parts as parts
use lib.ListN.{length-set}
use mathlib.Core.Path.{ap}
use native.Mathlib.Omega.{arith}
use Rattle.matching.proofs.truth.clause.Goals as goal

pub slice_bounds-t-count : goal.slice_bounds-t-count
slice_bounds-t-count c = omega arith

pub slice_bounds-t-start : goal.slice_bounds-t-start
slice_bounds-t-start c = omega arith

pub slice_bounds-t-end : goal.slice_bounds-t-end
slice_bounds-t-end c = omega (arith, walks.open_end c.requires.0.around)

pub tag_of-requires : goal.tag_of-requires
tag_of-requires c = let w = (walks.clause_in c.requires.0).whole in rw c.from.ensures (omega (arith, parts.whole_le _ w))

pub offset_bounds-row-depth : goal.offset_bounds-row-depth
offset_bounds-row-depth c = omega arith

pub bounds-row-depth : goal.bounds-row-depth
bounds-row-depth c = omega arith

pub overflow_add-next : goal.overflow_add-next
overflow_add-next c = omega (arith, walks.open_end c.requires.0.around)

pub overflow_add-result : goal.overflow_add-result
overflow_add-result c = omega arith

pub size_of-requires : goal.size_of-requires
size_of-requires c = let w = (walks.clause_in c.requires.0).whole in rw c.from.ensures (omega (arith, parts.whole_le _ w))

pub overflow_add-result-2 : goal.overflow_add-result-2
overflow_add-result-2 c = omega (arith, walks.open_end c.requires.0.around)

pub shape_of-row : goal.shape_of-row
shape_of-row c = simp length-set

pub returns : goal.returns
returns c = λ es t. walks.clause_leads c.args.l t _ c.size_of.result (omega arith)
    (ap (walks.at_kind c.args.l) (rw c.from.ensures at c.tag_of.ensures))
    (rw c.from.ensures at c.size_of.ensures.0) es
