use Prim.Native.Nat.{ℕ}
use Rattle.matching.proofs.Walks as walks
use Rattle.matching.specs.Truth.{cut}
use Rattle.rules.proofs.Stored.Parts as parts
use Rattle.rules.specs.Bytes.{of_big}
use lib.ListN.{length, take}
use mathlib.Core.List.{List, []}
use mathlib.Core.Path.{ap, ◌∙◌}
use native.Mathlib.Omega.{arith}
use Rattle.matching.proofs.truth.enter.Goals as goal

pub slice_bounds-x-count : goal.slice_bounds-x-count
slice_bounds-x-count c = omega arith

pub slice_bounds-x-start : goal.slice_bounds-x-start
slice_bounds-x-start c = omega arith

pub slice_bounds-x-end : goal.slice_bounds-x-end
slice_bounds-x-end c = omega (arith, walks.at_end c.requires.0)

pub slice_bounds-big2-count : goal.slice_bounds-big2-count
slice_bounds-big2-count c = omega (arith, walks.open_long c.requires.0 c.requires.1, walks.at_length c.requires.0)

pub slice_bounds-big2-start : goal.slice_bounds-big2-start
slice_bounds-big2-start c = omega (arith, walks.open_long c.requires.0 c.requires.1, walks.at_length c.requires.0)

pub big2-asked-requires : goal.big2-asked-requires
big2-asked-requires c = omega (arith, walks.open_long c.requires.0 c.requires.1, walks.at_length c.requires.0, ap length (parts.cut_from 6 (cut c.args.q.now c.args.p.at c.args.p.end)), lib.ListN.length-drop 6 (cut c.args.q.now c.args.p.at c.args.p.end))

pub overflow_add-p : goal.overflow_add-p
overflow_add-p c = omega (arith, walks.at_end c.requires.0, walks.open_long c.requires.0 c.requires.1)

pub clause-requires : goal.clause-requires
clause-requires c = ((walks.to_clause c.requires.0 c.requires.1 [] c.big2-asked.result (c.big2-asked.ensures.0 ∙ ap (λ (l : List ℕ). of_big (take 2 l)) (parts.cut_from 6 (cut c.args.q.now c.args.p.at c.args.p.end)))).place, c.requires.2, c.requires.3)

pub shape_of-row : goal.shape_of-row
shape_of-row c = c.clause.auto.row

pub returns : goal.returns
returns c = λ es t. let N = walks.to_clause t c.requires.1 es c.big2-asked.result (c.big2-asked.ensures.0 ∙ ap (λ (l : List ℕ). of_big (take 2 l)) (parts.cut_from 6 (cut c.args.q.now c.args.p.at c.args.p.end))) in walks.leads_on es _ _ c.clause.result (omega arith) N.value (c.clause.ensures es N.place)
