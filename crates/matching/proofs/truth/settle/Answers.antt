-- `matching::truth::settle` meets its contract.
use Prim.Native.Nat.{◌-◌}
use Rattle.matching.proofs.Walks as walks
use Rattle.matching.specs.Level.{no_level}
use Rattle.rules.specs.Bytes.{each}
use Rattle.rules.specs.Lists.{entry_of}
use lib.ListN.{get_or}
use mathlib.Core.Path.{refl, sym, ◌∙◌}
use native.Mathlib.Omega.{arith}
use Rattle.matching.proofs.truth.settle.Goals as goal

pub loop-d-init : goal.loop-d-init
loop-d-init c = (refl, λ o. walks.back_start _ o _)

pub offset_bounds-row-d : goal.offset_bounds-row-d
offset_bounds-row-d c = omega (arith, walks.open_few (c.loop-d.invariant.1 c.requires.0).around)

pub slice_copy_out-l : goal.slice_copy_out-l
slice_copy_out-l c = omega (arith, c.loop-d.invariant.0, c.requires.3, walks.open_few (c.loop-d.invariant.1 c.requires.0).around)

pub past_idle-p-requires : goal.past_idle-p-requires
past_idle-p-requires c =
    let C = walks.back_clauses (c.loop-d.invariant.1 c.requires.0) (c.loop-d.d - 1) (get_or c.loop-d.row (c.loop-d.d - 1) no_level) (omega arith) refl in
    rw c.from-end.ensures (C.0, C.1, C.2, c.requires.1)

pub clause-requires : goal.clause-requires
clause-requires c = (
  (walks.back_clause (c.loop-d.invariant.1 c.requires.0) (c.loop-d.d - 1) (get_or c.loop-d.row (c.loop-d.d - 1) no_level) (omega arith) refl
      c.answered-m.ensures c.is_over-over.ensures (rw c.from-end.ensures at c.past_idle-p.ensures) (sym c.allows.ensures ∙ c.if-allows.true) (omega arith)).place,
  c.requires.2,
  omega (arith, c.loop-d.invariant.0, c.requires.3),
)

pub returns-then-p-end : goal.returns-then-p-end
returns-then-p-end c = λ o.
    let N = walks.back_clause (c.loop-d.invariant.1 o) (c.loop-d.d - 1) (get_or c.loop-d.row (c.loop-d.d - 1) no_level) (omega arith) refl
    c.answered-m.ensures c.is_over-over.ensures (rw c.from-end.ensures at c.past_idle-p.ensures) (sym c.allows.ensures ∙ c.if-allows.true) (omega arith) in
    walks.leads_on (each entry_of c.args.r.now.entries.now) _ _ c.clause.result (let a = (c.loop-d.invariant.1 o).later in omega arith) N.value
    (c.clause.ensures (each entry_of c.args.r.now.entries.now) N.place)

pub loop-d-preserved-then-allows : goal.loop-d-preserved-then-allows
loop-d-preserved-then-allows c = (
  c.loop-d.invariant.0,
  λ o. rw c.from-end.ensures (walks.back_over (c.loop-d.invariant.1 o) (c.loop-d.d - 1) (get_or c.loop-d.row (c.loop-d.d - 1) no_level) (omega arith) refl
      c.answered-m.ensures c.is_over-over.ensures (rw c.from-end.ensures at c.past_idle-p.ensures) (sym c.allows.ensures ∙ c.if-allows.true) (omega arith)),
)

pub loop-d-preserved : goal.loop-d-preserved
loop-d-preserved c = (
  c.loop-d.invariant.0,
  λ o. rw c.from-end.ensures (walks.back_denied (c.loop-d.invariant.1 o) (c.loop-d.d - 1) (get_or c.loop-d.row (c.loop-d.d - 1) no_level) (omega arith) refl
      (sym c.allows.ensures ∙ c.if-allows.false)),
)

pub returns : goal.returns
returns c = λ o. walks.back_end (c.loop-d.invariant.1 o) (omega arith)
