-- `parser::setup::read_entries` meets its contract.
use Prim.Native.Nat.{◌-◌, ◌<◌}
use Rattle.parser.proofs.Entries.{two_first, entering_starts, entering_cut, entering_short, entering_many, entering_broken, entering_on, entering_ends, head_broken, name_broken, entry_good, head_short}
use Rattle.std.specs.List.{IsSplitAt}
use borrow.Author.Tests.{eqb-true, eqb-false}
use lib.ListN.{length, take, drop, get_or}
use mathlib.Core.Path.{sym, ◌∙◌}
use native.Mathlib.Omega.{arith}
use Rattle.parser.proofs.setup.read_entries.Goals as goal
use Rattle.parser.proofs.setup.read_entries.Goals.{then-count-eq-ENTRIES_MOST-via-then-count-eq-ENTRIES_MOST, then-count-eq-ENTRIES_MOST-via-else-count-eq-ENTRIES_MOST+then-not-is_head, then-count-eq-ENTRIES_MOST-via-else-count-eq-ENTRIES_MOST+else-not-is_head+then-not-put_row}

pub loop-rest-init : goal.loop-rest-init
loop-rest-init c = entering_starts _ _ _ _ c.requires

pub returns-in_err-name : goal.returns-in_err-name
returns-in_err-name c = let g : length (take (length c.loop-rest.rest.now - 2) (drop 2 c.loop-rest.rest.now)) < c.from.result = c.in_err-name.ensures.cases in
    rw c.from_residual.ensures (entering_short c.loop-rest.invariant _ _ _ (two_first c.loop-rest.rest.now c.in-len2-up.len_at_least) (rw c.from.ensures at g))

pub returns-then-count-eq-ENTRIES_MOST : goal.returns-then-count-eq-ENTRIES_MOST
returns-then-count-eq-ENTRIES_MOST c = let g' : IsSplitAt (take (length c.loop-rest.rest.now - 2) (drop 2 c.loop-rest.rest.now)) c.from.result c.in_ok-name.name.now c.in_ok-name.after.now = c.in_ok-name.ensures.cases in
    let g = rw c.from.ensures at g' in
    let t = two_first c.loop-rest.rest.now c.in-len2-up.len_at_least in
    elim c.then-count-eq-ENTRIES_MOST.branch [
      | then-count-eq-ENTRIES_MOST-via-then-count-eq-ENTRIES_MOST w ↦ entering_many c.loop-rest.invariant _ _ _ t g.0 w.if-count-eq-ENTRIES_MOST.true
      | then-count-eq-ENTRIES_MOST-via-else-count-eq-ENTRIES_MOST+then-not-is_head w ↦ entering_broken c.loop-rest.invariant _ _ _ t g.0 _ g.1 (head_broken (get_or c.loop-rest.rest.now 0 0) (get_or c.loop-rest.rest.now 1 0) _ g.3 (sym w.is_head.ensures ∙ w.if-not-is_head.true))
      | then-count-eq-ENTRIES_MOST-via-else-count-eq-ENTRIES_MOST+else-not-is_head+then-not-put_row w ↦ entering_broken c.loop-rest.invariant _ _ _ t g.0 _ g.1 (name_broken (get_or c.loop-rest.rest.now 0 0) (get_or c.loop-rest.rest.now 1 0) _ g.3 (sym w.put_row.ensures.told ∙ w.if-not-put_row.true))
    ]

pub loop-rest-preserved : goal.loop-rest-preserved
loop-rest-preserved c = let g' : IsSplitAt (take (length c.loop-rest.rest.now - 2) (drop 2 c.loop-rest.rest.now)) c.from.result c.in_ok-name.name.now c.in_ok-name.after.now = c.in_ok-name.ensures.cases in
    let g = rw c.from.ensures at g' in
    let t = two_first c.loop-rest.rest.now c.in-len2-up.len_at_least in
    let H = sym c.is_head.ensures ∙ c.if-not-is_head.false in
    let P = c.put_row.ensures in
    entering_on c.loop-rest.invariant _ _ _ t g.0 _ _ g.1 g.2 c.if-count-eq-ENTRIES_MOST.false (entry_good (get_or c.loop-rest.rest.now 0 0) (get_or c.loop-rest.rest.now 1 0) _ g.3 H (sym P.told ∙ c.if-not-put_row.false)) (head_short (get_or c.loop-rest.rest.now 0 0) (get_or c.loop-rest.rest.now 1 0) H) _ P.full (P.held c.if-not-put_row.false)

pub returns-then-not-is_empty : goal.returns-then-not-is_empty
returns-then-not-is_empty c = entering_cut c.loop-rest.invariant (let n = eqb-false _ 0 (sym c.is_empty.ensures ∙ c.if-not-is_empty.true) in omega arith) (omega arith)

pub returns : goal.returns
returns c = entering_ends c.loop-rest.invariant (eqb-true _ 0 (sym c.is_empty.ensures ∙ c.if-not-is_empty.false))
