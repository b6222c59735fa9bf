-- `matching::phrase::follow` meets its contract.
use Prim.Native.Nat.{ℕ}
use Rattle.entries.proofs.Searches as searches
use Rattle.matching.proofs.Leaves as leaves
use Rattle.rules.proofs.Bools as bools
use Rattle.rules.proofs.Stored.Parts as parts
use Rattle.rules.specs.Bytes.{of_big, each}
use Rattle.rules.specs.Lists.{entry_of}
use lib.ListN.{drop, take}
use mathlib.Core.List.{List}
use mathlib.Core.Path.{ap, ◌∙◌}
use native.Mathlib.Omega.{arith}
use Rattle.matching.proofs.phrase.follow.Goals as goal

pub loop-s-init : goal.loop-s-init
loop-s-init c = searches.left_all c.args.ws.now.sound

pub body-w-requires : goal.body-w-requires
body-w-requires c = leaves.word_whole _ (searches.left_first c.loop-s.invariant c.loop-s-test.true)

pub big4-requires : goal.big4-requires
big4-requires c = rw c.body-w.ensures (leaves.word_long _ (searches.left_first c.loop-s.invariant c.loop-s-test.true))

pub slice_bounds-has_at-count : goal.slice_bounds-has_at-count
slice_bounds-has_at-count c = rw c.body-w.ensures (leaves.word_long _ (searches.left_first c.loop-s.invariant c.loop-s-test.true))

pub slice_bounds-has_at-start : goal.slice_bounds-has_at-start
slice_bounds-has_at-start c = rw c.body-w.ensures (leaves.word_long _ (searches.left_first c.loop-s.invariant c.loop-s-test.true))

pub overflow_add-o : goal.overflow_add-o
overflow_add-o c = omega arith

pub returns-then-not-has_at : goal.returns-then-not-has_at
returns-then-not-has_at c = searches.left_stop c.loop-s.invariant c.loop-s-test.true (bools.told_no (leaves.follows_at (each entry_of c.args.r.now.entries.now) c.args.f.now c.args.p c.args.x c.loop-s.s.now (c.from-o.ensures ∙ c.big4.ensures ∙ ap (λ (l : List ℕ). of_big (take 4 l)) c.body-w.ensures) (parts.cut_from 4 c.body-w.result.now ∙ ap (drop 4) c.body-w.ensures) c.has_at.ensures) c.if-not-has_at.true-raw)

pub rest-s-requires : goal.rest-s-requires
rest-s-requires c = leaves.word_whole _ (searches.left_first c.loop-s.invariant c.loop-s-test.true)

pub loop-s-smaller : goal.loop-s-smaller
loop-s-smaller c = rw c.rest-s.ensures (parts.rest_shorter _ c.loop-s-test.true)

pub loop-s-preserved : goal.loop-s-preserved
loop-s-preserved c = searches.left_next c.loop-s.invariant c.loop-s-test.true (bools.told_yes (leaves.follows_at (each entry_of c.args.r.now.entries.now) c.args.f.now c.args.p c.args.x c.loop-s.s.now (c.from-o.ensures ∙ c.big4.ensures ∙ ap (λ (l : List ℕ). of_big (take 4 l)) c.body-w.ensures) (parts.cut_from 4 c.body-w.result.now ∙ ap (drop 4) c.body-w.ensures) c.has_at.ensures) c.if-not-has_at.false-raw) c.rest-s.ensures

pub returns : goal.returns
returns c = searches.left_none c.loop-s.invariant c.loop-s-test.false
