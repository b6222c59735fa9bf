-- `matching::phrase::any_missing` meets its contract.
use Rattle.matching.proofs.Leaves as leaves
use Rattle.matching.proofs.Words as words
use Rattle.rules.proofs.Bools as bools
use Rattle.rules.proofs.Stored.Parts as parts
use Rattle.rules.specs.Bytes.{each}
use Rattle.rules.specs.Lists.{entry_of}
use lib.ListN.{drop}
use mathlib.Core.Path.{refl, ap, ◌∙◌}
use Rattle.matching.proofs.phrase.any_missing.Goals as goal

pub loop-s-init : goal.loop-s-init
loop-s-init c = words.rest_all (each entry_of c.args.r.now.entries.now) c.args.f.now c.args.ws.now.sound

pub body-w-requires : goal.body-w-requires
body-w-requires c = leaves.word_whole _ (words.rest_first _ _ c.loop-s.invariant c.loop-s-test.true)

pub slice_bounds-is_missing-count : goal.slice_bounds-is_missing-count
slice_bounds-is_missing-count c = rw c.body-w.ensures (leaves.word_long _ (words.rest_first _ _ c.loop-s.invariant c.loop-s-test.true))

pub slice_bounds-is_missing-start : goal.slice_bounds-is_missing-start
slice_bounds-is_missing-start c = rw c.body-w.ensures (leaves.word_long _ (words.rest_first _ _ c.loop-s.invariant c.loop-s-test.true))

pub is_missing-requires : goal.is_missing-requires
is_missing-requires c = c.requires

pub returns-then-is_missing : goal.returns-then-is_missing
returns-then-is_missing c = λ z. words.rest_stop _ _ c.loop-s.invariant c.loop-s-test.true (parts.cut_from 4 c.body-w.result.now ∙ ap (drop 4) c.body-w.ensures) (c.is_missing.ensures c.if-is_missing.true)

pub rest-s-requires : goal.rest-s-requires
rest-s-requires c = leaves.word_whole _ (words.rest_first _ _ c.loop-s.invariant c.loop-s-test.true)

pub loop-s-smaller : goal.loop-s-smaller
loop-s-smaller c = rw c.rest-s.ensures (parts.rest_shorter _ c.loop-s-test.true)

pub loop-s-preserved : goal.loop-s-preserved
loop-s-preserved c = words.rest_next _ _ c.loop-s.invariant c.loop-s-test.true c.rest-s.ensures

pub returns : goal.returns
returns c = λ z. bools.clash z refl
