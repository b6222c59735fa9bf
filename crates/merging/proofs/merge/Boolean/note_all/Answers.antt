-- `merging::merge::Boolean::note_all` meets its contract.
use Rattle.merging.proofs.Alike as alike
use Rattle.merging.proofs.Forms as forms
use Rattle.rules.proofs.Stored.Parts as parts
use lib.ListN.{length}
use mathlib.Core.Path.{ap}
use native.Mathlib.Omega.{arith}
use Rattle.merging.proofs.merge.Boolean.note_all.Goals as goal

pub loop-t-init : goal.loop-t-init
loop-t-init c = alike.noting_start _ c.requires (omega arith)

pub body-requires : goal.body-requires
body-requires c = (alike.noting_front c.loop-t.invariant (forms.some_left _ _ c.is_empty.ensures c.loop-t-test.true)).whole

pub held-requires : goal.held-requires
held-requires c = record { query = (alike.noting_front c.loop-t.invariant (forms.some_left _ _ c.is_empty.ensures c.loop-t-test.true)).query; is = rw c.body.ensures (forms.front_is (alike.noting_front c.loop-t.invariant (forms.some_left _ _ c.is_empty.ensures c.loop-t-test.true))) }

pub rest-t-requires : goal.rest-t-requires
rest-t-requires c = (alike.noting_front c.loop-t.invariant (forms.some_left _ _ c.is_empty.ensures c.loop-t-test.true)).whole

pub loop-t-smaller : goal.loop-t-smaller
loop-t-smaller c = let l = ap length c.rest-t.ensures in omega (arith, parts.rest_shorter c.loop-t.t.now (forms.some_left _ _ c.is_empty.ensures c.loop-t-test.true))

pub loop-t-preserved : goal.loop-t-preserved
loop-t-preserved c = alike.noting_next c.loop-t.invariant (forms.some_left _ _ c.is_empty.ensures c.loop-t-test.true) _ (rw c.body.ensures at c.held.ensures) _ c.signature.ensures.0 _ c.rest-t.ensures c.note.ensures

pub returns : goal.returns
returns c = alike.noting_end c.loop-t.invariant (forms.none_left _ _ c.is_empty.ensures c.loop-t-test.false)
