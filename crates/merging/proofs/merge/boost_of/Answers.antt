-- `merging::merge::boost_of` meets its contract.
use Rattle.merging.proofs.Forms as forms
use Rattle.rules.proofs.Stored.Parts as parts
use Rattle.rules.specs.Bytes.{of_big}
use Rattle.rules.specs.Floats.{widened}
use lib.ListN.{length-drop, take}
use mathlib.Core.List.{List}
use mathlib.Core.Path.{ap, ◌∙◌}
use native.Mathlib.Omega.{arith}
use Rattle.merging.proofs.merge.boost_of.Goals as goal

pub bounds-q-0 : goal.bounds-q-0
bounds-q-0 c = omega (arith, forms.long_of c.requires.is)

pub slice_bounds-big4-count : goal.slice_bounds-big4-count
slice_bounds-big4-count c = omega (arith, (forms.is_boost_lem _ _ c.requires.is c.if-q-eq-BOOST_TAG.true).seven)

pub slice_bounds-big4-start : goal.slice_bounds-big4-start
slice_bounds-big4-start c = omega (arith, (forms.is_boost_lem _ _ c.requires.is c.if-q-eq-BOOST_TAG.true).seven)

pub big4-requires : goal.big4-requires
big4-requires c = rw (parts.cut_from 3 c.args.q.now, length-drop) (omega (arith, (forms.is_boost_lem _ _ c.requires.is c.if-q-eq-BOOST_TAG.true).seven))

pub returns-then-q-eq-BOOST_TAG : goal.returns-then-q-eq-BOOST_TAG
returns-then-q-eq-BOOST_TAG c = λ x i. ap widened c.big4.ensures ∙ ap (λ (l : List _). widened (of_big (take 4 l))) (parts.cut_from 3 c.args.q.now) ∙ (forms.is_boost_lem _ x i c.if-q-eq-BOOST_TAG.true).bits

pub returns-else-q-eq-BOOST_TAG : goal.returns-else-q-eq-BOOST_TAG
returns-else-q-eq-BOOST_TAG c = λ x i. (forms.no_boost _ x i c.if-q-eq-BOOST_TAG.false).1
