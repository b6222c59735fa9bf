-- `merging::merge::base` meets its contract.
use Rattle.merging.proofs.Forms as forms
use Rattle.rules.proofs.Stored.Parts as parts
use native.Mathlib.Omega.{arith}
use Rattle.merging.proofs.merge.base.Goals as goal

pub bounds-q-0 : goal.bounds-q-0
bounds-q-0 c = omega (arith, forms.long_of c.requires.is)

pub slice_bounds-result-count : goal.slice_bounds-result-count
slice_bounds-result-count c = omega (arith, (forms.is_boost_lem _ _ c.requires.is c.if-q-eq-BOOST_TAG.true).seven)

pub slice_bounds-result-start : goal.slice_bounds-result-start
slice_bounds-result-start c = omega (arith, (forms.is_boost_lem _ _ c.requires.is c.if-q-eq-BOOST_TAG.true).seven)

pub returns-then-q-eq-BOOST_TAG : goal.returns-then-q-eq-BOOST_TAG
returns-then-q-eq-BOOST_TAG c = λ x i. rw (parts.cut_from 7 c.args.q.now) (forms.is_boost_lem _ x i c.if-q-eq-BOOST_TAG.true).inner

pub returns-else-q-eq-BOOST_TAG : goal.returns-else-q-eq-BOOST_TAG
returns-else-q-eq-BOOST_TAG c = λ x i. (forms.no_boost _ x i c.if-q-eq-BOOST_TAG.false).0
