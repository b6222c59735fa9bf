-- `round::over::boost_over` meets its contract.
use Rattle.round.proofs.Finishing as finishing
use Rattle.rules.proofs.Stored.Parts as parts
use Rattle.rules.specs.Bytes.{of_big}
use lib.ListN.{take, length-drop}
use mathlib.Core.List.{List}
use mathlib.Core.Path.{sym, ap, ◌∙◌}
use native.Mathlib.Omega.{arith}
use Rattle.round.proofs.over.boost_over.Goals as goal

pub bounds-room-7 : goal.bounds-room-7
bounds-room-7 c = omega (arith, c.requires.fits, finishing.inner_long c.requires)

pub returns-in-7 : goal.returns-in-7
returns-in-7 c = λ q i. rw (finishing.boosted_none c.args.b q (sym (finishing.tag_of_lem c.args.room.now 7 c.args.n q i) ∙ c.in-7.is)) c.put_none.ensures

pub slice_bounds-big4-count : goal.slice_bounds-big4-count
slice_bounds-big4-count c = omega (arith, c.requires.fits, finishing.boost_long c.requires c.in-4.is)

pub slice_bounds-big4-start : goal.slice_bounds-big4-start
slice_bounds-big4-start c = omega (arith, c.requires.fits, finishing.boost_long c.requires c.in-4.is)

pub big4-c-requires : goal.big4-c-requires
big4-c-requires c = rw (parts.cut_from 10 c.args.room.now, length-drop) (omega (arith, c.requires.fits, finishing.boost_long c.requires c.in-4.is))

pub returns-in-4 : goal.returns-in-4
returns-in-4 c = λ q i. finishing.boost_over_boost _ q _ i c.in-4.is c.requires.fits _ (c.big4-c.ensures ∙ ap (λ (l : List _). of_big (take 4 l)) (parts.cut_from 10 c.args.room.now)) _ c.product.ensures c.shift.ensures c.put_big4.ensures

pub returns-in_default : goal.returns-in_default
returns-in_default c = λ q i. rw (finishing.boosted_plain c.args.b q (λ z. omega (arith, finishing.tag_of_lem c.args.room.now 7 c.args.n q i, z)) (λ z. omega (arith, finishing.tag_of_lem c.args.room.now 7 c.args.n q i, z)))
    (finishing.boost_laid c.args.n c.args.b q i c.requires.fits c.put_header-p.ensures c.put_big4-in_default.ensures)
