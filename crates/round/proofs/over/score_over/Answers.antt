-- `round::over::score_over` meets its contract.
use Rattle.places.proofs.Standing as standing
use Rattle.round.proofs.Finishing as finishing
use mathlib.Core.Path.{sym, ◌∙◌}
use native.Mathlib.Omega.{arith}
use Rattle.round.proofs.over.score_over.Goals as goal

pub bounds-room-3 : goal.bounds-room-3
bounds-room-3 c = omega (arith, c.requires.fits, finishing.inner_long c.requires)

pub returns-in-7 : goal.returns-in-7
returns-in-7 c = λ q i. rw (finishing.scored_none q (sym (finishing.tag_of_lem c.args.room.now 3 c.args.n q i) ∙ c.in-7.is)) c.put_none.ensures

pub returns-in-5 : goal.returns-in-5
returns-in-5 c = λ q i. rw (finishing.scored_score q (sym (finishing.tag_of_lem c.args.room.now 3 c.args.n q i) ∙ c.in-5.is)) (finishing.moved 3 c.args.n c.shift.ensures (sym i.form) c.requires.fits (omega (arith, c.requires.fits)))

pub overflow_sub-n : goal.overflow_sub-n
overflow_sub-n c = omega (arith, finishing.boost_long c.requires c.in-4.is)

pub shift-requires-in-4 : goal.shift-requires-in-4
shift-requires-in-4 c = let l = finishing.boost_long c.requires c.in-4.is in (omega arith, omega arith)

pub overflow_sub-n-in-4 : goal.overflow_sub-n-in-4
overflow_sub-n-in-4 c = omega (arith, finishing.boost_long c.requires c.in-4.is)

pub overflow_sub-result : goal.overflow_sub-result
overflow_sub-result c = omega (arith, finishing.boost_long c.requires c.in-4.is)

pub returns-in-4 : goal.returns-in-4
returns-in-4 c = λ q i. finishing.score_over_boost _ q i c.in-4.is c.requires.fits c.shift-in-4.ensures c.put_header.ensures

pub returns-in_default : goal.returns-in_default
returns-in_default c = λ q i. rw (finishing.scored_plain q (λ z. omega (arith, finishing.tag_of_lem c.args.room.now 3 c.args.n q i, z))
    (λ z. omega (arith, finishing.tag_of_lem c.args.room.now 3 c.args.n q i, z)) (λ z. omega (arith, finishing.tag_of_lem c.args.room.now 3 c.args.n q i, z)))
    (finishing.score_laid q (standing.stands_here c.args.room.now 3 c.args.n _ c.requires.fits (sym i.form)) c.put_header-in_default.ensures c.requires.fits)
