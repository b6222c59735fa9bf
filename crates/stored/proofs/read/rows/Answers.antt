-- `stored::read::rows` meets its contract.
use Rattle.std.proofs.lemmas.Result as result
use Rattle.stored.proofs.Rowing as rowing
use mathlib.Core.Path.{refl}
use Rattle.stored.proofs.read.rows.Goals as goal

pub loop-here-init : goal.loop-here-init
loop-here-init c = rowing.start c.args.first c.args.sound c.args.s.now _ c.requires.0 c.requires.1 refl

pub slice_bounds-step-end : goal.slice_bounds-step-end
slice_bounds-step-end c = rowing.inside c.loop-here.invariant

pub returns-in_err-k : goal.returns-in_err-k
returns-in_err-k c = let p = result.err_from_is_err_and c.from_residual.result c.from_residual.ensures.1 in rw (p.1, p.2) (rowing.fault c.loop-here.invariant _ c.in_err-k.ensures)

pub loop-here-preserved-in-Past : goal.loop-here-preserved-in-Past
loop-here-preserved-in-Past c = rowing.past c.loop-here.invariant _ (rw c.in-Past.is at c.in_ok-k.ensures)

pub loop-here-preserved-in-Into : goal.loop-here-preserved-in-Into
loop-here-preserved-in-Into c = rw (c.behind-here.ensures, c.push.ensures) (rowing.into c.loop-here.invariant _ (rw c.in-Into.is at c.in_ok-k.ensures))

pub loop-here-preserved-in-Last : goal.loop-here-preserved-in-Last
loop-here-preserved-in-Last c = rw c.behind-here-in-Last.ensures (rowing.last c.loop-here.invariant _ (rw c.in-Last.is at c.in_ok-k.ensures))

pub returns-in-None : goal.returns-in-None
returns-in-None c = rowing.finished c.loop-here.invariant c.if-at-here.false c.in-None.ensures.0

pub loop-here-preserved : goal.loop-here-preserved
loop-here-preserved c = let P = c.in-Some.ensures in rw (c.from.ensures, c.from-in-Some.ensures, P.1, P.2) (rowing.popped c.loop-here.invariant c.if-at-here.false c.pop.new.self.n P.0)
