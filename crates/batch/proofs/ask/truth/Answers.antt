use Rattle.batch.proofs.Planning as planning
use mathlib.Core.Path.{sym, ◌∙◌}
use native.Mathlib.Omega.{arith}
use Rattle.batch.proofs.ask.truth.Goals as goal

pub returns-in-Err : goal.returns-in-Err
returns-in-Err c = λ z. planning.failed (sym c.in-Err.is ∙ z)

pub holds-requires : goal.holds-requires
holds-requires c = (planning.stored_for c.args.q.now (λ i. omega (arith, c.shared_slice_known-1.given i)) c.requires.0 c.in-Ok-2.is, c.requires.2, c.requires.3, c.requires.4)
