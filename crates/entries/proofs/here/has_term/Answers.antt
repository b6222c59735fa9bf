use Rattle.rules.specs.Matching.{is_here, has_term}
use Rattle.std.proofs.Common.{rules}
use Rattle.entries.proofs.here.has_term.Goals as goal

pub returns : goal.returns
unfolding has_term
returns c = c.any_entry.ensures (is_here c.args.f.now c.args.t.now) (λ e r h k. search rules)
