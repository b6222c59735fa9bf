-- `stored::read::is_any_term` meets its contract.
use Rattle.stored.proofs.Plainly as plainly
use mathlib.Core.Path.{sym, ◌∙◌}
use Rattle.stored.proofs.read.is_any_term.Goals as goal

pub returns-then-is_plain : goal.returns-then-is_plain
returns-then-is_plain c = c.if-is_plain.true ∙ sym (plainly.plain_term c.args.b.now (c.is_plain.ensures c.if-is_plain.true))
