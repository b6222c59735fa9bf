-- `clauses::leaf::put_term` meets its contract.
use Rattle.analysis.proofs.Spelling.{spelled_length}
use Rattle.clauses.proofs.Writing.{term_put}
use mathlib.Core.Path.{◌∙◌}
use native.Mathlib.Omega.{arith}
use Rattle.clauses.proofs.leaf.put_term.Goals as goal

pub returns : goal.returns
returns c = term_put c.put_header-b.ensures c.put_part-c.ensures c.put_header-d.ensures c.put_spelled.ensures (omega (arith, spelled_length c.args.analyzer c.args.s.now)) (omega (arith, spelled_length c.args.analyzer c.args.s.now)) (omega (arith, spelled_length c.args.analyzer c.args.s.now, c.requires.0)) c.put_header-b.auto.out (c.put_part-c.auto.out ∙ c.put_header-b.auto.out)
