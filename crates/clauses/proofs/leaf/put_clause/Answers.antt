-- `clauses::leaf::put_clause` meets its contract.
use Rattle.analysis.proofs.Spelling.{spelled_length}
use Rattle.analysis.specs.Tokens.{spelled}
use Rattle.numbers.proofs.Laying.{put_body}
use Rattle.rules.proofs.Stored.Sizes.{length_term}
use native.Mathlib.Omega.{arith}
use Rattle.clauses.proofs.leaf.put_clause.Goals as goal

pub returns : goal.returns
returns c = put_body c.put_header-b.ensures c.put_term.ensures (omega (arith, length_term c.args.field.now (spelled c.args.analyzer c.args.s.now), spelled_length c.args.analyzer c.args.s.now)) (omega (arith, length_term c.args.field.now (spelled c.args.analyzer c.args.s.now), spelled_length c.args.analyzer c.args.s.now, c.requires.0))
