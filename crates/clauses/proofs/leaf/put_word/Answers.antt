-- `clauses::leaf::put_word` meets its contract.
use Rattle.analysis.proofs.Spelling.{spelled_length}
use Rattle.clauses.proofs.Writing.{word_put}
use native.Mathlib.Omega.{arith}
use Rattle.clauses.proofs.leaf.put_word.Goals as goal

pub returns : goal.returns
returns c = word_put c.args.position c.put_header-b.ensures c.put_big4-c.ensures c.put_spelled.ensures (omega (arith, spelled_length c.args.analyzer c.args.s.now)) (omega (arith, spelled_length c.args.analyzer c.args.s.now, c.requires.0)) c.put_header-b.auto.out
