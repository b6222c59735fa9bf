-- `clauses::leaf::write_phrase` meets its contract.
use Prim.Native.Nat.{◌-◌}
use Rattle.clauses.proofs.Writing.{phrase_put}
use Rattle.rules.proofs.Stored.Sizes.{length_phrase}
use Rattle.rules.specs.Analysis.{tokenize}
use Rattle.rules.specs.Parsing.{from_first}
use mathlib.Core.Path.{refl}
use native.Mathlib.Omega.{arith}
use Rattle.clauses.proofs.leaf.write_phrase.Goals as goal

pub put_part-b-requires : goal.put_part-b-requires
put_part-b-requires c = let z = length_phrase c.args.field.now (from_first (tokenize c.args.analyzer c.args.text.now)) in (omega (arith, z, c.requires.0), omega (arith, c.requires.1))

pub put_words-w-requires : goal.put_words-w-requires
put_words-w-requires c = let z = length_phrase c.args.field.now (from_first (tokenize c.args.analyzer c.args.text.now)) in (omega (arith, z, c.requires.0, c.put_part-b.ensures.place, c.put_part-b.auto.out), c.requires.2)

pub put_header-requires : goal.put_header-requires
put_header-requires c = let z = length_phrase c.args.field.now (from_first (tokenize c.args.analyzer c.args.text.now)) in
    (omega (arith, z, c.requires.0, c.put_part-b.auto.out, c.put_words-w.auto.out), omega (arith, z, c.requires.0, c.requires.3, c.put_part-b.ensures.place, c.put_words-w.ensures.place))

pub returns : goal.returns
returns c = phrase_put c.args.field.now c.args.analyzer c.args.text.now (c.put_words-w.result - c.args.at - 3) c.put_part-b.ensures c.put_words-w.ensures c.put_header.ensures refl c.requires.0
