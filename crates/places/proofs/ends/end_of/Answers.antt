-- `places::ends::end_of` meets its contract.
use Rattle.rules.proofs.Stored.Parts as parts
use Rattle.rules.specs.Bytes.{size_of}
use lib.ListN.{length, length-drop}
use mathlib.Core.Path.{ap, ◌∙◌}
use native.Mathlib.Omega.{arith}
use Rattle.places.proofs.ends.end_of.Goals as goal

pub size_of-requires : goal.size_of-requires
size_of-requires c = omega (arith, parts.whole_le _ c.requires.1, ap length (parts.cut_from c.args.at c.args.room.now))

pub returns : goal.returns
returns c = let e = c.size_of.ensures.0 ∙ ap size_of (parts.cut_from c.args.at c.args.room.now) in omega (arith, e, parts.whole_le _ c.requires.1, length-drop c.args.at c.args.room.now)
