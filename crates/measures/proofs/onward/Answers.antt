-- `measures::onward` meets its contract.
use Prim.Native.Nat.{ℕ}
use Rattle.rules.proofs.Stored.Parts as parts
use lib.ListN.{drop}
use mathlib.Core.Path.{ap, ◌∙◌}
use native.Mathlib.Omega.{arith}
use Rattle.measures.proofs.onward.Goals as goal

pub skip-n-requires : goal.skip-n-requires
skip-n-requires c = c.requires.0

pub slice_bounds-result-count : goal.slice_bounds-result-count
slice_bounds-result-count c = omega (arith, c.skip-n.ensures.0, c.requires.1)

pub slice_bounds-result-start : goal.slice_bounds-result-start
slice_bounds-result-start c = omega (arith, c.skip-n.ensures.0, c.requires.1)

pub returns : goal.returns
returns c = parts.cut_from c.skip-n.result c.args.t.now ∙ ap (λ (n : ℕ). drop n c.args.t.now) c.skip-n.ensures.0
