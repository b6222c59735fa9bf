-- `entries::here::is_here` meets its contract.
use Rattle.entries.proofs.Entries as entries
use Rattle.rules.proofs.Stored.Parts as parts
use native.Mathlib.Omega.{arith}
use mathlib.Core.Path.{◌∙◌}
use Rattle.std.proofs.Common.{rules}
use Rattle.entries.proofs.here.is_here.Goals.{then-n-f, else-n-f}
use Rattle.entries.proofs.here.is_here.Goals as goal

pub size_of-n-requires : goal.size_of-n-requires
size_of-n-requires c = omega (arith, parts.whole_le _ (entries.entry_whole _ c.requires))

pub returns-else-n-f-2 : goal.returns-else-n-f-2
returns-else-n-f-2 c =
    c.if-n-f-2.false
    ∙ entries.other_size c.args.f.now c.args.t.now c.args.e.now c.requires
    (λ z. elim c.if-n-f.branch [ then-n-f w ↦ absurd (search rules) | else-n-f w ↦ absurd (omega (arith, w.if-n-f.false)) ])
