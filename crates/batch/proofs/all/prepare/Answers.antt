use Rattle.batch.proofs.Turning as turning
use Rattle.selection.proofs.Selections as selections
use mathlib.Core.Path.{sym, ◌∙◌}
use Rattle.std.proofs.Common.{rules}
use Rattle.batch.proofs.all.prepare.Goals as goal

pub plan-requires : goal.plan-requires
plan-requires c = (c.requires.0, (λ i. selections.zeros_at 514 i))

pub keep-requires : goal.keep-requires
keep-requires c =
    let L = turning.list_sound c.args.list.now (sym c.in-Ok.is ∙ c.requires.1) in
    (record { cuts = c.requires.0; planned = c.plan.ensures; long = search rules }, record { count = turning.list_count c.args.list.now (sym c.in-Ok.is ∙ c.requires.1); records = L.records; long = L.long }, c.requires.2)
