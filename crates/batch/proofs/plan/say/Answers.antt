use Rattle.batch.proofs.Planning as planning
use Rattle.rules.proofs.Stored.Rows as rows
use Rattle.rules.specs.Lists.{is_entry, entry_of}
use mathlib.Core.List.{[]}
use mathlib.Core.Path.{refl, sym, ◌∙◌}
use Rattle.std.proofs.Common.{rules}
use native.Mathlib.Omega.{arith}
use Rattle.batch.proofs.plan.say.Goals as goal

pub returns-in-Err : goal.returns-in-Err
returns-in-Err c = record { many = search rules; else = λ z. planning.failed (sym c.in-Err.is ∙ z) }

pub holds-bare-requires : goal.holds-bare-requires
holds-bare-requires c = (planning.stored_for c.args.q.now (λ i. omega (arith, c.shared_slice_known-1.given i)) c.requires c.in-Ok.is, rows.every_done is_entry [] refl, (λ z. absurd (omega arith)), search rules)

pub mark_query-ranges-requires : goal.mark_query-ranges-requires
mark_query-ranges-requires c = search rules

pub returns-in-Ok : goal.returns-in-Ok
returns-in-Ok c = record { many = c.mark_query-ranges.ensures.many; else = λ z. planning.else_marked c.holds-bare.result c.mark_query-ranges.ensures (rw (rows.each_done entry_of [] refl) at c.holds-bare.ensures) }
