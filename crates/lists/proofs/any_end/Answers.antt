use Prim.Native.Nat.{ℕ, ◌+◌}
use Rattle.lists.proofs.Lister as lister
use Rattle.rules.proofs.Choosing.Entries as entries
use Rattle.rules.proofs.Stored.Parts as parts
use Rattle.std.specs.Prelude.{Some}
use mathlib.Core.Path.{sym, ap, ◌∙◌}
use native.Mathlib.Omega.{arith}
use Rattle.lists.proofs.any_end.Goals as goal

pub size_of-requires : goal.size_of-requires
size_of-requires c = omega (arith, parts.whole_le _ (entries.entry_whole _ (sym c.is_any_entry.ensures ∙ c.if-is_any_entry.true)))

pub returns-then-is_any_entry : goal.returns-then-is_any_entry
returns-then-is_any_entry c = ap (λ (k : ℕ). Some (3 + k)) c.size_of.ensures.0 ∙ lister.ends_there c.args.s.now (sym c.is_any_entry.ensures ∙ c.if-is_any_entry.true)

pub returns-else-is_any_entry : goal.returns-else-is_any_entry
returns-else-is_any_entry c = lister.ends_nowhere c.args.s.now (sym c.is_any_entry.ensures ∙ c.if-is_any_entry.false)
