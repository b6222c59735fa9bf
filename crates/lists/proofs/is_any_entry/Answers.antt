-- `lists::is_any_entry` meets its contract.
use Rattle.lists.specs.List.{is_held}
use Rattle.rules.proofs.Bools as bools
use Rattle.rules.proofs.Choosing.Entries as entries
use Rattle.rules.proofs.Stored.Parts as parts
use Rattle.rules.specs.Lists.{is_field_with}
use Rattle.rules.specs.Numbers.{place_tag, whole_tag, float_tag}
use Rattle.rules.specs.Query.{whole, float}
use mathlib.Core.Path.{sym, ap, ◌∙◌}
use native.Mathlib.Omega.{arith}
use Rattle.lists.proofs.is_any_entry.Goals as goal

pub returns-then-not-whole : goal.returns-then-not-whole
returns-then-not-whole c = sym (entries.entry_broken c.args.s.now (bools.told_no c.whole.ensures c.if-not-whole.true-raw))

pub body-b-requires : goal.body-b-requires
body-b-requires c = bools.told_yes c.whole.ensures c.if-not-whole.false-raw

pub bounds-s-0 : goal.bounds-s-0
bounds-s-0 c = omega (arith, parts.whole_le _ (bools.told_yes c.whole.ensures c.if-not-whole.false-raw))

pub returns-in-65 : goal.returns-in-65
returns-in-65 c = c.is_fielded.ensures ∙ ap (is_field_with (is_held place_tag)) c.body-b.ensures ∙ sym (entries.place_entry c.args.s.now (bools.told_yes c.whole.ensures c.if-not-whole.false-raw) c.in-65.is)

pub returns-in-68 : goal.returns-in-68
returns-in-68 c = c.is_fielded-in-68.ensures ∙ ap (is_field_with (is_held whole_tag)) c.body-b.ensures ∙ sym (entries.value_entry c.args.s.now whole (bools.told_yes c.whole.ensures c.if-not-whole.false-raw) c.in-68.is)

pub returns-in-69 : goal.returns-in-69
returns-in-69 c = c.is_fielded-in-69.ensures ∙ ap (is_field_with (is_held float_tag)) c.body-b.ensures ∙ sym (entries.value_entry c.args.s.now float (bools.told_yes c.whole.ensures c.if-not-whole.false-raw) c.in-69.is)

pub returns-in_default : goal.returns-in_default
returns-in_default c = sym (entries.no_entry c.args.s.now c.in_default.in_default-own.rest.0.0.1 c.in_default.in_default-own.rest.0.1 c.in_default.in_default-own.rest.1)
