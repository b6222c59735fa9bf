-- `lists::is_fielded` meets its contract.
use Rattle.lists.proofs.Lister as lister
use Rattle.lists.specs.List.{is_held}
use Rattle.rules.proofs.Bools as bools
use Rattle.rules.proofs.Chains as chains
use Rattle.rules.specs.Bytes.{rest_of}
use Rattle.stored.proofs.Reader as reader
use mathlib.Core.Path.{sym, ap, ◌∙◌}
use Rattle.lists.proofs.is_fielded.Goals as goal

pub returns-then-not-is_field_part : goal.returns-then-not-is_field_part
returns-then-not-is_field_part c = chains.ends _ c.is_field_part.ensures c.if-not-is_field_part.true-raw

pub rest-w-requires : goal.rest-w-requires
rest-w-requires c = reader.field_whole _ (bools.told_yes c.is_field_part.ensures c.if-not-is_field_part.false-raw)

pub rest-requires : goal.rest-requires
rest-requires c = lister.held_whole c.args.tag _ (sym c.is_held.ensures ∙ c.if-is_held.true)

pub returns-then-is_held : goal.returns-then-is_held
returns-then-is_held c = c.is_empty.ensures ∙ chains.goes_on c.is_field_part.ensures c.if-not-is_field_part.false-raw (chains.on (sym (c.is_held.ensures ∙ ap (is_held c.args.tag) c.rest-w.ensures) ∙ c.if-is_held.true) (chains.nothing c.rest.result.now (c.rest.ensures ∙ ap rest_of c.rest-w.ensures)))

pub returns-else-is_held : goal.returns-else-is_held
returns-else-is_held c = c.if-is_held.false ∙ chains.goes_on c.is_field_part.ensures c.if-not-is_field_part.false-raw (chains.off _ (sym (c.is_held.ensures ∙ ap (is_held c.args.tag) c.rest-w.ensures) ∙ c.if-is_held.false))
