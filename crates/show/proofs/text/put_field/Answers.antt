-- `show::text::put_field` meets its contract.
use Rattle.rules.specs.Bytes.{ascii}
use Rattle.show.proofs.Laying as laying
use Rattle.show.proofs.Texts as texts
use borrow.Author.Rules.{rules}
use Rattle.show.proofs.text.put_field.Goals as goal

pub returns-then-is_empty : goal.returns-then-is_empty
unfolding ascii
returns-then-is_empty c = laying.lays_as (texts.field_none c.args.f.now (search rules)) c.put.ensures

pub returns : goal.returns
returns c = laying.lays_as (texts.field_some c.args.f.now (λ e. search rules)) c.put_shown.ensures
