-- `selection::ask::Question::is_chosen` meets its contract.
use Rattle.rules.specs.Bytes.{each}
use Rattle.rules.specs.Lists.{entry_of}
use Rattle.selection.proofs.Selections as selections
use mathlib.Core.Path.{refl, sym, ◌∙◌}
use native.Mathlib.Omega.{arith}
use Rattle.selection.proofs.ask.Question.is_chosen.Goals as goal

pub any_called-requires : goal.any_called-requires
any_called-requires c = (c.requires.0.planned.many, c.requires.1.entries)

pub returns-then-not-any_called : goal.returns-then-not-any_called
returns-then-not-any_called c = record {
  truth = selections.bare_truth c.in-Some.plan.bare (c.requires.0.planned.marks _ c.in-Some.is) (c.requires.0.planned.bare _ c.in-Some.is)
      (each entry_of c.args.rec.now) (sym c.any_called.ensures ∙ c.if-not-any_called.true);
  before = selections.before_more c.requires.1.before (omega arith);
  prepared = c.requires.0;
  query = refl;
}
