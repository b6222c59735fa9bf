-- `selection::ask::Question::prepare` meets its contract.
use Rattle.rules.proofs.Stored.Rows as rows
use Rattle.rules.specs.Lists.{is_entry, entry_of}
use Rattle.selection.proofs.Selections as selections
use mathlib.Core.List.{[]}
use mathlib.Core.Path.{refl}
use native.Mathlib.Omega.{arith}
use Rattle.selection.proofs.ask.Question.prepare.Goals as goal

pub holds-bare-requires : goal.holds-bare-requires
holds-bare-requires c = (c.requires.0, rows.every_done is_entry [] refl, (λ z. absurd (omega arith)), c.requires.1.deep)

pub mark_query-ranges-requires : goal.mark_query-ranges-requires
mark_query-ranges-requires c = c.requires.1.many

pub returns-then-self-ge-LONG : goal.returns-then-self-ge-LONG
returns-then-self-ge-LONG c = record {
  prepared = record {
    stored = c.requires.0;
    planned = selections.planned_some _ c.mark_query-ranges.ensures (rw (rows.each_done entry_of [] refl) at c.holds-bare.ensures) c.mark_query-ranges.ensures.many;
    deep = omega (arith, c.holds-bare.auto.row, c.requires.1.deep);
  };
  query = refl;
  zeros = c.requires.1.zeros;
}

pub returns-else-self-ge-LONG : goal.returns-else-self-ge-LONG
returns-else-self-ge-LONG c = record {
  prepared = record { stored = c.requires.0; planned = selections.planned_none c.requires.1.none c.requires.1.many; deep = c.requires.1.deep };
  query = refl;
  zeros = c.requires.1.zeros;
}
