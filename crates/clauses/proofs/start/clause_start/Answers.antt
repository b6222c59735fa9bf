-- `clauses::start::clause_start` meets its contract.
use Rattle.clauses.proofs.Bodies.{start_plain, start_long, start_named}
use Rattle.clauses.proofs.Rows.{named_in}
use mathlib.Core.Path.{refl, sym, ◌∙◌}
use native.Mathlib.Omega.{arith}
use Rattle.clauses.proofs.start.clause_start.Goals as goal

pub returns-then-not-is_named : goal.returns-then-not-is_named
returns-then-not-is_named c = start_plain c.args.row.now.rowed c.args.i c.args.p.from c.args.p.analyzer (sym c.is_named.ensures ∙ c.if-not-is_named.true)

pub text_at-requires : goal.text_at-requires
text_at-requires c = let z = named_in c.args.row.now.room.now c.args.row.now.n c.args.i (sym c.is_named.ensures ∙ c.if-not-is_named.false) in (omega (arith, c.args.row.now.rowed.few), c.args.row.now.rowed.laid c.args.i (omega arith), c.args.row.now.rowed.least)

pub returns-then-text_at-gt-FIELD_MOST : goal.returns-then-text_at-gt-FIELD_MOST
returns-then-text_at-gt-FIELD_MOST c = (start_long c.args.row.now.rowed c.args.i c.args.p.from c.args.p.analyzer (sym c.is_named.ensures ∙ c.if-not-is_named.false) (rw (← c.text_at.ensures) c.if-text_at-gt-FIELD_MOST.true), refl)

pub note_at-requires : goal.note_at-requires
note_at-requires c = let z = named_in c.args.row.now.room.now c.args.row.now.n c.args.i (sym c.is_named.ensures ∙ c.if-not-is_named.false) in (omega (arith, c.args.row.now.rowed.few), c.args.row.now.rowed.least)

pub returns : goal.returns
returns c = rw c.note_at.ensures (start_named c.args.row.now.rowed c.args.i c.args.p.from c.args.p.analyzer (sym c.is_named.ensures ∙ c.if-not-is_named.false) (rw (← c.text_at.ensures) c.if-text_at-gt-FIELD_MOST.false))
