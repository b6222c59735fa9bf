-- `clauses::measure::closing` meets its contract.
use Rattle.clauses.proofs.Bodies.{close_missing, close_goes, bracket_within}
use Rattle.clauses.proofs.Rows.{kind_in_lem, place_most_lem}
use Rattle.row.specs.Row.{tokens_of}
use Rattle.rules.specs.Numbers.{open_bracket}
use Rattle.rules.specs.Parsing.{query_of}
use mathlib.Core.Path.{refl, sym, ◌∙◌}
use native.Mathlib.Omega.{arith}
use Rattle.clauses.proofs.measure.closing.Goals as goal

pub returns-then-not-is_at : goal.returns-then-not-is_at
returns-then-not-is_at c = record { means = (λ st o K. (open_bracket, close_missing st (tokens_of c.args.row.now.room.now c.args.row.now.n) o K.1 (sym c.is_at.ensures ∙ c.if-not-is_at.true), refl)); within = λ i l W. omega arith }

pub with_boost-requires : goal.with_boost-requires
with_boost-requires c = let W = c.requires.1 in let z = kind_in_lem c.args.row.now.room.now c.args.row.now.n 10 c.args.g.next (λ z. omega arith) (sym c.is_at.ensures ∙ c.if-not-is_at.false) in (omega arith, omega (arith, c.query_len.ensures.bound, W.3, place_most_lem c.args.row.now.rowed c.args.g.next))

pub returns : goal.returns
returns c = let z = kind_in_lem c.args.row.now.room.now c.args.row.now.n 10 c.args.g.next (λ z. omega arith) (sym c.is_at.ensures ∙ c.if-not-is_at.false) in record {
  means = λ st o K. rw (close_goes st (tokens_of c.args.row.now.room.now c.args.row.now.n) o K.1 (sym c.is_at.ensures ∙ c.if-not-is_at.false)) (c.with_boost.ensures.means st (query_of K.0) (c.query_len.ensures.made K.0 K.2));
  within = λ i l W. bracket_within c.args.row.now.rowed i c.query_len.result c.args.g l z W c.query_len.ensures.bound c.with_boost.result c.with_boost.ensures.within;
}
