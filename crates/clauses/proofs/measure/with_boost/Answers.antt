-- `clauses::measure::with_boost` meets its contract.
use Prim.Native.Nat.{◌+◌}
use Rattle.clauses.proofs.Bodies.{numeral_refused, numeral_taken, boost_none, boost_missing, boost_refused, boost_got, boosted_length}
use Rattle.clauses.proofs.Rows.{kind_in_lem, text_is, place_step_two}
use Rattle.row.specs.Row.{tokens_of}
use Rattle.rules.specs.Numbers.{no_numeral}
use Rattle.rules.specs.Numerals.{numeral_bits}
use mathlib.Core.Path.{refl, sym, ap, ◌∙◌}
use native.Mathlib.Omega.{arith}
use Rattle.clauses.proofs.measure.with_boost.Goals as goal

pub returns-then-not-is_at : goal.returns-then-not-is_at
returns-then-not-is_at c = record { means = (λ st m e. (m, boost_none st (tokens_of c.args.row.now.room.now c.args.row.now.n) c.args.i m (sym c.is_at.ensures ∙ c.if-not-is_at.true), e)); within = (omega arith, c.requires.0, omega arith, omega arith) }

pub returns-then-not-is_at-2-clause-means : goal.returns-then-not-is_at-2-clause-means
returns-then-not-is_at-2-clause-means c = λ st m e. (no_numeral, boost_missing st (tokens_of c.args.row.now.room.now c.args.row.now.n) c.args.i m (sym c.is_at.ensures ∙ c.if-not-is_at.false) (sym c.is_at-2.ensures ∙ c.if-not-is_at-2.true), refl)

pub text_at-requires : goal.text_at-requires
text_at-requires c = let z = kind_in_lem c.args.row.now.room.now c.args.row.now.n 1 (c.args.i + 1) (λ z. omega arith) (sym c.is_at-2.ensures ∙ c.if-not-is_at-2.false) in (omega (arith, c.args.row.now.rowed.few), c.args.row.now.rowed.laid (c.args.i + 1) (omega arith), c.args.row.now.rowed.least)

pub returns-in-Err : goal.returns-in-Err
returns-in-Err c = let z = kind_in_lem c.args.row.now.room.now c.args.row.now.n 1 (c.args.i + 1) (λ z. omega arith) (sym c.is_at-2.ensures ∙ c.if-not-is_at-2.false) in
    let a = numeral_refused c.text_at.result.now _ (sym c.fault.ensures ∙ c.in-Err.is) in
    record { means = (λ st m e. (a.0, boost_refused st (tokens_of c.args.row.now.room.now c.args.row.now.n) c.args.i m (sym c.is_at.ensures ∙ c.if-not-is_at.false) (sym c.is_at-2.ensures ∙ c.if-not-is_at-2.false) (ap numeral_bits (text_is c.args.row.now.room.now c.args.row.now.n (c.args.i + 1) z ∙ sym c.text_at.ensures) ∙ a.1), a.2)); within = omega arith }

pub returns : goal.returns
returns c = let z = kind_in_lem c.args.row.now.room.now c.args.row.now.n 1 (c.args.i + 1) (λ z. omega arith) (sym c.is_at-2.ensures ∙ c.if-not-is_at-2.false) in
    let a = numeral_taken (numeral_bits c.text_at.result.now) _ (sym c.fault.ensures ∙ c.in_default.is) in
    record { means = (λ st m e. (_, boost_got st (tokens_of c.args.row.now.room.now c.args.row.now.n) c.args.i m (sym c.is_at.ensures ∙ c.if-not-is_at.false) (sym c.is_at-2.ensures ∙ c.if-not-is_at-2.false) (ap numeral_bits (text_is c.args.row.now.room.now c.args.row.now.n (c.args.i + 1) z ∙ sym c.text_at.ensures) ∙ a.1), boosted_length _ m _ _ e c.boosted_len.ensures)); within = (omega arith, omega arith, place_step_two c.args.row.now.rowed c.args.i, c.boosted_len.ensures.0) }
