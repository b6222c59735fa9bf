-- `boost::numeral::after_digits` meets its contract. Assumes nothing.
use Rattle.std.proofs.Common.{arith, sym, subst}
use Rattle.boost.proofs.Grammar.{digits_end, digits_e, digits_other}
use Rattle.boost.specs.Numeral.{Scaled}
use Rattle.boost.proofs.numeral.after_digits.Goals as goal

pub returns-in-empty : goal.returns-in-empty
returns-in-empty c = λ d f. digits_end d f c.args.s.now c.in-empty.len_below

pub returns-in-101 : goal.returns-in-101
returns-in-101 c = λ d f. subst (Scaled c.exponent.result d f)
    (sym (digits_e d f c.args.s.now c.after_sign.result.now c.is_minus.result c.in-101.len_at_least (λ n k. omega arith) c.is_minus.ensures c.after_sign.ensures)) (c.exponent.ensures d f)

pub returns-in_default : goal.returns-in_default
returns-in_default c = λ d f. digits_other d f c.args.s.now c.in_default.len_at_least (λ e. grind arith) (λ e. grind arith)
