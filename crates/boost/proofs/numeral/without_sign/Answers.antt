-- `boost::numeral::without_sign` meets its contract. Assumes nothing.
use Rattle.std.proofs.Common.{arith, sym, subst}
use Rattle.boost.proofs.Words.{digit_first, none_first}
use Rattle.boost.specs.Numeral.{Parsed}
use Rattle.boost.proofs.numeral.without_sign.Goals as goal
use Rattle.boost.proofs.numeral.without_sign.Goals.{in_default-via-then-s-lt1, in_default-via-in-len1-up+else-first-gt57}

pub returns-in_default : goal.returns-in_default
returns-in_default c = subst (Parsed c.decimal.result) (sym (digit_first c.args.s.now (elim c.in_default.branch [ in_default-via-then-s-lt1 w ↦ none_first c.args.s.now (grind arith) | in_default-via-in-len1-up+else-first-gt57 w ↦ w.if-first-gt57.false ]))) c.decimal.ensures
