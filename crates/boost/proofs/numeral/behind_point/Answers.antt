-- `boost::numeral::behind_point` meets its contract. Assumes nothing.
use Rattle.std.proofs.Common.{arith}
use Rattle.boost.proofs.Grammar.{fraction_point, fraction_none}
use Rattle.boost.proofs.numeral.behind_point.Goals as goal
use Rattle.boost.proofs.numeral.behind_point.Goals.{in_default-via-then-s-lt1, in_default-via-else-s-lt1+in_default-1}

pub returns-in-46 : goal.returns-in-46
returns-in-46 c = fraction_point c.args.s.now c.args.value c.read.result.value c.read.result.digits.now c.read.result.rest.now c.in-46.len_at_least (omega arith) c.read.ensures

pub returns-in_default : goal.returns-in_default
returns-in_default c = fraction_none c.args.s.now c.args.value c.min.result
    (λ l e. elim c.in_default.branch [ in_default-via-then-s-lt1 w ↦ grind arith | in_default-via-else-s-lt1+in_default-1 w ↦ grind arith ]) c.min.ensures
