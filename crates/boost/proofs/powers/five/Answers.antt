-- `boost::powers::five` meets its contract. Assumes nothing.
use Rattle.std.proofs.Common.{lt_of_le_of_lt, lit<}
use Rattle.boost.proofs.Tens.{five_mono}
use Rattle.boost.proofs.powers.five.Goals as goal

pub pow-requires : goal.pow-requires
pow-requires c = lt_of_le_of_lt (five_mono c.args.n 20 c.requires) (lit< tt)
