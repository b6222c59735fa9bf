-- `boost::powers::ten` meets its contract. Assumes nothing.
use Rattle.std.proofs.Common.{lt_of_le_of_lt, lit<}
use Rattle.boost.proofs.Tens.{ten_mono}
use Rattle.boost.proofs.powers.ten.Goals as goal

pub pow-requires : goal.pow-requires
pow-requires c = lt_of_le_of_lt (ten_mono c.args.n 14 c.requires) (lit< tt)
