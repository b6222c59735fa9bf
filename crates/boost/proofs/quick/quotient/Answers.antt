-- `boost::quick::quotient` meets its contract. Assumes nothing.
use Rattle.boost.proofs.Once.{quotient_number, quotient_nearest}
use Rattle.boost.proofs.quick.quotient.Goals as goal

pub float_to_bits-result : goal.float_to_bits-result
float_to_bits-result c = quotient_number c.args.d c.args.n c.ten.result c.requires.d_lt_quick_most c.requires.n_bound c.ten.ensures

pub returns : goal.returns
returns c = quotient_nearest c.args.d c.args.n c.ten.result c.requires.d_lt_quick_most c.requires.n_bound c.ten.ensures
