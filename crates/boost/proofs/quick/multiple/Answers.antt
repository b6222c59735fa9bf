-- `boost::quick::multiple` meets its contract. Assumes nothing.
use Rattle.boost.proofs.Once.{product_number, product_nearest}
use Rattle.boost.proofs.quick.multiple.Goals as goal

pub float_to_bits-result : goal.float_to_bits-result
float_to_bits-result c = product_number c.args.d c.args.n c.ten.result c.requires.d_lt_quick_most c.requires.n_bound c.ten.ensures

pub returns : goal.returns
returns c = product_nearest c.args.d c.args.n c.ten.result c.requires.d_lt_quick_most c.requires.n_bound c.ten.ensures
