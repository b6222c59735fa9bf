-- `boost::top::pattern` meets its contract. Assumes nothing.
use Rattle.boost.proofs.Tops.{enough, pattern_is}
use Rattle.boost.proofs.top.pattern.Goals as goal

pub rounded-requires-clause-enough_places : goal.rounded-requires-clause-enough_places
rounded-requires-clause-enough_places c = enough c.args.row.now c.saturating_sub-low.result c.args.len c.highest-w.result c.used-rest.result (record { count = c.told-row; word = c.fits-row }) c.highest-w.ensures c.used-rest.ensures c.requires.topped c.saturating_sub-low.ensures c.args.c c.requires.enough_places

pub returns : goal.returns
returns c = pattern_is c.args.row.now c.saturating_sub-low.result c.args.len c.highest-w.result c.used-rest.result (record { count = c.told-row; word = c.fits-row }) c.highest-w.ensures c.used-rest.ensures c.args.left c.with_rest.result c.args.c c.rounded.result c.with_rest.ensures c.rounded.ensures
