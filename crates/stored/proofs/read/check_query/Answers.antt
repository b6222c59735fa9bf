-- `stored::read::check_query` meets its contract.
use Rattle.std.proofs.lemmas.Result as result
use Rattle.stored.proofs.Reader as reader
use Rattle.stored.proofs.read.check_query.Goals as goal

pub returns-in_err-e : goal.returns-in_err-e
returns-in_err-e c = let p = result.err_from_is_err_and c.from_residual.result c.from_residual.ensures.1 in
    rw (p.1, p.2) (reader.whole_in c.args.most c.args.depth c.args.s.now _ c.if-s-most.false (c.in_err-e.ensures _))
