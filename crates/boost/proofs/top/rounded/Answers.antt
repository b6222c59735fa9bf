-- `boost::top::rounded` meets its contract. Assumes nothing.
use Rattle.std.proofs.Common.{◌/◌, ◌*◌, ◌%◌, ◌^◌, arith}
use Rattle.boost.proofs.Tops.{unit_few, unit_kept, rounded_code, halved_few}
use Rattle.boost.proofs.top.rounded.Goals as goal

pub overflow_cast-h : goal.overflow_cast-h
overflow_cast-h c = let k = unit_kept c.args.w c.args.below c.args.c c.requires.w_bound c.requires.enough_places c.saturating_sub-k.result c.saturating_sub-k.ensures in omega arith

pub whole_of-requires : goal.whole_of-requires
whole_of-requires c = unit_kept c.args.w c.args.below c.args.c c.requires.w_bound c.requires.enough_places c.saturating_sub-k.result c.saturating_sub-k.ensures

pub overflow_add-p-2 : goal.overflow_add-p-2
overflow_add-p-2 c = let k = unit_few c.args.w c.args.below c.args.c c.requires.w_bound c.requires.enough_places c.saturating_sub-k.result c.saturating_sub-k.ensures in
    let q = halved_few (c.args.w / (1 * 2 ^ c.saturating_sub-k.result % 2 ^ 64)) c.whole_of.result c.with_rest-more.result (unit_kept c.args.w c.args.below c.args.c c.requires.w_bound c.requires.enough_places c.saturating_sub-k.result c.saturating_sub-k.ensures) c.whole_of.ensures in omega (arith, c.requires.c_bound)

pub returns : goal.returns
returns c = rounded_code c.args.w c.args.below c.args.c c.requires.w_bound c.requires.enough_places c.saturating_sub-k.result c.saturating_sub-k.ensures c.whole_of.result c.min.result c.with_rest-more.result c.with_rest-more.ensures c.whole_of.ensures (λ l. omega (arith, c.min.ensures)) (λ l. omega (arith, c.min.ensures))
