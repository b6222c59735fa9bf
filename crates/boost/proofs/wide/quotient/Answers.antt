-- `boost::wide::quotient` meets its contract. Assumes nothing.
use Prim.Native.Nat.{◌-◌, ◌*◌, ◌^◌, ◌%◌}
use Rattle.boost.proofs.Medium.{z_range, moved_is, t_pos, w_hi, w_lo, quotient_is, quotient_zero}
use lib.Count.{count_leading_zeros}
use mathlib.Core.Logic.{inl}
use native.Mathlib.Omega.{arith}
use Rattle.boost.proofs.wide.quotient.Goals as goal

pub returns-then-d-eq0 : goal.returns-then-d-eq0
returns-then-d-eq0 c = quotient_zero c.args.d c.args.n c.if-d-eq0.true

pub overflow_sub-m : goal.overflow_sub-m
overflow_sub-m c = let r = z_range c.args.d (omega arith) c.requires.d_bound in omega arith

pub nonzero_rem-m : goal.nonzero_rem-m
nonzero_rem-m c = t_pos c.args.d c.args.n c.five-t.result (c.args.d * 2 ^ (count_leading_zeros 64 c.args.d - 1) % 2 ^ 64) (omega arith) c.requires.d_bound c.requires.n_bound c.five-t.ensures (moved_is c.args.d (omega arith) c.requires.d_bound)

pub nonzero_div-m : goal.nonzero_div-m
nonzero_div-m c = t_pos c.args.d c.args.n c.five-t.result (c.args.d * 2 ^ (count_leading_zeros 64 c.args.d - 1) % 2 ^ 64) (omega arith) c.requires.d_bound c.requires.n_bound c.five-t.ensures (moved_is c.args.d (omega arith) c.requires.d_bound)

pub rounded-requires : goal.rounded-requires
rounded-requires c = record { w_bound = w_hi c.args.d c.args.n c.five-t.result (c.args.d * 2 ^ (count_leading_zeros 64 c.args.d - 1) % 2 ^ 64) (omega arith) c.requires.d_bound c.requires.n_bound c.five-t.ensures (moved_is c.args.d (omega arith) c.requires.d_bound); enough_places = inl (w_lo c.args.d c.args.n c.five-t.result (c.args.d * 2 ^ (count_leading_zeros 64 c.args.d - 1) % 2 ^ 64) (omega arith) c.requires.d_bound c.requires.n_bound c.five-t.ensures (moved_is c.args.d (omega arith) c.requires.d_bound)); c_bound = omega arith }

pub returns : goal.returns
returns c = quotient_is c.args.d c.args.n c.five-t.result (c.args.d * 2 ^ (count_leading_zeros 64 c.args.d - 1) % 2 ^ 64) (omega arith) c.requires.d_bound c.requires.n_bound c.five-t.ensures (moved_is c.args.d (omega arith) c.requires.d_bound) c.with_rest-below.result c.rounded.result c.with_rest-below.ensures c.rounded.ensures
