-- `floats::bits::narrow_finite` meets its contract (`proofs/Narrow.antt`). Assumes nothing.
use Rattle.std.proofs.Common.{◌≡◌, ℕ, ◌<◌, ◌≤◌, ◌^◌}
use Rattle.floats.proofs.Narrow.{zeros, kept_is, narrowed_zero, narrowed_tiny, narrowed_low, narrowed_high, narrowed_over}
use lib.Count.{count_leading_zeros}
use native.Mathlib.Omega.{arith}
use Rattle.floats.proofs.bits.narrow_finite.Goals as goal

some : (q : ℕ) → (q ≡ 0 → ⊥) → 0 < q
some q h = omega arith

few : (q : ℕ) → (q ≡ 0 → ⊥) → q < 2 ^ 53 → (11 ≤ count_leading_zeros 64 q) × (count_leading_zeros 64 q < 64)
few q h l = zeros q (some q h) l

pub returns-then-q-eq0 : goal.returns-then-q-eq0
returns-then-q-eq0 c = narrowed_zero c.args.q c.args.k c.if-q-eq0.true

pub overflow_cast-z : goal.overflow_cast-z
overflow_cast-z c = let z = few c.args.q c.if-q-eq0.false c.requires.q_bound in omega arith

pub overflow_sub-e : goal.overflow_sub-e
overflow_sub-e c = let z = few c.args.q c.if-q-eq0.false c.requires.q_bound in omega arith

pub returns-then-e-lt-HALF_LEAST : goal.returns-then-e-lt-HALF_LEAST
returns-then-e-lt-HALF_LEAST c = narrowed_tiny c.args.q c.args.k (some c.args.q c.if-q-eq0.false) c.requires.q_bound c.if-e-lt-HALF_LEAST.true

pub overflow_sub-n : goal.overflow_sub-n
overflow_sub-n c = let z = few c.args.q c.if-q-eq0.false c.requires.q_bound in omega arith

pub overflow_shl-n : goal.overflow_shl-n
overflow_shl-n c = let z = few c.args.q c.if-q-eq0.false c.requires.q_bound in omega arith

pub overflow_cast-result : goal.overflow_cast-result
overflow_cast-result c = let w = (narrowed_low c.args.q c.args.k (some c.args.q c.if-q-eq0.false) c.requires.q_bound c.if-e-lt-NORMAL.true c.nearest_shift.result c.nearest_shift.ensures).small in omega arith

pub returns-then-e-lt-NORMAL : goal.returns-then-e-lt-NORMAL
returns-then-e-lt-NORMAL c = narrowed_low c.args.q c.args.k (some c.args.q c.if-q-eq0.false) c.requires.q_bound c.if-e-lt-NORMAL.true c.nearest_shift.result c.nearest_shift.ensures

pub overflow_add-p : goal.overflow_add-p
overflow_add-p c = let w = kept_is c.args.q c.args.k (some c.args.q c.if-q-eq0.false) c.requires.q_bound c.nearest_shift-2.result c.nearest_shift-2.ensures in omega arith

pub returns-then-p-lt-OVERFLOW : goal.returns-then-p-lt-OVERFLOW
returns-then-p-lt-OVERFLOW c = narrowed_high c.args.q c.args.k (some c.args.q c.if-q-eq0.false) c.requires.q_bound c.if-e-lt-NORMAL.false c.nearest_shift-2.result c.nearest_shift-2.ensures c.if-p-lt-OVERFLOW.true

pub returns : goal.returns
returns c = narrowed_over c.args.q c.args.k (some c.args.q c.if-q-eq0.false) c.requires.q_bound c.if-e-lt-NORMAL.false c.nearest_shift-2.result c.nearest_shift-2.ensures c.if-p-lt-OVERFLOW.false
