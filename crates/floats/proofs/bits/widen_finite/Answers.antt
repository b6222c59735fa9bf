-- `floats::bits::widen_finite` meets its contract (`proofs/Widen.antt`). Assumes nothing.
use Rattle.std.proofs.Common.{◌≡◌, ℕ, ◌<◌, ◌≤◌, ◌^◌}
use Rattle.floats.proofs.Widen.{zeros, widened, widened_zero}
use lib.Count.{count_leading_zeros}
use native.Mathlib.Omega.{arith}
use Rattle.floats.proofs.bits.widen_finite.Goals as goal

some : (q : ℕ) → (q ≡ 0 → ⊥) → 0 < q
some q h = omega arith

few : (q : ℕ) → (q ≡ 0 → ⊥) → q < 2 ^ 24 → (8 ≤ count_leading_zeros 32 q) × (count_leading_zeros 32 q < 32)
few q h l = zeros q (some q h) l

pub returns-then-q-eq0 : goal.returns-then-q-eq0
returns-then-q-eq0 c = widened_zero c.args.q c.args.k c.if-q-eq0.true

pub overflow_sub-result : goal.overflow_sub-result
overflow_sub-result c = let z = few c.args.q c.if-q-eq0.false c.requires.q_bound in omega arith

pub overflow_add-result-2 : goal.overflow_add-result-2
overflow_add-result-2 c = let z = few c.args.q c.if-q-eq0.false c.requires.q_bound in omega arith

pub overflow_cast-result-3 : goal.overflow_cast-result-3
overflow_cast-result-3 c = let z = few c.args.q c.if-q-eq0.false c.requires.q_bound in omega arith

pub overflow_shl-result : goal.overflow_shl-result
overflow_shl-result c = let z = few c.args.q c.if-q-eq0.false c.requires.q_bound in omega arith

pub overflow_add-result-3 : goal.overflow_add-result-3
overflow_add-result-3 c = let w = (widened c.args.q c.args.k (some c.args.q c.if-q-eq0.false) c.requires.q_bound c.requires.k_bound).small in omega arith

pub returns : goal.returns
returns c = widened c.args.q c.args.k (some c.args.q c.if-q-eq0.false) c.requires.q_bound c.requires.k_bound
