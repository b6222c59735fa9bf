-- `merging::merge::put_merged` meets its contract.
use Prim.Native.Nat.{◌-◌}
use Rattle.merging.proofs.Laid as laid
use Rattle.places.specs.Within.{within}
use mathlib.Core.Path.{sym, ◌∙◌}
use native.Mathlib.Omega.{arith}
use Rattle.merging.proofs.merge.put_merged.Goals as goal

pub put_clause-requires : goal.put_clause-requires
put_clause-requires c = let l = laid.size_plain _ (c.args.e - c.args.m.base) (sym c.is_one.ensures ∙ c.if-is_one.true) in (c.requires.0, c.requires.1, omega (arith, c.requires.2), omega (arith, c.requires.3))

pub returns-then-is_one : goal.returns-then-is_one
returns-then-is_one c = rw (laid.plain_bytes _ (within c.args.m.base c.args.e c.args.room.now) (sym c.is_one.ensures ∙ c.if-is_one.true)) c.put_clause.ensures

pub put_boosted-requires : goal.put_boosted-requires
put_boosted-requires c = let l = laid.size_boost _ (c.args.e - c.args.m.base) (sym c.is_one.ensures ∙ c.if-is_one.false) in (c.requires.0, c.requires.1, omega (arith, c.requires.2), omega (arith, c.requires.3))

pub returns-else-is_one : goal.returns-else-is_one
returns-else-is_one c = rw (laid.boost_bytes _ (within c.args.m.base c.args.e c.args.room.now) _ (sym c.is_one.ensures ∙ c.if-is_one.false) c.rounded_bits.ensures) c.put_boosted.ensures
