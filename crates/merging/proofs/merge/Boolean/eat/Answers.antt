-- `merging::merge::Boolean::eat` meets its contract.
use Rattle.merging.proofs.Eating as eating
use Rattle.merging.proofs.Placed as placed
use mathlib.Core.Path.{refl}
use native.Mathlib.Omega.{arith}
use Rattle.merging.proofs.merge.Boolean.eat.Goals as goal

pub loop-u-init : goal.loop-u-init
loop-u-init c = eating.eating_start _ c.requires

pub end_of-v-requires : goal.end_of-v-requires
end_of-v-requires c = (let l = eating.inside c.loop-u.invariant in omega arith, (eating.here c.loop-u.invariant c.loop-u-test.true).part.whole)

pub eats-requires : goal.eats-requires
eats-requires c = record { query = (eating.here c.loop-u.invariant c.loop-u-test.true).query; is = placed.clause_is (eating.here c.loop-u.invariant c.loop-u-test.true) _ c.end_of-v.ensures.0 }

pub fed-sum-requires : goal.fed-sum-requires
fed-sum-requires c = record { query = (eating.here c.loop-u.invariant c.loop-u-test.true).query; is = placed.clause_is (eating.here c.loop-u.invariant c.loop-u-test.true) _ c.end_of-v.ensures.0 }

pub loop-u-preserved-then-eats : goal.loop-u-preserved-then-eats
loop-u-preserved-then-eats c = eating.eat_one c.loop-u.invariant c.loop-u-test.true _ c.end_of-v.ensures.0 _ refl _ c.eats.ensures c.if-eats.true _ c.fed-sum.ensures c.shift.ensures

pub loop-u-preserved : goal.loop-u-preserved
loop-u-preserved c = eating.eat_not c.loop-u.invariant c.loop-u-test.true _ c.end_of-v.ensures.0 _ refl _ c.eats.ensures c.if-eats.false

pub returns : goal.returns
returns c = eating.eating_end c.loop-u.invariant c.loop-u-test.false
