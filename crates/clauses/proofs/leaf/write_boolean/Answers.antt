-- `clauses::leaf::write_boolean` meets its contract.
use Prim.Native.Nat.{◌-◌}
use Rattle.clauses.proofs.Writing.{boolean_length, boolean_put}
use mathlib.Core.Path.{refl}
use native.Mathlib.Omega.{arith}
use Rattle.clauses.proofs.leaf.write_boolean.Goals as goal

pub put_clauses-w-requires : goal.put_clauses-w-requires
put_clauses-w-requires c = let z = boolean_length c.args.operator c.args.field.now c.args.analyzer c.args.text.now in (rw c.operator_tag.ensures (omega (arith, z, c.requires.0)), c.requires.1, c.requires.2)

pub put_header-b-requires : goal.put_header-b-requires
put_header-b-requires c = let z = boolean_length c.args.operator c.args.field.now c.args.analyzer c.args.text.now in let P = rw c.operator_tag.ensures at c.put_clauses-w.ensures in (omega (arith, z, c.requires.0, c.put_clauses-w.auto.out), omega (arith, z, c.requires.0, c.requires.3, P.place))

pub put_minimum-requires : goal.put_minimum-requires
put_minimum-requires c = let z = boolean_length c.args.operator c.args.field.now c.args.analyzer c.args.text.now in (omega (arith, z, c.requires.0, c.put_header-b.ensures.place, c.put_header-b.auto.out, c.put_clauses-w.auto.out), omega arith)

pub returns : goal.returns
returns c = let P = rw c.operator_tag.ensures at c.put_clauses-w.ensures in
    boolean_put c.args.operator c.args.field.now c.args.analyzer c.args.text.now (c.put_clauses-w.result - c.args.at - 3) P c.put_header-b.ensures c.put_minimum.ensures refl c.requires.0 c.put_clauses-w.auto.out
