-- `round::over::put_merged_boolean` meets its contract.
use Rattle.round.proofs.Booleans as booleans
use Rattle.round.proofs.Nested as nested
use native.Mathlib.Omega.{arith}
use Rattle.round.proofs.over.put_merged_boolean.Goals as goal

pub merge_clauses-n-requires : goal.merge_clauses-n-requires
merge_clauses-n-requires c = booleans.mergeable c.requires

pub put_header-requires : goal.put_header-requires
put_header-requires c = omega (arith, (c.merge_clauses-n.ensures c.requires.clauses (booleans.lent_are c.requires _ c.requires.are)).size, booleans.merged_small c.requires c.args.strict)

pub returns : goal.returns
returns c = λ cs a. booleans.boolean_laid _ _ (nested.returned_stands c.args.room.now _ 8 (omega (arith, c.requires.low, c.requires.high))
    (c.merge_clauses-n.ensures cs (booleans.lent_are c.requires cs a))) c.put_minimum.ensures
    c.put_header.ensures (omega (arith, (c.merge_clauses-n.ensures c.requires.clauses (booleans.lent_are c.requires _ c.requires.are)).size, booleans.merged_small c.requires c.args.strict))
