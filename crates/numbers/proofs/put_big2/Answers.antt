-- `numbers::put_big2` meets its contract.
use Rattle.numbers.proofs.Laying as laying
use lib.ListN.{length-set}
use mathlib.Core.Path.{refl}
use native.Mathlib.Omega.{arith}
use Rattle.numbers.proofs.put_big2.Goals as goal

pub bounds-out-at-2 : goal.bounds-out-at-2
bounds-out-at-2 c = simp length-set (omega arith)

pub returns : goal.returns
returns c = record { place = refl; bytes = laying.two_laid c.args.out.now c.args.at c.args.v c.requires.0 c.requires.1 }
