-- `show::text::put_hex` meets its contract.
use Prim.Native.Nat.{◌≤◌}
use Rattle.rules.specs.Show.{hex}
use Rattle.show.proofs.Laying as laying
use lib.ListN.{length, drop}
use mathlib.Core.Path.{◌≡◌}
use Rattle.show.proofs.text.put_hex.Given as goal

abbrev pub invariant-loop-c : goal.invariant-loop-c
invariant-loop-c l = (l.c-index ≤ length l.s) × (length l.out ≡ length l.initial.out) × laying.Going (hex l.s) (hex (drop l.c-index l.s)) l.initial.out l.at l.out l.a
