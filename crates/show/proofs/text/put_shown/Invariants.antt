-- `show::text::put_shown` meets its contract.
use Prim.Native.Nat.{◌≤◌}
use Rattle.rules.specs.Show.{shown}
use Rattle.show.proofs.Laying as laying
use lib.ListN.{length, drop}
use mathlib.Core.Path.{◌≡◌}
use Rattle.show.proofs.text.put_shown.Given as goal

abbrev pub invariant-loop-c : goal.invariant-loop-c
invariant-loop-c l = (l.c-index ≤ length l.s) × (length l.out ≡ length l.initial.out) × laying.Going (shown l.s) (shown (drop l.c-index l.s)) l.initial.out l.at l.out l.a
