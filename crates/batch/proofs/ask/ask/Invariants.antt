use Prim.Native.Nat.{◌<◌, ◌^◌}
use Rattle.batch.proofs.Cutting as cutting
use Rattle.batch.specs.Ask.{Told}
use Rattle.batch.specs.Cut.{queries_of}
use Rattle.rules.specs.Bytes.{each}
use Rattle.rules.specs.Lists.{entry_of}
use lib.ListN.{length}
use mathlib.Core.Path.{◌≡◌}
use Rattle.batch.proofs.ask.ask.Given as goal

abbrev pub invariant-loop-i : goal.invariant-loop-i
invariant-loop-i l = (length l.row ≡ length l.initial.row) × (l.bits < 2 ^ l.i) × cutting.Queue l.queries l.t l.i × Told (queries_of l.queries) l.i (each entry_of l.rec) l.bits
