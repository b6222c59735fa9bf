-- `entries::here::any_entry` meets its contract.
use Rattle.entries.proofs.Entries as entries
use Rattle.entries.proofs.Searches as searches
use Rattle.rules.proofs.Stored.Parts as parts
use mathlib.Core.Path.{refl}
use Rattle.std.proofs.Common.{rules}
use Rattle.entries.proofs.here.any_entry.Goals as goal

pub loop-e-init : goal.loop-e-init
loop-e-init g c = searches.tested_all c.requires.sound

pub test-requires : goal.test-requires
test-requires g c = let h = c.requires.takes c.loop-e.e (searches.tested_first c.loop-e.invariant (search rules)) in search rules

pub returns-then-test : goal.returns-then-test
returns-then-test g c = searches.tested_stop c.loop-e.invariant (search rules) c.loop-e.e refl c.if-test.ensures

pub rest-e-requires : goal.rest-e-requires
rest-e-requires g c = entries.entry_whole _ (searches.tested_first c.loop-e.invariant (search rules))

pub loop-e-smaller : goal.loop-e-smaller
loop-e-smaller g c = rw c.rest-e.ensures (parts.rest_shorter _ (search rules))

pub loop-e-preserved : goal.loop-e-preserved
loop-e-preserved g c = searches.tested_next c.loop-e.invariant (search rules) c.loop-e.e refl c.if-test.ensures c.rest-e.ensures

pub returns : goal.returns
returns g c = searches.tested_none c.loop-e.invariant (search rules)
