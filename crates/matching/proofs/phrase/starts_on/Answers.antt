-- `matching::phrase::starts_on` meets its contract.
use Rattle.entries.proofs.Entries as entries
use Rattle.rules.proofs.Bools as bools
use Rattle.rules.specs.Bytes.{each}
use Rattle.rules.specs.Lists.{entry_of}
use Rattle.rules.specs.Reading.{word_of}
use mathlib.Core.Path.{sym, ◌∙◌}
use Rattle.matching.proofs.phrase.starts_on.Goals as goal

pub is_here-requires : goal.is_here-requires
is_here-requires c = c.requires

pub returns-then-not-is_here : goal.returns-then-not-is_here
returns-then-not-is_here c = sym (entries.starts_parts c.args.f.now c.args.t.now (each entry_of c.args.r.now.entries.now) c.args.p (each word_of c.args.ws.now.bytes.now) (entry_of c.args.e.now) ∙ bools.and_no_l _ (bools.told_no c.is_here.ensures c.if-not-is_here.true-raw))

pub position-x-requires : goal.position-x-requires
position-x-requires c = (c.requires, entries.here_place c.args.f.now c.args.t.now (entry_of c.args.e.now) (bools.told_yes c.is_here.ensures c.if-not-is_here.false-raw))

pub follow-requires : goal.follow-requires
follow-requires c = c.position-x.ensures.1

pub returns : goal.returns
returns c = c.follow.ensures ∙ rw c.position-x.ensures.0 (sym (entries.starts_parts c.args.f.now c.args.t.now (each entry_of c.args.r.now.entries.now) c.args.p (each word_of c.args.ws.now.bytes.now) (entry_of c.args.e.now) ∙ simp (bools.told_yes c.is_here.ensures c.if-not-is_here.false-raw)))
