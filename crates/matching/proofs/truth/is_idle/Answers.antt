use Rattle.matching.proofs.Leaves as leaves
use Rattle.matching.proofs.Walks as walks
use Rattle.rules.proofs.Bools as bools
use Rattle.rules.proofs.Stored.Parts as parts
use Rattle.rules.specs.Bytes.{each}
use Rattle.rules.specs.Lists.{entry_of}
use mathlib.Core.Path.{refl, sym, ◌∙◌}
use native.Mathlib.Omega.{arith}
use Rattle.matching.proofs.truth.is_idle.Goals as goal

pub tag_of-kind-requires : goal.tag_of-kind-requires
tag_of-kind-requires c = omega (arith, c.requires.1)

pub returns-then-is_spare : goal.returns-then-is_spare
returns-then-is_spare c = λ z. walks.idle_spare (each entry_of c.args.r.now.entries.now) c.requires.1 c.tag_of-kind.ensures (sym c.is_spare.ensures ∙ c.if-is_spare.true)

pub returns-then-r-eq0 : goal.returns-then-r-eq0
returns-then-r-eq0 c = λ z. bools.clash z refl

pub returns-then-not-is_optional : goal.returns-then-not-is_optional
returns-then-not-is_optional c = λ z. bools.clash z refl

pub body-q-requires : goal.body-q-requires
body-q-requires c = walks.clause_whole c.requires.0 c.requires.1

pub tag_of-requires : goal.tag_of-requires
tag_of-requires c = rw c.body-q.ensures (omega (arith, parts.whole_le _ (leaves.stored_whole (walks.clause_stored c.requires.0 c.requires.1))))

pub returns-then-tag_of-ne-TERM_TAG : goal.returns-then-tag_of-ne-TERM_TAG
returns-then-tag_of-ne-TERM_TAG c = λ z. bools.clash z refl

pub term_missing-requires : goal.term_missing-requires
term_missing-requires c = (record { stored = rw c.body-q.ensures (walks.clause_stored c.requires.0 c.requires.1); tag = sym c.tag_of.ensures ∙ c.if-tag_of-ne-TERM_TAG.false }, c.requires.2)

pub returns : goal.returns
returns c = λ z. walks.idle_missing (each entry_of c.args.r.now.entries.now) c.requires.1 c.tag_of-kind.ensures (bools.told_yes c.is_optional.ensures c.if-not-is_optional.false-raw) (rw c.body-q.ensures at (c.term_missing.ensures z))
