-- `matching::range::range_true` meets its contract.
use Rattle.entries.specs.Entry.{numbers}
use Rattle.matching.proofs.Leaves as leaves
use Rattle.rules.specs.Bytes.{body_of, rest_of, each}
use Rattle.rules.specs.Lists.{entry_of}
use mathlib.Core.Path.{ap, ◌∙◌}
use Rattle.matching.proofs.range.range_true.Goals as goal

pub body-b-requires : goal.body-b-requires
body-b-requires c = leaves.stored_whole c.requires.stored

pub rest-lower-requires : goal.rest-lower-requires
rest-lower-requires c = rw c.body-b.ensures (leaves.range_front (numbers c.args.float) _ c.requires)

pub body-requires : goal.body-requires
body-requires c = rw c.body-b.ensures (leaves.range_front (numbers c.args.float) _ c.requires)

pub rest-requires : goal.rest-requires
rest-requires c = rw (c.rest-lower.ensures, c.body-b.ensures) (leaves.bound_whole _ (leaves.range_lower (numbers c.args.float) _ c.requires))

pub invariant_of-range : goal.invariant_of-range
invariant_of-range c = record {
  from = rw (c.rest-lower.ensures, c.body-b.ensures) (leaves.range_lower (numbers c.args.float) _ c.requires);
  to = rw (c.rest.ensures, c.rest-lower.ensures, c.body-b.ensures) (leaves.range_upper (numbers c.args.float) _ c.requires);
}

pub returns : goal.returns
returns c = leaves.range_says (numbers c.args.float) c.args.q.now c.requires (each entry_of c.args.r.now.entries.now) _ (c.body.ensures ∙ ap body_of c.body-b.ensures) (c.rest-lower.ensures ∙ ap rest_of c.body-b.ensures) (c.rest.ensures ∙ ap rest_of (c.rest-lower.ensures ∙ ap rest_of c.body-b.ensures)) c.is_in.ensures
