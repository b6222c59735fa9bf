-- `wanted::any_called` meets its contract.
use Rattle.entries.specs.Slots.{hash_of}
use Rattle.std.proofs.Common.{rules}
use Rattle.wanted.specs.Marks.{is_marked}
use Rattle.wanted.specs.Wanted.{calls_by}
use Rattle.wanted.proofs.any_called.Goals as goal

pub returns : goal.returns
returns c = c.any_entry.ensures (calls_by hash_of (is_marked c.args.wanted.now) (λ f. c.args.ranges)) (λ e r h k. search rules)
