use Rattle.entries.specs.Entry.{numbers}
use Rattle.rules.specs.Matching.{is_inside, has_range}
use Rattle.rules.specs.Reading.{bound_of}
use Rattle.std.proofs.Common.{rules}
use Rattle.matching.proofs.range.Range.is_in.Goals as goal

pub returns : goal.returns
unfolding has_range
returns c = c.any_entry.ensures (is_inside (numbers c.args.self.now.float) c.args.self.now.field.now (bound_of c.args.self.now.lower.now) (bound_of c.args.self.now.upper.now)) (λ e r h k. search rules)
