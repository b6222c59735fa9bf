use Rattle.lists.proofs.Lister as lister
use Rattle.lists.proofs.quick_end.Goals as goal

pub returns-then-is_entry : goal.returns-then-is_entry
returns-then-is_entry c = lister.short_entry c.args.s.now c.in_ok-p.ensures (c.is_entry.ensures c.if-is_entry.true)
