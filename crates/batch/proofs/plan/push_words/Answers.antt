use Rattle.batch.proofs.Planning as planning
use Rattle.std.proofs.Common.{rules}
use Rattle.batch.proofs.plan.push_words.Goals as goal

pub loop-i-init : goal.loop-i-init
loop-i-init c = planning.going_start (search rules)
