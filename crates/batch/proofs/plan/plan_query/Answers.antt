use Rattle.batch.proofs.plan.plan_query.Goals as goal

pub say-said-requires : goal.say-said-requires
say-said-requires c = c.requires.0

pub push-requires : goal.push-requires
push-requires c = c.requires.1

pub returns : goal.returns
returns c = record { wanted = _; said = c.say-said.result; saying = c.say-said.ensures; pushed = c.push.ensures }
