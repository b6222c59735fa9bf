-- `words::is_bridge` meets its contract: what joins nothing, the last byte, and three bytes by their classes. Assumes nothing.
use Rattle.analysis.proofs.Bridges.{told_none, told_last, told_bridge}
use Rattle.analysis.proofs.words.is_bridge.Goals as goal

pub returns-then-mid-eq0 : goal.returns-then-mid-eq0
returns-then-mid-eq0 c = told_none _ _ c.requires.0 c.requires.1 c.class_of-mid.ensures c.if-mid-eq0.true

pub returns-then-text-i-lt2 : goal.returns-then-text-i-lt2
returns-then-text-i-lt2 c = told_last _ _ c.if-text-i-lt2.true c.requires.1

pub returns : goal.returns
returns c = told_bridge _ _ c.requires.0 c.if-text-i-lt2.false c.class_of-mid.ensures c.class_of-before.ensures c.class_of-behind.ensures c.joins.ensures
