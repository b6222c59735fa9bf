-- `stops::is_stop_key` meets its contract, by the table. Assumes nothing.
use Rattle.analysis.proofs.Packing.{some_any}
use Rattle.analysis.specs.Stops.{packed, stop_keys}
use Rattle.analysis.specs.declared.stops.TheConstants.{STOP_KEYS}
use Rattle.rules.specs.Bytes.{ascii}
use Rattle.rules.specs.Words.{stop_words}
use mathlib.Core.Path.{◌∙◌}
use Rattle.analysis.proofs.stops.is_stop_key.Goals as goal

pub returns : goal.returns
unfolding stop_keys stop_words packed ascii
returns c = c.contains.ensures.value ∙ some_any c.args.key STOP_KEYS
