-- `texts::ends_term` meets its contract, by the table's flag. Assumes nothing.
use Rattle.texts.proofs.Flags.{end_is}
use mathlib.Core.Path.{sym}
use Rattle.texts.proofs.ends_term.Goals as goal

pub returns : goal.returns
returns c = sym (end_is c.args.c c.requires c.ascii_class.ensures)
