-- `texts::is_letter` meets its contract, by the table's flag. Assumes nothing.
use Rattle.texts.proofs.Flags.{letter_is}
use mathlib.Core.Path.{sym}
use Rattle.texts.proofs.is_letter.Goals as goal

pub returns : goal.returns
returns c = sym (letter_is c.args.c c.requires c.ascii_class.ensures)
