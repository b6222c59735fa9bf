-- Every case marked (P) holds, every place of the table of places, and the paper's example of the show program, each by one computation.
-- Assumes nothing.
use mathlib.Core.Path.{◌≡◌, refl}
use mathlib.Core.Bool.{true}
use Rattle.rules.specs.Bytes.{ascii, all}
use Rattle.rules.specs.Show.{show_text}
use Rattle.rules.specs.Computing.{computing}
use Rattle.rules.specs.Cases.{unhex, holds, table, places}

pub cases : all holds table ≡ true
unfolding computing holds table unhex
cases = refl

pub placed : all holds places ≡ true
unfolding computing holds places
placed = refl

pub shows : show_text (ascii "or note\n+a^0.5 +a^0.5")
    ≡ ascii
    "written\n0 - boolean 0\n1 must boost 3f000000\n2 - term note a\n1 must boost 3f000000\n2 - term note a\nrewritten 3\n0 - term note a\n"
unfolding computing
shows = refl
