-- An answer in one number: the refusal's above 32 bits, and the count.
use Rattle.std.specs.Prelude.{◌≡◌, ℕ, ◌+◌, ◌*◌, List, length}
use Rattle.rules.specs.Answers.{Answer, selected}
use Rattle.selection.specs.Select.{within, answer_of, rows_after, told}

abbrev pub packed : Answer → ℕ
packed a = a.refusal * 4294967296 + a.count

pub record SelectsRows (s l before after : List ℕ) (r : ℕ) : Type 0 where
  pub answer : r ≡ packed (told (answer_of (within (length before) (selected s l))))
  pub rows : after ≡ rows_after (within (length before) (selected s l)) before
