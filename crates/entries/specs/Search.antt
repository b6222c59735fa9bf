-- What a test of an entry is asked for, and what it says.
use Rattle.std.specs.Prelude.{◌≡◌, List, ℕ, Bool, true}
use Rattle.std.specs.Borrow.{Bor}
use Rattle.rules.specs.Lists.{Entry, is_entry, entry_of}

-- by what may be asked: the test takes each entry
abbrev pub Takes : (Bor (List ℕ) → Type 0) → Type 0
Takes pre = (e : Bor (List ℕ)) → is_entry e.now ≡ true → pre e

-- by what may be answered: the test says of each entry what P does
abbrev pub Tests : (Bor (List ℕ) → Bool → Type 0) → (Entry → Bool) → Type 0
Tests post P = (e : Bor (List ℕ)) (r : Bool) → is_entry e.now ≡ true → post e r → r ≡ P (entry_of e.now)
