-- What stands behind the field of an entry, by the entry's tag; and where an entry ends.
use Rattle.std.specs.Prelude.{◌≡◌, ℕ, ◌+◌, List, Bool, true, ◌||◌, cond, take, eqb, Option, Some, None}
use Rattle.rules.specs.Numbers.{place_tag, whole_tag, float_tag}
use Rattle.rules.specs.Bytes.{size_of, whole_of}
use Rattle.rules.specs.Reading.{is_word}
use Rattle.rules.specs.Lists.{is_value, is_field_with, is_entry}

abbrev pub is_held : ℕ → List ℕ → Bool
is_held t s = cond (eqb t place_tag) (is_word s) (is_value s)

-- b is the body of an entry with the tag t
pub record Holds (t : ℕ) (b : List ℕ) : Type 0 where
  pub tag : (eqb t place_tag || (eqb t whole_tag || eqb t float_tag)) ≡ true
  pub body : is_field_with (is_held t) b ≡ true

-- b is the part at the front of s, with its header
pub record IsFirst (s b : List ℕ) : Type 0 where
  pub whole : whole_of s ≡ true
  pub is : b ≡ take (3 + size_of s) s

-- where the entry at the front ends, if there is one
abbrev pub end_of : List ℕ → Option ℕ
end_of s = cond (is_entry s) (Some (3 + size_of s)) None
