-- Entries and records of a list, by their tags. Section 'Matching and selection'.
use mathlib.Core.Path.{◌≡◌}
use mathlib.Core.Logic.{◌⊎◌, inl, inr}
use Prim.Native.Nat.{ℕ, ◌≤◌, ◌<◌}
use mathlib.Core.List.{List}
use mathlib.Core.Bool.{Bool, true, false, ◌&&◌, and-false, or-false}
use lib.ListN.{length, take, drop}
use borrow.Author.Tests.{le-leb, lt-leb, ne_eqb}
use Rattle.rules.specs.Numbers.{record_tag, place_tag, whole_tag, float_tag, long_list, malformed_list, list_most, number}
use Rattle.rules.specs.Bytes.{of_big, is_empty, tag_of, body_of, rest_of, whole_of, is_part, is_field_part, every}
use Rattle.rules.specs.Query.{Numbers, whole, float}
use Rattle.rules.specs.Reading.{number_of, is_word}
use Rattle.rules.specs.Lists.{place, value, is_value, is_field_with, is_entry, is_record, entry_of, read_list}
use Rattle.rules.proofs.Bools.{clash, split, and_l, and_r}
use Rattle.rules.proofs.Stored.Parts.{part_is}

-- ---- the test of an entry, by its tag

abbrev pub numbers_tag : Numbers → ℕ
numbers_tag whole = whole_tag
numbers_tag float = float_tag

module _ (s : List ℕ) where
  pub entry_broken : whole_of s ≡ false → is_entry s ≡ false
  unfolding is_entry
  entry_broken w = rw (w, is_entry)

  pub place_entry : whole_of s ≡ true → tag_of s ≡ place_tag → is_entry s ≡ is_field_with is_word (body_of s)
  unfolding is_entry
  place_entry w e = rw (w, e, is_entry) (or-false (is_field_with is_word (body_of s)))

  pub value_entry : (n : Numbers) → whole_of s ≡ true → tag_of s ≡ numbers_tag n → is_entry s ≡ is_field_with is_value (body_of s)
  unfolding is_entry
  value_entry whole w e = rw (w, e, is_entry)
  value_entry float w e = rw (w, e, is_entry)

  pub no_entry : (tag_of s ≡ place_tag → ⊥) → (tag_of s ≡ whole_tag → ⊥) → (tag_of s ≡ float_tag → ⊥) → is_entry s ≡ false
  unfolding is_entry
  no_entry x y z = rw (ne_eqb (tag_of s) place_tag x, ne_eqb (tag_of s) whole_tag y, ne_eqb (tag_of s) float_tag z, is_entry) (simp and-false)

  -- ---- what passed is whole

  pub entry_whole : is_entry s ≡ true → whole_of s ≡ true
  entry_whole h = go (split (whole_of s))
    where
      go : (whole_of s ≡ true) ⊎ (whole_of s ≡ false) → whole_of s ≡ true
      go (inl w) = w
      go (inr w) = clash h (entry_broken w)

  pub record_whole : is_record s ≡ true → whole_of s ≡ true
  unfolding is_record
  record_whole h = (part_is record_tag s (and_l (is_part record_tag s) (every is_entry (body_of s)) h)).0

  pub record_entries : is_record s ≡ true → every is_entry (body_of s) ≡ true
  unfolding is_record
  record_entries h = and_r (is_part record_tag s) (every is_entry (body_of s)) h

  -- ---- what an entry holds, by its tag

  pub place_of : tag_of s ≡ place_tag → entry_of s ≡ place (body_of (body_of s)) (of_big (take 4 (body_of (rest_of (body_of s))))) (drop 4 (body_of (rest_of (body_of s))))
  unfolding entry_of
  place_of e = rw (e, entry_of)

  pub value_of : (n : Numbers) → tag_of s ≡ numbers_tag n → entry_of s ≡ value n (body_of (body_of s)) (of_big (body_of (rest_of (body_of s))))
  unfolding entry_of
  value_of whole e = rw (e, entry_of)
  value_of float e = rw (e, entry_of)

-- a field and one part that passed
pub record FieldWith (P : List ℕ → Bool) (b : List ℕ) : Type 0 where
  pub field : is_field_part b ≡ true
  pub held : P (rest_of b) ≡ true
  pub last : is_empty (rest_of (rest_of b)) ≡ true

pub field_with : (P : List ℕ → Bool) (b : List ℕ) → is_field_with P b ≡ true → FieldWith P b
field_with P b h =
    let k = and_r (is_field_part b) (P (rest_of b) && is_empty (rest_of (rest_of b))) h in
    record {
      field = and_l (is_field_part b) (P (rest_of b) && is_empty (rest_of (rest_of b))) h;
      held = and_l (P (rest_of b)) (is_empty (rest_of (rest_of b))) k;
      last = and_r (P (rest_of b)) (is_empty (rest_of (rest_of b))) k;
    }

-- ---- the reading of a list, by its number

module _ (l : List ℕ) where
  pub list_long : list_most < length l → number long_list ≡ number_of (read_list l)
  unfolding read_list
  list_long h = rw (read_list, lt-leb (length l) list_most h)

  pub list_bad : length l ≤ list_most → every is_record l ≡ false → number malformed_list ≡ number_of (read_list l)
  unfolding read_list
  list_bad h e = rw (read_list, le-leb (length l) list_most h, e)

  pub list_good : length l ≤ list_most → every is_record l ≡ true → 0 ≡ number_of (read_list l)
  unfolding read_list
  list_good h e = rw (read_list, le-leb (length l) list_most h, e)
