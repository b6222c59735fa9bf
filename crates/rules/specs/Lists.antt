-- Catalogue lists: records of entries. Section 'Matching and selection'.
use Rattle.std.specs.Prelude.{ℕ, List, Bool, ◌&&◌, ◌||◌, cond, length, take, drop, leb, eqb}
use Rattle.rules.specs.Numbers.{Read, got, need, long_list, malformed_list, list_most, record_tag, place_tag, whole_tag, float_tag, value_tag}
use Rattle.rules.specs.Bytes.{of_big, is_empty, tag_of, body_of, rest_of, is_part, is_field_part, every, each}
use Rattle.rules.specs.Query.{Numbers, whole, float}
use Rattle.rules.specs.Reading.{is_word}

-- a field with a position and a text, or with the 64 bits of a number
pub data Entry : Type 0 where
  place : List ℕ → ℕ → List ℕ → Entry
  value : Numbers → List ℕ → ℕ → Entry

-- ---- soundness

-- a part 14
abbrev pub is_value : List ℕ → Bool
is_value s = is_part value_tag s && eqb (length (body_of s)) 8

-- a field, one part that P is true of, and nothing more
abbrev pub is_field_with : (List ℕ → Bool) → List ℕ → Bool
is_field_with P b = is_field_part b && (P (rest_of b) && is_empty (rest_of (rest_of b)))

-- a part 41, 44 or 45
unfoldable pub is_entry : List ℕ → Bool
is_entry s =
    (is_part place_tag s && is_field_with is_word (body_of s))
    || ((is_part whole_tag s || is_part float_tag s) && is_field_with is_value (body_of s))

-- a part 40
unfoldable pub is_record : List ℕ → Bool
is_record s = is_part record_tag s && every is_entry (body_of s)

-- ---- what they hold

unfoldable pub entry_of : List ℕ → Entry
entry_of s =
    let f = body_of (body_of s) in
    let b = body_of (rest_of (body_of s)) in
    cond (eqb (tag_of s) place_tag) (place f (of_big (take 4 b)) (drop 4 b))
    (cond (eqb (tag_of s) whole_tag) (value whole f (of_big b)) (value float f (of_big b)))

unfoldable pub record_of : List ℕ → List Entry
record_of s = each entry_of (body_of s)

-- 22, 23
unfoldable pub read_list : List ℕ → Read (List (List Entry))
read_list s =
    let records = need (every is_record s) malformed_list (got (each record_of s)) in
    need (leb (length s) list_most) long_list records
