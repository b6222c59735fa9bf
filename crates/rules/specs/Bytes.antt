-- Bytes and parts: numbers as bytes, texts, and a part, which is a tag, a length of two bytes and a body. Section 'Stored form'.
use Rattle.std.specs.Prelude.{ℕ, zero, suc, ◌+◌, ◌*◌, ◌/◌, ◌%◌, ◌<◌, List, [], ◌∷◌, Bool, true, false, ◌&&◌, ◌||◌, cond, length, get_or, take, drop, leb, eqb}
use Prim.Native.Char.{code}
use Prim.Native.String.{String, [] as «[]ˢ», ◌∷◌ as ◌∷ˢ◌}
use Rattle.rules.specs.Numbers.{field_most, field_tag}

-- a list of bytes, as a slice's elements are
abbrev pub Bytes : List ℕ → Type 0
Bytes s = (i : ℕ) → get_or s i 0 < 256

-- a byte by a range, and by its kind
abbrev pub between : ℕ → ℕ → ℕ → Bool
between a b c = leb a c && leb c b

abbrev pub is_capital : ℕ → Bool
is_capital c = between 0x41 0x5a c

abbrev pub is_letter : ℕ → Bool
is_letter c = is_capital c || between 0x61 0x7a c

abbrev pub is_digit : ℕ → Bool
is_digit c = between 0x30 0x39 c

-- the bytes of a quoted text
unfoldable pub ascii : String → List ℕ
ascii «[]ˢ» = []
ascii (c ∷ˢ s) = code c ∷ ascii s

unfoldable pub same : List ℕ → List ℕ → Bool
same [] [] = true
same [] (y ∷ t) = false
same (x ∷ s) [] = false
same (x ∷ s) (y ∷ t) = eqb x y && same s t

abbrev pub is_empty : {A : Type 0} → List A → Bool
is_empty [] = true
is_empty (x ∷ s) = false

-- ---- numbers, big-endian

-- a, and then the bytes of s
abbrev pub onto : ℕ → List ℕ → ℕ
onto a [] = a
onto a (x ∷ s) = onto (a * 256 + x) s

abbrev pub of_big : List ℕ → ℕ
of_big s = onto 0 s

-- the last k bytes of n, before s
abbrev pub big_onto : ℕ → ℕ → List ℕ → List ℕ
big_onto zero n s = s
big_onto (suc k) n s = big_onto k (n / 256) (n % 256 ∷ s)

-- n in k bytes
abbrev pub big : ℕ → ℕ → List ℕ
big k n = big_onto k n []

-- ---- texts and fields: ASCII, a field of at most 32 bytes

unfoldable pub is_text : List ℕ → Bool
is_text [] = true
is_text (x ∷ s) = leb x 0x7f && is_text s

abbrev pub is_field : List ℕ → Bool
is_field s = leb (length s) field_most && is_text s

-- ---- parts

abbrev pub part : ℕ → List ℕ → List ℕ
part t b = t ∷ length b / 256 ∷ length b % 256 ∷ b

-- the part at the front of s: its tag, the length it states, its body, what follows it
abbrev pub tag_of : List ℕ → ℕ
tag_of s = get_or s 0 0

abbrev pub size_of : List ℕ → ℕ
size_of s = get_or s 1 0 * 256 + get_or s 2 0

unfoldable pub body_of : List ℕ → List ℕ
body_of s = take (size_of s) (drop 3 s)

unfoldable pub rest_of : List ℕ → List ℕ
rest_of s = drop (size_of s) (drop 3 s)

-- three bytes are there, and the length lies within what is around it
unfoldable pub whole_of : List ℕ → Bool
whole_of s = leb (3 + size_of s) (length s)

abbrev pub is_part : ℕ → List ℕ → Bool
is_part t s = whole_of s && eqb (tag_of s) t

-- a part with a field in it
abbrev pub is_field_part : List ℕ → Bool
is_field_part s = is_part field_tag s && is_field (body_of s)

-- ---- rows of parts

-- P is true of the part at the front and of each that follows, and the last of them ends s; n bounds their number
unfoldable pub every_in : (List ℕ → Bool) → ℕ → List ℕ → Bool
every_in P zero s = is_empty s
every_in P (suc n) s = let more = P s && every_in P n (rest_of s) in cond (is_empty s) true more

abbrev pub every : (List ℕ → Bool) → List ℕ → Bool
every P s = every_in P (length s) s

-- what g reads at each of them
unfoldable pub each_in : {A : Type 0} → (List ℕ → A) → ℕ → List ℕ → List A
each_in g zero s = []
each_in g (suc n) s = let more = g s ∷ each_in g n (rest_of s) in cond (is_empty s) [] more

abbrev pub each : {A : Type 0} → (List ℕ → A) → List ℕ → List A
each g s = each_in g (length s) s

-- P is true of some element, and of all
unfoldable pub some : {A : Type 0} → (A → Bool) → List A → Bool
some P [] = false
some P (x ∷ xs) = P x || some P xs

unfoldable pub all : {A : Type 0} → (A → Bool) → List A → Bool
all P [] = true
all P (x ∷ xs) = P x && all P xs

-- the elements that P is true of
unfoldable pub those : {A : Type 0} → (A → Bool) → List A → List A
those P [] = []
those P (x ∷ xs) = let more = those P xs in cond (P x) (x ∷ more) more
