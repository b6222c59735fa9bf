-- Boost numerals, over whole numbers. Section 'Lexing and parsing', from 'Boost numerals'.
use Rattle.std.specs.Prelude.{◌≡◌, ◌⊎◌, ℕ, suc, ◌+◌, ◌-◌, ◌*◌, ◌/◌, ◌%◌, ◌^◌, ◌<◌, ◌≤◌, List, [], ◌∷◌, Bool, false, not, ◌||◌, cond, length, leb, ltb, eqb}
use Rattle.std.specs.Float.{binary32}
use Rattle.std.specs.Float.Ieee.{round, to_bits}
use Rattle.rules.specs.Numbers.{Read, got, refused, need, faulty, bad_numeral, long_numeral, numeral_most}
pub use Rattle.rules.specs.Bytes.{is_digit}
use Rattle.rules.specs.Bytes.{ascii, same, is_empty}
use Rattle.rules.specs.Stored.{the_nan}
use Rattle.rules.specs.Analysis.{lowercase, front, after}

-- ---- the grammar

-- no numeral; an infinity; the NaN; or the number d * 10 ^ u / 10 ^ n
pub data Numeral : Type 0 where
  bad infinite not_number : Numeral
  decimal : ℕ → ℕ → ℕ → Numeral

-- the number that the digits of s make, after d
unfoldable pub digits_on : ℕ → List ℕ → ℕ
digits_on d [] = d
digits_on d (c ∷ s) = digits_on (d * 10 + (c - 0x30)) s

abbrev pub is_minus : List ℕ → Bool
is_minus [] = false
is_minus (c ∷ s) = eqb c 0x2d

abbrev pub after_sign : List ℕ → List ℕ
after_sign [] = []
after_sign (c ∷ s) = cond (eqb c 0x2d || eqb c 0x2b) s (c ∷ s)

-- an exponent's digits, at least one, which end the numeral; f digits stood behind the point
unfoldable pub exponent : Bool → ℕ → ℕ → List ℕ → Numeral
exponent minus d f s =
    let e = digits_on 0 s in
    cond (is_empty s || not (is_empty (after is_digit s))) bad (cond minus (decimal d 0 (f + e)) (decimal d e f))

-- what follows the digits: nothing, or `e` or `E` with an optional sign and digits
unfoldable pub after_digits : ℕ → ℕ → List ℕ → Numeral
after_digits d f [] = decimal d 0 f
after_digits d f (c ∷ s) = cond (eqb c 0x65 || eqb c 0x45) (exponent (is_minus s) d f (after_sign s)) bad

-- what follows the first digits, of which there are some: perhaps a point and further digits; at least one digit in all
unfoldable pub after_whole : Bool → ℕ → List ℕ → Numeral
after_whole some d [] = cond some (after_digits d 0 []) bad
after_whole some d (c ∷ s) =
    let f = front is_digit s in
    let pointed = cond (some || not (is_empty f)) (after_digits (digits_on d f) (length f) (after is_digit s)) bad in
    let plain = cond some (after_digits d 0 (c ∷ s)) bad in
    cond (eqb c 0x2e) pointed plain

unfoldable pub unsigned : List ℕ → Numeral
unsigned s =
    let w = front is_digit s in
    let digits = after_whole (not (is_empty w)) (digits_on 0 w) (after is_digit s) in
    let l = lowercase s in
    cond (same l (ascii "inf") || same l (ascii "infinity")) infinite (cond (same l (ascii "nan")) not_number digits)

-- ---- the nearest 32-bit float

-- The size of a pattern with no sign, in units of 2 ^ -149. The infinity's pattern counts as the first size that is too large, 2 ^ 128.
abbrev pub infinity : ℕ
infinity = 0x7f80_0000

unfoldable pub significand : ℕ → ℕ
significand p = cond (ltb p (2 ^ 23)) p (2 ^ 23 + p % 2 ^ 23)

unfoldable pub units_of : ℕ → ℕ
units_of p = significand p * 2 ^ (p / 2 ^ 23 - 1)

-- x / den, in half units, is past the middle between the patterns p and p + 1; the middle itself belongs to the even significand
abbrev pub Past : ℕ → ℕ → ℕ → Type 0
Past x den p = ((units_of p + units_of (suc p)) * den < x) ⊎ (((units_of p + units_of (suc p)) * den ≡ x) × (p % 2 ≡ 1))

-- p is nearest to num / den: past the middle below it, and not past the middle above it. There are 2 ^ 150 half units in 1.
pub record Nearest (num den p : ℕ) : Type 0 where
  pub within : p ≤ infinity
  pub low : (j : ℕ) → suc j ≡ p → Past (num * 2 ^ 150) den j
  pub high : p < infinity → Past (num * 2 ^ 150) den p → ⊥

-- the same, computed: proofs/Nearest.antt shows that this pattern and no other is nearest
unfoldable pub nearest : ℕ → ℕ → ℕ
nearest num den = to_bits binary32 (round binary32 false num den)

-- ---- the answer

abbrev pub signed : Bool → ℕ → ℕ
signed minus p = cond minus (2 ^ 31) 0 + p

-- the one NaN has no sign
abbrev pub bits_of : Bool → Numeral → Read ℕ
bits_of minus bad = refused (faulty bad_numeral 0)
bits_of minus infinite = got (signed minus infinity)
bits_of minus not_number = got the_nan
bits_of minus (decimal d u n) = got (signed minus (nearest (d * 10 ^ u) (10 ^ n)))

-- 17 before 13; both at the numeral's own start
unfoldable pub numeral_bits : List ℕ → Read ℕ
numeral_bits s =
    let bits = bits_of (is_minus s) (unsigned (after_sign s)) in
    need (leb (length s) numeral_most) (faulty long_numeral 0) bits
