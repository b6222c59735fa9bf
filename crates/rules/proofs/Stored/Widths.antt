-- Numbers at the front of a list, byte by byte, at each width of the stored form. Section 'Stored form'.
use mathlib.Core.Path.{◌≡◌, refl, ap, ◌∙◌}
use Prim.Native.Nat.{ℕ, ◌+◌, ◌*◌, ◌/◌, ◌%◌, ◌^◌, ◌≤◌, ◌<◌}
use mathlib.Core.List.{List, [], ◌∷◌, ◌++◌}
use native.Mathlib.Omega.{arith}
use native.Mathlib.Nat.{pow-succ', mul_assoc, add-mul}
use lib.ListN.{length, get_or, take, drop, length-drop}
use lib.Seq.{take-add, take_all, length-take-le}
use Rattle.rules.specs.Bytes.{onto, of_big, big}

-- ---- read

pub two_bytes : (s : List ℕ) → 2 ≤ length s → of_big (take 2 s) ≡ get_or s 0 0 * 256 + get_or s 1 0
two_bytes [] h = absurd (omega arith)
two_bytes (a ∷ []) h = absurd (omega arith)
two_bytes (a ∷ b ∷ s) h = omega arith

pub four_bytes : (s : List ℕ) → 4 ≤ length s
    → of_big (take 4 s) ≡ ((get_or s 0 0 * 256 + get_or s 1 0) * 256 + get_or s 2 0) * 256 + get_or s 3 0
four_bytes [] h = absurd (omega arith)
four_bytes (a ∷ []) h = absurd (omega arith)
four_bytes (a ∷ b ∷ []) h = absurd (omega arith)
four_bytes (a ∷ b ∷ c ∷ []) h = absurd (omega arith)
four_bytes (a ∷ b ∷ c ∷ d ∷ s) h = omega arith

onto_append : (s t : List ℕ) (a : ℕ) → onto a (s ++ t) ≡ onto (onto a s) t
onto_append [] t a = refl
onto_append (x ∷ s) t a = onto_append s t (a * 256 + x)

-- what the reading starts from stands above the bytes
onto_from : (t : List ℕ) (a : ℕ) → onto a t ≡ a * 256 ^ length t + of_big t
onto_from [] a = let e : a ≡ a * 1 + 0 = omega arith in e
onto_from (x ∷ t) a =
    let p = 256 ^ length t in
    let z : 0 * 256 + x ≡ x = omega arith in
    let l : onto (a * 256 + x) t ≡ (a * 256 + x) * p + of_big t = onto_from t (a * 256 + x) in
    let r : onto x t ≡ x * p + of_big t = onto_from t x in
    let d : (a * 256 + x) * p ≡ a * (256 * p) + x * p = add-mul (a * 256) x p ∙ ap (λ (k : ℕ). k + x * p) (mul_assoc a 256 p) in
    rw (pow-succ', z) (omega (arith, l, r, d))

-- a number in two halves of four bytes
pub eight_bytes : (s : List ℕ) → 8 ≤ length s → of_big (take 8 s) ≡ of_big (take 4 s) * 4294967296 + of_big (take 4 (drop 4 s))
eight_bytes s h =
    let l : length (take 4 (drop 4 s)) ≡ 4 = length-take-le 4 (drop 4 s) (simp length-drop (omega arith)) in
    ap of_big (take-add 4 4 s) ∙ onto_append (take 4 s) (take 4 (drop 4 s)) 0 ∙ onto_from (take 4 (drop 4 s)) (of_big (take 4 s)) ∙ rw l

-- where there are no more bytes than the number has
pub all_bytes : (k : ℕ) (s : List ℕ) → length s ≡ k → of_big (take k s) ≡ of_big s
all_bytes k s e = ap of_big (take_all k s (omega arith))

-- ---- written

pub big_two : (n : ℕ) → n < 65536 → big 2 n ≡ n / 256 ∷ n % 256 ∷ []
big_two n h = let e : n / 256 % 256 ≡ n / 256 = omega arith in rw e

pub big_four : (n : ℕ) → n < 4294967296 → big 4 n ≡ n / 16777216 ∷ n / 65536 % 256 ∷ n / 256 % 256 ∷ n % 256 ∷ []
big_four n h =
    let e : n / 256 / 256 / 256 % 256 ≡ n / 16777216 = omega arith in
    let f : n / 256 / 256 % 256 ≡ n / 65536 % 256 = omega arith in
    rw (e, f)

-- in two halves of four bytes
pub big_eight : (n : ℕ) → n < 18446744073709551616 → big 8 n ≡ big 4 (n / 4294967296) ++ big 4 (n % 4294967296)
big_eight n h =
    let a : n / 256 / 256 / 256 / 256 ≡ n / 4294967296 = omega arith in
    let b : n % 4294967296 / 256 / 256 / 256 % 256 ≡ n / 256 / 256 / 256 % 256 = omega arith in
    let c : n % 4294967296 / 256 / 256 % 256 ≡ n / 256 / 256 % 256 = omega arith in
    let d : n % 4294967296 / 256 % 256 ≡ n / 256 % 256 = omega arith in
    let e : n % 4294967296 % 256 ≡ n % 256 = omega arith in
    rw (a, b, c, d, e)
