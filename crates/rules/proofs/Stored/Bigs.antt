-- Numbers of any width, big-endian: what is written is read, and what is read is written. Section 'Stored form'.
use mathlib.Core.Path.{◌≡◌, refl, sym, ap, ◌∙◌}
use Prim.Native.Nat.{ℕ, zero, suc, ◌+◌, ◌*◌, ◌/◌, ◌%◌, ◌^◌, ◌<◌}
use mathlib.Core.List.{List, [], ◌∷◌, ◌++◌, append-nil}
use native.Mathlib.Omega.{arith}
use native.Mathlib.Nat.{div-lt_iff_lt-mul, pow-suc, pow-succ', mul_assoc, one-mul, zero-mul, zero-add, add-zero}
use native.Mathlib.Numerals.{add-one}
use lib.Arith.{digits_div, digits_mod}
use lib.ListN.{length, get_or, length-append}
use lib.Seq.{get_or_at, append_snoc}
use Rattle.rules.specs.Bytes.{Bytes, onto, of_big, big_onto, big}

-- ---- written, then read

-- what stands above the k bytes is the number that the reading starts from
onto_big : (k h n : ℕ) (s : List ℕ) → n < 256 ^ k → onto h (big_onto k n s) ≡ onto (h * 256 ^ k + n) s
onto_big zero h n s l = let e : h ≡ h * 1 + n = omega arith in ap (λ (x : ℕ). onto x s) e
onto_big (suc k) h n s l =
    let b : n / 256 < 256 ^ k = (div-lt_iff_lt-mul {k = 256} {x = n} {y = 256 ^ k} (omega arith)).1 (rw pow-suc at l) in
    let e : (h * 256 ^ k + n / 256) * 256 + n % 256 ≡ h * 256 ^ suc k + n = rw (pow-suc, ← mul_assoc) (omega arith) in
    onto_big k h (n / 256) (n % 256 ∷ s) b ∙ ap (λ (x : ℕ). onto x s) e

pub read_big : (k n : ℕ) → n < 256 ^ k → of_big (big k n) ≡ n
read_big k n l = onto_big k 0 n [] l ∙ rw (zero-mul, zero-add)

length_onto : (k n : ℕ) (s : List ℕ) → length (big_onto k n s) ≡ k + length s
length_onto zero n s = sym (zero-add (length s))
length_onto (suc k) n s = length_onto k (n / 256) (n % 256 ∷ s) ∙ omega arith

pub length_big : (k n : ℕ) → length (big k n) ≡ k
length_big k n = length_onto k n [] ∙ add-zero k

bytes_onto : (k n : ℕ) (s : List ℕ) → Bytes s → Bytes (big_onto k n s)
bytes_onto zero n s B = B
bytes_onto (suc k) n s B = bytes_onto k (n / 256) (n % 256 ∷ s) next
  where
    next : Bytes (n % 256 ∷ s)
    next zero = omega arith
    next (suc i) = B i

pub bytes_big : (k n : ℕ) → Bytes (big k n)
bytes_big k n = bytes_onto k n [] (λ i. omega arith)

-- ---- read, then written

-- bytes and one byte more
onto_last : (s : List ℕ) (x h : ℕ) → onto h (s ++ (x ∷ [])) ≡ onto h s * 256 + x
onto_last [] x h = refl
onto_last (y ∷ s) x h = onto_last s x (h * 256 + y)

-- a list, taken apart from its end
data Ends : List ℕ → Type 0 where
  start : Ends []
  last : (s : List ℕ) (x : ℕ) → Ends s → Ends (s ++ (x ∷ []))

push : (y : ℕ) (s : List ℕ) → Ends s → Ends (y ∷ s)
push y s start = last [] y start
push y s (last t x e) = last (y ∷ t) x (push y t e)

ends : (s : List ℕ) → Ends s
ends [] = start
ends (y ∷ s) = push y s (ends s)

step : (k n x : ℕ) (r : List ℕ) → x < 256 → big_onto (suc k) (n * 256 + x) r ≡ big_onto k n (x ∷ r)
step k n x r h = rw (digits_div n h, digits_mod n h)

front : (t : List ℕ) (x i : ℕ) → Bytes (t ++ (x ∷ [])) → get_or t i 0 < 256
front [] x i B = omega arith
front (y ∷ t) x zero B = B 0
front (y ∷ t) x (suc i) B = front t x i (λ j. B (suc j))

big_ends : {s : List ℕ} → Ends s → (r : List ℕ) (h : ℕ) → Bytes s → big_onto (length s) (onto h s) r ≡ s ++ r
big_ends start r h B = refl
big_ends (last t x e) r h B =
    let x< : x < 256 = (rw (get_or_at t x [] 0 (length t) refl) at (B (length t))) in
    let n : length (t ++ (x ∷ [])) ≡ suc (length t) = length-append t (x ∷ []) ∙ add-one (length t) in
    rw (n, onto_last t x h) (step (length t) (onto h t) x r x< ∙ big_ends e (x ∷ r) h (λ i. front t x i B) ∙ sym (append_snoc t x r))

pub write_big : (k : ℕ) (s : List ℕ) → Bytes s → length s ≡ k → big k (of_big s) ≡ s
write_big k s B e = rw (← e) (big_ends (ends s) [] 0 B ∙ append-nil s)

-- bytes are below the power of their number
onto_below : (s : List ℕ) (h m : ℕ) → h < m → Bytes s → onto h s < m * 256 ^ length s
onto_below [] h m l B = let e : h < m * 1 = omega arith in e
onto_below (x ∷ s) h m l B =
    let x< : x < 256 = B 0 in
    let k : h * 256 + x < m * 256 = omega arith in
    rw (pow-succ', ← mul_assoc) (onto_below s (h * 256 + x) (m * 256) k (λ i. B (suc i)))

pub below_big : (k : ℕ) (s : List ℕ) → Bytes s → length s ≡ k → of_big s < 256 ^ k
below_big k s B e = rw (← e) (rw one-mul at (onto_below s 0 1 (omega arith) B))
