-- Stop words as numbers: a word and its number are one, and a longer word is none of them. Assumes nothing.
use mathlib.Core.Path.{◌≡◌, refl, sym, ap, ap₂, ◌∙◌}
use mathlib.Core.Bool.{Bool, true, false, ◌&&◌, ◌||◌}
use mathlib.Core.List.{List, [], ◌∷◌, map}
use Prim.Native.Nat.{ℕ, zero, suc, ◌+◌, ◌*◌, ◌-◌, ◌≤◌, ◌<◌}
use native.Mathlib.Omega.{arith}
use lib.Dec.{leb, ltb, eqb}
use lib.ListN.{length, get_or, drop, length-drop, length-map}
use lib.Seq.{drop-cons, get_or-drop}
use borrow.Author.Tests.{eq-eqb, ne_eqb, eqb-true, leb-true, ltb-true, lt-ltb}
use Rattle.rules.specs.Bytes.{ascii, same, some, all}
use Rattle.rules.specs.Words.{stop_words, is_stop_word}
use Rattle.rules.specs.Analysis.{is_capital, lower, lowercase, is_left_out}
use Rattle.rules.proofs.Bools.{alike, both, and_l, and_r, fails, clash}
use Rattle.rules.proofs.Text.Pieces.{by_test, all_cons, all_one, all_nil}
use Rattle.std.specs.List.{list_any}
use Rattle.analysis.specs.Tokens.{spelled}
use Rattle.analysis.specs.Stops.{packed, stop_keys}

-- ---- a number for each word

abbrev byte : ℕ → Bool
byte c = ltb c 256

packed_least : (t : List ℕ) → 1 ≤ packed t
unfolding packed
packed_least [] = omega arith
packed_least (c ∷ t) = omega (arith, packed_least t)

packed_same : (s t : List ℕ) → all byte s ≡ true → all byte t ≡ true → eqb (packed s) (packed t) ≡ same s t
unfolding packed same
packed_same [] [] h k = refl
packed_same [] (y ∷ t) h k = ne_eqb 1 (packed t * 256 + y) (λ e. omega (arith, packed_least t))
packed_same (x ∷ s) [] h k = ne_eqb (packed s * 256 + x) 1 (λ e. omega (arith, packed_least s))
packed_same (x ∷ s) (y ∷ t) h k =
    let a = all_one byte x s h in
    let b = all_one byte y t k in
    let m = ltb-true x 256 a.0 in
    let n = ltb-true y 256 b.0 in
    let r = packed_same s t a.1 b.1 in
    alike (eqb (packed s * 256 + x) (packed t * 256 + y)) (eqb x y && same s t)
    (λ e.
    let z = eqb-true (packed s * 256 + x) (packed t * 256 + y) e in
    both (eq-eqb x y (omega arith)) (sym r ∙ eq-eqb (packed s) (packed t) (omega arith)))
    (λ e.
    let u = eqb-true x y (and_l (eqb x y) (same s t) e) in
    let v = eqb-true (packed s) (packed t) (r ∙ and_r (eqb x y) (same s t) e) in
    eq-eqb (packed s * 256 + x) (packed t * 256 + y) (omega arith))

keys_same : (t : List ℕ) → all byte t ≡ true → (ws : List (List ℕ)) → all (all byte) ws ≡ true → some (eqb (packed t)) (map packed ws) ≡ some (same t) ws
unfolding some
keys_same t h [] k = refl
keys_same t h (w ∷ ws) k = let p = all_one (all byte) w ws k in ap₂ ◌||◌ (packed_same t w h p.0) (keys_same t h ws p.1)

stops_bytes : all (all byte) stop_words ≡ true
unfolding all stop_words ascii
stops_bytes = refl

pub stop_told : (t : List ℕ) → all byte t ≡ true → some (eqb (packed t)) stop_keys ≡ is_stop_word t
unfolding stop_keys is_stop_word
stop_told t h = keys_same t h stop_words stops_bytes

-- ---- none is longer than five bytes

same_length : (s t : List ℕ) → same s t ≡ true → length s ≡ length t
unfolding same
same_length [] [] e = refl
same_length [] (y ∷ t) e = clash e refl
same_length (x ∷ s) [] e = clash e refl
same_length (x ∷ s) (y ∷ t) e = ap suc (same_length s t (and_r (eqb x y) (same s t) e))

long_none : (t : List ℕ) → 5 < length t → (ws : List (List ℕ)) → all (λ w. leb (length w) 5) ws ≡ true → some (same t) ws ≡ false
unfolding some
long_none t h [] k = refl
long_none t h (w ∷ ws) k =
    let p = all_one (λ w. leb (length w) 5) w ws k in
    rw (fails (same t w) (λ e. omega (arith, same_length t w e, leb-true (length w) 5 p.0))) (long_none t h ws p.1)

stops_short : all (λ w. leb (length w) 5) stop_words ≡ true
unfolding all stop_words ascii
stops_short = refl

pub stop_short : (t : List ℕ) → 5 < length t → is_stop_word t ≡ false
unfolding is_stop_word
stop_short t h = long_none t h stop_words stops_short

-- ---- a byte at a time, from the last

pub lower_byte : (c : ℕ) → c < 256 → lower c < 256
lower_byte c h =
    by_test (is_capital c) (λ e. let p = leb-true c 0x5a (and_r (leb 0x41 c) (leb c 0x5a) e) in rw e (omega arith)) (λ e. rw e h)

pub lowercase_bytes : (t : List ℕ) → ((i : ℕ) → get_or t i 0 < 256) → all byte (lowercase t) ≡ true
lowercase_bytes [] f = all_nil byte
lowercase_bytes (c ∷ t) f = all_cons byte (lower c) (lowercase t) (lt-ltb (lower c) 256 (lower_byte c (f 0))) (lowercase_bytes t (λ i. f (suc i)))

pub packed_end : (t : List ℕ) → 1 ≡ packed (lowercase (drop (length t) t))
unfolding packed
packed_end [] = refl
packed_end (c ∷ t) = packed_end t

pub packed_on : (t : List ℕ) (i : ℕ) → i < length t → packed (lowercase (drop i t)) ≡ packed (lowercase (drop (suc i) t)) * 256 + lower (get_or t i 0)
unfolding packed
packed_on t i h = ap (λ (u : List ℕ). packed (lowercase u)) (drop-cons t i 0 h)

-- how large it can be
abbrev cap : ℕ → ℕ
cap zero = 2
cap (suc n) = cap n * 256

pub cap_most : (n : ℕ) → n ≤ 4 → cap n ≤ 8589934592
cap_most zero h = omega arith
cap_most (suc zero) h = omega arith
cap_most (suc (suc zero)) h = omega arith
cap_most (suc (suc (suc zero))) h = omega arith
cap_most (suc (suc (suc (suc zero)))) h = omega arith
cap_most (suc (suc (suc (suc (suc n))))) h = absurd (omega arith)

packed_cap : (t : List ℕ) → ((i : ℕ) → get_or t i 0 < 256) → packed (lowercase t) < cap (length t)
unfolding packed
packed_cap [] f = omega arith
packed_cap (c ∷ t) f = omega (arith, packed_cap t (λ i. f (suc i)), lower_byte c (f 0))

-- ---- as the code asks

pub key_most : (t : List ℕ) (i : ℕ) → ((j : ℕ) → get_or t j 0 < 256) → 0 < i → length t ≤ 5 → packed (lowercase (drop i t)) < 8589934592
key_most t i f h k =
    omega (arith, packed_cap (drop i t) (λ j. rw get_or-drop (f (i + j))), cap_most (length (drop i t)) (rw length-drop (omega arith)))

pub key_turn : (t : List ℕ) (i : ℕ) → 0 < i → i ≤ length t → {k l : ℕ} → k ≡ packed (lowercase (drop i t)) → l ≡ lower (get_or t (i - 1) 0) → k * 256 + l ≡ packed (lowercase (drop (i - 1) t))
key_turn t zero h m e f = absurd (omega arith)
key_turn t (suc i) h m e f =
    let u : suc i - 1 ≡ i = omega arith in
    rw (u, packed_on t i m, e, f ∙ ap (λ (j : ℕ). lower (get_or t j 0)) u)

pub key_end : (t : List ℕ) (i : ℕ) → i ≤ 0 → {k : ℕ} → k ≡ packed (lowercase (drop i t)) → k ≡ packed (lowercase t)
key_end t zero h e = e
key_end t (suc i) h e = absurd (omega arith)

-- as `contains` looks for it
eqb_turned : (k l : ℕ) → eqb k l ≡ eqb l k
eqb_turned k l = alike (eqb k l) (eqb l k) (λ e. eq-eqb l k (sym (eqb-true k l e))) (λ e. eq-eqb k l (sym (eqb-true l k e)))

pub some_any : (key : ℕ) (keys : List ℕ) → list_any (λ k. eqb k key) keys ≡ some (eqb key) keys
unfolding some
some_any key [] = refl
some_any key (k ∷ keys) = ap₂ ◌||◌ (eqb_turned k key) (some_any key keys)

pub stop_long : (t : List ℕ) → 5 < length t → false ≡ is_stop_word (lowercase t)
stop_long t h = sym (stop_short (lowercase t) (rw length-map h))

pub stop_word_told : (t : List ℕ) → ((j : ℕ) → get_or t j 0 < 256) → {k : ℕ} {r : Bool} → k ≡ packed (lowercase t) → r ≡ some (eqb k) stop_keys → r ≡ is_stop_word (lowercase t)
stop_word_told t f e g = g ∙ ap (λ (n : ℕ). some (eqb n) stop_keys) e ∙ stop_told (lowercase t) (lowercase_bytes t f)

pub english_told : (a : ℕ) (t : List ℕ) {r : Bool} → a ≡ 5 → r ≡ is_stop_word (lowercase t) → r ≡ is_left_out a (spelled a t)
unfolding spelled
english_told a t e g = g ∙ ap (λ (b : ℕ). is_left_out b (spelled b t)) (sym e)
