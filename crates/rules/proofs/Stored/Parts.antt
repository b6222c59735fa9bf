-- Parts: what is written is read back, and what is read is written back, over any tag. Section 'Stored form'.
use mathlib.Core.Path.{◌≡◌, refl, sym, ap, ◌∙◌}
use Prim.Native.Nat.{ℕ, zero, suc, ◌+◌, ◌-◌, ◌*◌, ◌/◌, ◌%◌, ◌≤◌, ◌<◌}
use mathlib.Core.List.{List, [], ◌∷◌, ◌++◌, append-nil}
use mathlib.Core.Bool.{true, false, ◌&&◌}
use native.Mathlib.Omega.{arith}
use native.Mathlib.Nat.{div-add-mod', add-sub_cancel_left}
use lib.Arith.{digits_div, digits_mod}
use lib.ListN.{length, get_or, take, drop, length-append, length-take, length-drop, take-append-drop}
use lib.Seq.{take_at, drop_at, take_all, drop-drop, drop-cons, get_or-drop}
use lib.Dec.{leb, eqb}
use borrow.Author.Tests.{leb-true, le-leb, lt-leb, eq-eqb, eqb-true, ne_eqb}
use Rattle.rules.specs.Numbers.{field_tag}
use Rattle.rules.specs.Bytes.{Bytes, is_empty, is_text, is_field, part, tag_of, size_of, body_of, rest_of, whole_of, is_part, is_field_part}
use Rattle.rules.proofs.Bools.{clash, and_l, and_r, both, and_no_r}

-- ---- empty lists

pub none_empty : {A : Type 0} (s : List A) → length s ≡ 0 → is_empty s ≡ true
none_empty [] e = refl
none_empty (x ∷ s) e = absurd (let h : length (x ∷ s) ≡ 0 = e in omega arith)

pub some_empty : {A : Type 0} (s : List A) → (length s ≡ 0 → ⊥) → is_empty s ≡ false
some_empty [] h = absurd (h refl)
some_empty (x ∷ s) h = refl

pub less_empty : {A : Type 0} (s : List A) → length s ≤ 0 → is_empty s ≡ true
less_empty s h = none_empty s (omega arith)

pub more_empty : {A : Type 0} (s : List A) → 0 < length s → is_empty s ≡ false
more_empty s h = some_empty s (λ z. omega arith)

pub empty_nil : {A : Type 0} (s : List A) → is_empty s ≡ true → s ≡ []
empty_nil [] h = refl
empty_nil (x ∷ s) h = clash h refl

-- ---- written, then read

module _ (t : ℕ) (b r : List ℕ) where
  pub size_part : size_of (part t b ++ r) ≡ length b
  size_part = div-add-mod' (length b) 256

  pub length_part : length (part t b ++ r) ≡ 3 + length b + length r
  length_part = omega (arith, length-append b r)

  pub whole_part : whole_of (part t b ++ r) ≡ true
  unfolding whole_of
  whole_part =
      let h : 3 + size_of (part t b ++ r) ≤ length (part t b ++ r) = omega (arith, size_part, length-append b r) in
      le-leb _ _ h

  pub body_part : body_of (part t b ++ r) ≡ b
  unfolding body_of
  body_part = take_at b r (size_of (part t b ++ r)) (sym size_part)

  pub rest_part : rest_of (part t b ++ r) ≡ r
  unfolding rest_of
  rest_part = drop_at b r (size_of (part t b ++ r)) (sym size_part)

  pub is_part_lem : is_part t (part t b ++ r) ≡ true
  is_part_lem = both whole_part (eq-eqb t t refl)

  pub no_part : (u : ℕ) → (t ≡ u → ⊥) → is_part u (part t b ++ r) ≡ false
  no_part u n = and_no_r (whole_of (part t b ++ r)) (ne_eqb t u n)

-- with nothing after it
module _ (t : ℕ) (b : List ℕ) where
  pub whole_one : whole_of (part t b) ≡ true
  whole_one = rw append-nil at (whole_part t b [])

  pub body_one : body_of (part t b) ≡ b
  body_one = rw append-nil at (body_part t b [])

  pub rest_one : rest_of (part t b) ≡ []
  rest_one = rw append-nil at (rest_part t b [])

  pub is_one_lem : is_part t (part t b) ≡ true
  is_one_lem = both whole_one (eq-eqb t t refl)

-- ---- bytes

pub bytes_cons : (x : ℕ) (s : List ℕ) → x < 256 → Bytes s → Bytes (x ∷ s)
bytes_cons x s h B zero = h
bytes_cons x s h B (suc i) = B i

pub bytes_append : (s t : List ℕ) → Bytes s → Bytes t → Bytes (s ++ t)
bytes_append [] t B C = C
bytes_append (x ∷ s) t B C = bytes_cons x (s ++ t) (B 0) (bytes_append s t (λ i. B (suc i)) C)

pub bytes_part : (t : ℕ) (b : List ℕ) → t < 256 → length b < 65536 → Bytes b → Bytes (part t b)
bytes_part t b h l B =
    let n = length b in
    bytes_cons t (n / 256 ∷ n % 256 ∷ b) h (bytes_cons (n / 256) (n % 256 ∷ b) (omega arith) (bytes_cons (n % 256) b (omega arith) B))

pub bytes_text : (s : List ℕ) → is_text s ≡ true → Bytes s
unfolding is_text
bytes_text [] h = λ i. omega arith
bytes_text (x ∷ s) h =
    let l = leb-true x 0x7f (and_l (leb x 0x7f) (is_text s) h) in
    bytes_cons x s (omega arith) (bytes_text s (and_r (leb x 0x7f) (is_text s) h))

pub bytes_drop : (n : ℕ) (s : List ℕ) → Bytes s → Bytes (drop n s)
bytes_drop n s B i = rw get_or-drop (B (n + i))

pub bytes_take : (n : ℕ) (s : List ℕ) → Bytes s → Bytes (take n s)
bytes_take zero s B i = omega arith
bytes_take (suc n) [] B i = B i
bytes_take (suc n) (x ∷ s) B zero = B 0
bytes_take (suc n) (x ∷ s) B (suc i) = bytes_take n s (λ j. B (suc j)) i

pub bytes_body : (s : List ℕ) → Bytes s → Bytes (body_of s)
unfolding body_of
bytes_body s B = bytes_take (size_of s) (drop 3 s) (bytes_drop 3 s B)

pub bytes_rest : (s : List ℕ) → Bytes s → Bytes (rest_of s)
unfolding rest_of
bytes_rest s B = bytes_drop (size_of s) (drop 3 s) (bytes_drop 3 s B)

-- ---- read, then written

pub whole_le : (s : List ℕ) → whole_of s ≡ true → 3 + size_of s ≤ length s
unfolding whole_of
whole_le s h = leb-true _ _ h

pub short_whole : (s : List ℕ) → length s < 3 + size_of s → whole_of s ≡ false
unfolding whole_of
short_whole s h = lt-leb _ _ h

pub length_body : (s : List ℕ) → whole_of s ≡ true → length (body_of s) ≡ size_of s
unfolding body_of
length_body s h = let l = whole_le s h in simp (length-take, length-drop) (omega arith)

pub length_rest : (s : List ℕ) → length (rest_of s) ≡ length s - 3 - size_of s
unfolding rest_of
length_rest s = simp length-drop

pub body_shorter : (s : List ℕ) → whole_of s ≡ true → length (body_of s) + 3 ≤ length s
body_shorter s w = rw (length_body s w) (let l = whole_le s w in omega arith)

pub rest_shorter : (s : List ℕ) → 0 < length s → length (rest_of s) < length s
rest_shorter s h = rw length_rest (omega arith)

-- a part with its body and what follows it, no byte more
pub length_whole : (s : List ℕ) → whole_of s ≡ true → 3 + length (body_of s) + length (rest_of s) ≡ length s
length_whole s w = rw (length_body s w, length_rest) (let l = whole_le s w in omega arith)

-- what code cuts out is the body, and what it leaves is the rest
pub cut_body : (s : List ℕ) (n : ℕ) → n ≡ size_of s → take (3 + n - 3) (drop 3 s) ≡ body_of s
unfolding body_of
cut_body s n e = rw (add-sub_cancel_left, e)

pub cut_from : (k : ℕ) (s : List ℕ) → take (length s - k) (drop k s) ≡ drop k s
cut_from k s = take_all (length s - k) (drop k s) (simp length-drop (omega arith))

pub cut_rest : (s : List ℕ) (n : ℕ) → n ≡ size_of s → take (length s - (3 + n)) (drop (3 + n) s) ≡ rest_of s
unfolding rest_of
cut_rest s n e = cut_from (3 + n) s ∙ sym (drop-drop n 3 s) ∙ ap (λ (k : ℕ). drop k (drop 3 s)) e

pub part_again : (s : List ℕ) → Bytes s → whole_of s ≡ true → part (tag_of s) (body_of s) ++ rest_of s ≡ s
unfolding body_of rest_of
part_again [] B w = absurd (let l = whole_le [] w in omega arith)
part_again (x ∷ []) B w = absurd (let l = whole_le (x ∷ []) w in omega arith)
part_again (x ∷ y ∷ []) B w = absurd (let l = whole_le (x ∷ y ∷ []) w in omega arith)
part_again (x ∷ y ∷ z ∷ r) B w =
    let l : length (take (y * 256 + z) r) ≡ y * 256 + z = length_body (x ∷ y ∷ z ∷ r) w in
    let z< : z < 256 = B 2 in
    rw (l, digits_div y z<, digits_mod y z<) (ap {B = List ℕ} (λ k. x ∷ y ∷ z ∷ k) (take-append-drop (y * 256 + z) r))

pub part_is : (t : ℕ) (s : List ℕ) → is_part t s ≡ true → (whole_of s ≡ true) × (tag_of s ≡ t)
part_is t s h = (and_l (whole_of s) (eqb (tag_of s) t) h, eqb-true (tag_of s) t (and_r (whole_of s) (eqb (tag_of s) t) h))

pub part_tag : (t : ℕ) (s : List ℕ) → Bytes s → is_part t s ≡ true → part t (body_of s) ++ rest_of s ≡ s
part_tag t s B h =
    let i = part_is t s h in
    ap (λ (x : ℕ). part x (body_of s) ++ rest_of s) (sym i.1) ∙ part_again s B i.0

-- with nothing after it
pub part_only : (s : List ℕ) → Bytes s → whole_of s ≡ true → is_empty (rest_of s) ≡ true → part (tag_of s) (body_of s) ≡ s
part_only s B w e = sym (append-nil (part (tag_of s) (body_of s))) ∙ rw (← empty_nil (rest_of s) e) (part_again s B w)

pub part_last : (t : ℕ) (s : List ℕ) → Bytes s → is_part t s ≡ true → is_empty (rest_of s) ≡ true → part t (body_of s) ≡ s
part_last t s B h e = let i = part_is t s h in ap (λ (x : ℕ). part x (body_of s)) (sym i.1) ∙ part_only s B i.0 e

-- ---- texts and fields

pub text_step : (s : List ℕ) (i : ℕ) → i < length s → is_text (drop i s) ≡ (leb (get_or s i 0) 0x7f && is_text (drop (suc i) s))
unfolding is_text
text_step s i h = rw (drop-cons s i 0 h)

-- a field's part is a field part as its body is a field
pub field_part : (f r : List ℕ) → is_field_part (part field_tag f ++ r) ≡ is_field f
field_part f r = simp (is_part_lem field_tag f r, body_part field_tag f r)

pub field_is : (s : List ℕ) → is_field_part s ≡ true → (is_part field_tag s ≡ true) × (is_field (body_of s) ≡ true)
field_is s h = (and_l (is_part field_tag s) (is_field (body_of s)) h, and_r (is_part field_tag s) (is_field (body_of s)) h)
