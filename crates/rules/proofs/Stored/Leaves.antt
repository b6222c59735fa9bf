-- What a record holds besides queries: words and bounds, written and read back, read and written back. Section 'Stored form'.
use mathlib.Core.Path.{◌≡◌, refl, sym, ap, ◌∙◌}
use mathlib.Core.Logic.{◌⊎◌, inl, inr}
use Prim.Native.Nat.{ℕ, ◌^◌, ◌≤◌, ◌<◌}
use mathlib.Core.List.{List, [], ◌∷◌, ◌++◌, append-nil}
use mathlib.Core.Bool.{Bool, true, false, ◌&&◌, ◌||◌, and-false, or-false}
use native.Mathlib.Omega.{arith}
use lib.ListN.{length, take, drop, length-append, take-append-drop}
use lib.Seq.{length-take-le}
use lib.Dec.{leb, eqb}
use borrow.Author.Tests.{leb-true, le-leb, ne_eqb, eqb-true}
use Rattle.rules.specs.Numbers.{word_tag, open_tag, included_tag, excluded_tag}
use Rattle.rules.specs.Bytes.{Bytes, of_big, big, is_empty, is_text, part, tag_of, body_of, rest_of, whole_of, is_part, every, each}
use Rattle.rules.specs.Query.{Word, word, Bound, unbounded, included, excluded}
use Rattle.rules.specs.Stored.{encode_bound, encode_words, ValidBound, ValidWords}
use Rattle.rules.specs.Reading.{is_word, word_of, is_bound, bound_of}
use Rattle.rules.proofs.Bools.{and_l, and_r, both, either}
use Rattle.rules.proofs.Stored.Bigs.{read_big, write_big, below_big}
use Rattle.rules.proofs.Stored.Parts.{whole_part, body_part, rest_part, is_part_lem, part_is, part_tag, bytes_body, bytes_take, bytes_rest, empty_nil}
use Rattle.rules.proofs.Stored.Rows.{every_done, every_step, each_done, each_next, Row, done, next, row}

-- ---- words

module _ (p : ℕ) (t r : List ℕ) where
  pub is_word_lem : is_word (part word_tag (big 4 p ++ t) ++ r) ≡ is_text t
  is_word_lem =
      let b = big 4 p ++ t in
      let l : 4 ≤ length b = omega (arith, length-append (big 4 p) t) in
      simp (is_part_lem word_tag b r, body_part word_tag b r, le-leb 4 (length b) l)

  pub word_back : p < 2 ^ 32 → word_of (part word_tag (big 4 p ++ t) ++ r) ≡ word p t
  word_back h = rw (body_part word_tag (big 4 p ++ t) r) (ap (λ (n : ℕ). word n t) (read_big 4 p h))

pub words_back : (ws : List Word) → ValidWords ws → (every is_word (encode_words ws) ≡ true) × (each word_of (encode_words ws) ≡ ws)
unfolding encode_words ValidWords
words_back [] v = (every_done is_word [] refl, each_done word_of [] refl)
words_back (word p t ∷ ws) v =
    let b = big 4 p ++ t in
    let s = part word_tag b ++ encode_words ws in
    let R = words_back ws v.2 in (
      every_step is_word s refl ∙ both (is_word_lem p t (encode_words ws) ∙ v.1) (ap (every is_word) (rest_part word_tag b (encode_words ws)) ∙ R.0),
      each_next word_of s refl ∙ rw (word_back p t (encode_words ws) v.0, rest_part word_tag b (encode_words ws), R.1),
    )

pub record WordIs (s : List ℕ) : Type 0 where
  pub is : is_part word_tag s ≡ true
  pub long : 4 ≤ length (body_of s)
  pub text : is_text (drop 4 (body_of s)) ≡ true

pub word_is : (s : List ℕ) → is_word s ≡ true → WordIs s
word_is s h =
    let b = body_of s in
    let k = and_r (is_part word_tag s) (leb 4 (length b) && is_text (drop 4 b)) h in
    record {
      is = and_l (is_part word_tag s) (leb 4 (length b) && is_text (drop 4 b)) h;
      long = leb-true 4 (length b) (and_l (leb 4 (length b)) (is_text (drop 4 b)) k);
      text = and_r (leb 4 (length b)) (is_text (drop 4 b)) k;
    }

words_row : {s : List ℕ} → Row is_word s → Bytes s → (encode_words (each word_of s) ≡ s) × ValidWords (each word_of s)
unfolding encode_words ValidWords
words_row done B = rw (each_done word_of [] refl) (refl, tt)
words_row (next {x} {s} h r) B =
    let t = x ∷ s in
    let b = body_of t in
    let w = word_is t h in
    let four = length-take-le 4 b w.long in
    let B4 = bytes_take 4 b (bytes_body t B) in
    let R = words_row r (bytes_rest t B) in
    rw (each_next word_of t refl) (
      ap {B = List ℕ} (λ l. part word_tag (l ++ drop 4 b) ++ encode_words (each word_of (rest_of t))) (write_big 4 (take 4 b) B4 four)
          ∙ ap {B = List ℕ} (λ l. part word_tag l ++ encode_words (each word_of (rest_of t))) (take-append-drop 4 b)
          ∙ ap {B = List ℕ} (λ l. part word_tag b ++ l) R.0
          ∙ part_tag word_tag t B w.is,
      (below_big 4 (take 4 b) B4 four, w.text, R.1),
    )

pub words_again : (s : List ℕ) → Bytes s → every is_word s ≡ true → (encode_words (each word_of s) ≡ s) × ValidWords (each word_of s)
words_again s B h = words_row (row is_word s h) B

-- ---- bounds

module _ (r : List ℕ) where
  pub is_bound_lem : (b : Bound) → is_bound (encode_bound b ++ r) ≡ true
  unfolding is_bound
  is_bound_lem unbounded = simp (is_bound, whole_part open_tag [] r, body_part open_tag [] r)
  is_bound_lem (included x) = simp (is_bound, whole_part included_tag (big 8 x) r, body_part included_tag (big 8 x) r)
  is_bound_lem (excluded x) = simp (is_bound, whole_part excluded_tag (big 8 x) r, body_part excluded_tag (big 8 x) r)

  pub bound_back : (b : Bound) → ValidBound b → bound_of (encode_bound b ++ r) ≡ b
  unfolding bound_of
  bound_back unbounded v = refl
  bound_back (included x) v = ap (λ (l : List ℕ). included (of_big l)) (body_part included_tag (big 8 x) r) ∙ ap included (read_big 8 x v)
  bound_back (excluded x) v = ap (λ (l : List ℕ). excluded (of_big l)) (body_part excluded_tag (big 8 x) r) ∙ ap excluded (read_big 8 x v)

  pub bound_rest : (b : Bound) → rest_of (encode_bound b ++ r) ≡ r
  bound_rest unbounded = rest_part open_tag [] r
  bound_rest (included x) = rest_part included_tag (big 8 x) r
  bound_rest (excluded x) = rest_part excluded_tag (big 8 x) r

-- with nothing after it
module _ (b : Bound) where
  pub is_bound_one : is_bound (encode_bound b) ≡ true
  is_bound_one = rw append-nil at (is_bound_lem [] b)

  pub bound_back_one : ValidBound b → bound_of (encode_bound b) ≡ b
  bound_back_one v = rw append-nil at (bound_back [] b v)

  pub bound_rest_one : rest_of (encode_bound b) ≡ []
  bound_rest_one = rw append-nil at (bound_rest [] b)

-- a bound that passes, by its tag
pub data BoundIs (s : List ℕ) : Type 0 where
  is_open_lem : is_part open_tag s ≡ true → body_of s ≡ [] → BoundIs s
  is_included : is_part included_tag s ≡ true → length (body_of s) ≡ 8 → BoundIs s
  is_excluded : is_part excluded_tag s ≡ true → length (body_of s) ≡ 8 → BoundIs s

module _ (s : List ℕ) where
  pub at_open : tag_of s ≡ open_tag → bound_of s ≡ unbounded
  unfolding bound_of
  at_open e = rw (e, bound_of)

  pub at_included : tag_of s ≡ included_tag → bound_of s ≡ included (of_big (body_of s))
  unfolding bound_of
  at_included e = rw (e, bound_of)

  pub at_excluded : tag_of s ≡ excluded_tag → bound_of s ≡ excluded (of_big (body_of s))
  unfolding bound_of
  at_excluded e = rw (e, bound_of)

  -- the test, by the tag
  pub bound_broken : whole_of s ≡ false → is_bound s ≡ false
  unfolding is_bound
  bound_broken w = rw (w, is_bound)

  pub open_bound : whole_of s ≡ true → tag_of s ≡ open_tag → is_bound s ≡ is_empty (body_of s)
  unfolding is_bound
  open_bound w e = rw (w, e, is_bound) (or-false (is_empty (body_of s)))

  pub included_bound : whole_of s ≡ true → tag_of s ≡ included_tag → is_bound s ≡ eqb (length (body_of s)) 8
  unfolding is_bound
  included_bound w e = rw (w, e, is_bound)

  pub excluded_bound : whole_of s ≡ true → tag_of s ≡ excluded_tag → is_bound s ≡ eqb (length (body_of s)) 8
  unfolding is_bound
  excluded_bound w e = rw (w, e, is_bound)

  pub no_bound : (tag_of s ≡ open_tag → ⊥) → (tag_of s ≡ included_tag → ⊥) → (tag_of s ≡ excluded_tag → ⊥) → is_bound s ≡ false
  unfolding is_bound
  no_bound x y z = rw (ne_eqb (tag_of s) open_tag x, ne_eqb (tag_of s) included_tag y, ne_eqb (tag_of s) excluded_tag z, is_bound) (simp and-false)

  pub bound_is : is_bound s ≡ true → BoundIs s
  unfolding is_bound
  bound_is h = go (either (is_part open_tag s && is_empty (body_of s)) _ h)
    where
      limited : Bool
      limited = is_part included_tag s || is_part excluded_tag s

      limit : (is_part included_tag s ≡ true) ⊎ (is_part excluded_tag s ≡ true) → length (body_of s) ≡ 8 → BoundIs s
      limit (inl i) l = is_included i l
      limit (inr i) l = is_excluded i l

      go : ((is_part open_tag s && is_empty (body_of s)) ≡ true) ⊎ ((limited && eqb (length (body_of s)) 8) ≡ true) → BoundIs s
      go (inl k) = is_open_lem (and_l (is_part open_tag s) (is_empty (body_of s)) k) (empty_nil (body_of s) (and_r (is_part open_tag s) (is_empty (body_of s)) k))
      go (inr k) =
          limit (either (is_part included_tag s) (is_part excluded_tag s) (and_l limited (eqb (length (body_of s)) 8) k))
          (eqb-true (length (body_of s)) 8 (and_r limited (eqb (length (body_of s)) 8) k))

  limit_again : (t : ℕ) → Bytes s → is_part t s ≡ true → length (body_of s) ≡ 8
      → (part t (big 8 (of_big (body_of s))) ++ rest_of s ≡ s) × (of_big (body_of s) < 2 ^ 64)
  limit_again t B h l = (
    ap {B = List ℕ} (λ b. part t b ++ rest_of s) (write_big 8 (body_of s) (bytes_body s B) l) ∙ part_tag t s B h,
    below_big 8 (body_of s) (bytes_body s B) l,
  )

  pub bound_again : Bytes s → is_bound s ≡ true → (encode_bound (bound_of s) ++ rest_of s ≡ s) × ValidBound (bound_of s)
  bound_again B h = go (bound_is h)
    where
      go : BoundIs s → (encode_bound (bound_of s) ++ rest_of s ≡ s) × ValidBound (bound_of s)
      go (is_open_lem i e) = rw (at_open (part_is open_tag s i).1) (ap {B = List ℕ} (λ b. part open_tag b ++ rest_of s) (sym e) ∙ part_tag open_tag s B i, tt)
      go (is_included i l) = rw (at_included (part_is included_tag s i).1) (limit_again included_tag B i l)
      go (is_excluded i l) = rw (at_excluded (part_is excluded_tag s i).1) (limit_again excluded_tag B i l)

  pub bound_last : Bytes s → is_bound s ≡ true → is_empty (rest_of s) ≡ true → encode_bound (bound_of s) ≡ s
  bound_last B h e = sym (append-nil (encode_bound (bound_of s))) ∙ rw (← empty_nil (rest_of s) e) (bound_again B h).0
