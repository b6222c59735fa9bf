-- What the checked bytes of an entry show of it, and what is asked of an entry by what it has.
use mathlib.Core.Path.{◌≡◌, refl, sym, ap, ◌∙◌}
use mathlib.Core.Logic.{◌⊎◌, inl, inr, ⊎_elim}
use Prim.Native.Nat.{ℕ, ◌+◌, ◌≤◌}
use mathlib.Core.List.{List}
use mathlib.Core.Bool.{Bool, true, false, ◌&&◌, ◌||◌, and_assoc}
use lib.ListN.{length, take, drop, length-drop}
use native.Mathlib.Omega.{arith}
use lib.Seq.{take_all}
use lib.Dec.{leb, eqb}
use borrow.Author.Tests.{leb-true, eqb-true}
use Rattle.rules.specs.Numbers.{word_tag, place_tag, whole_tag, float_tag, value_tag}
use Rattle.rules.specs.Bytes.{of_big, is_empty, is_text, tag_of, size_of, body_of, rest_of, whole_of, is_part, is_field_part, all, same}
use Rattle.rules.specs.Query.{Word, Numbers, whole, float, Bound}
use Rattle.rules.specs.Reading.{is_word}
use Rattle.rules.specs.Lists.{Entry, place, value, is_value, is_field_with, is_entry, entry_of}
use Rattle.rules.specs.Matching.{is_here, is_at, follows_from, starts_on, same_numbers, lies_in, is_inside}
use Rattle.rules.proofs.Bools.{clash, split, and_l, and_r, either}
use Rattle.rules.proofs.Stored.Parts.{empty_nil, length_body, length_whole, part_is, field_is}
use Rattle.rules.proofs.Stored.Equal.{same_eq}
use Rattle.entries.specs.Entry.{is_place, is_of, field_of, text_of, position_of, bits_of}

-- ---- one entry

-- the field, and the one part after it
pub record Inner (P : List ℕ → Bool) (b : List ℕ) : Type 0 where
  pub front : whole_of b ≡ true
  pub second : P (rest_of b) ≡ true
  pub last : is_empty (rest_of (rest_of b)) ≡ true

inner : (P : List ℕ → Bool) (b : List ℕ) → is_field_with P b ≡ true → Inner P b
inner P b h =
    let k = and_r (is_field_part b) (P (rest_of b) && is_empty (rest_of (rest_of b))) h in
    record {
      front = (part_is _ b (field_is b (and_l (is_field_part b) (P (rest_of b) && is_empty (rest_of (rest_of b))) h)).0).0;
      second = and_l (P (rest_of b)) (is_empty (rest_of (rest_of b))) k;
      last = and_r (P (rest_of b)) (is_empty (rest_of (rest_of b))) k;
    }

-- by its tag and its body
data View : ℕ → List ℕ → Entry → Type 0 where
  v_place : {b : List ℕ} → Inner is_word b → View place_tag b (place (body_of b) (of_big (take 4 (body_of (rest_of b)))) (drop 4 (body_of (rest_of b))))
  v_whole : {b : List ℕ} → Inner is_value b → View whole_tag b (value whole (body_of b) (of_big (body_of (rest_of b))))
  v_float : {b : List ℕ} → Inner is_value b → View float_tag b (value float (body_of b) (of_big (body_of (rest_of b))))

record Viewed (s : List ℕ) : Type 0 where
  whole : whole_of s ≡ true
  view : View (tag_of s) (body_of s) (entry_of s)

viewed : (s : List ℕ) → is_entry s ≡ true → Viewed s
unfolding is_entry entry_of
viewed s h = ⊎_elim (λ k. at_place k) (λ k. at_value k) (either (is_part place_tag s && is_field_with is_word (body_of s)) _ h)
  where
    at_place : (is_part place_tag s && is_field_with is_word (body_of s)) ≡ true → Viewed s
    at_place k =
        let p = part_is place_tag s (and_l (is_part place_tag s) _ k) in
        let i = inner is_word (body_of s) (and_r (is_part place_tag s) (is_field_with is_word (body_of s)) k) in
        record { whole = p.0; view = rw p.1 (v_place i) }

    at_value : ((is_part whole_tag s || is_part float_tag s) && is_field_with is_value (body_of s)) ≡ true → Viewed s
    at_value k =
        let i = inner is_value (body_of s) (and_r (is_part whole_tag s || is_part float_tag s) (is_field_with is_value (body_of s)) k) in
        ⊎_elim
        (λ w. let p = part_is whole_tag s w in record { whole = p.0; view = rw p.1 (v_whole i) })
        (λ w. let p = part_is float_tag s w in record { whole = p.0; view = rw p.1 (v_float i) })
        (either (is_part whole_tag s) (is_part float_tag s) (and_l (is_part whole_tag s || is_part float_tag s) _ k))

word_is : (w : List ℕ) → is_word w ≡ true → (whole_of w ≡ true) × (4 ≤ length (body_of w))
word_is w h = (
  (part_is word_tag w (and_l (is_part word_tag w) _ h)).0,
  leb-true 4 (length (body_of w)) (and_l (leb 4 (length (body_of w))) _ (and_r (is_part word_tag w) (leb 4 (length (body_of w)) && is_text (drop 4 (body_of w))) h)),
)

value_is : (w : List ℕ) → is_value w ≡ true → (whole_of w ≡ true) × (length (body_of w) ≡ 8)
value_is w h = (
  (part_is value_tag w (and_l (is_part value_tag w) _ h)).0,
  eqb-true (length (body_of w)) 8 (and_r (is_part value_tag w) (eqb (length (body_of w)) 8) h),
)

module _ (s : List ℕ) (h : is_entry s ≡ true) where
  pub entry_whole : whole_of s ≡ true
  entry_whole = (viewed s h).whole

  pub entry_front : whole_of (body_of s) ≡ true
  entry_front = go (viewed s h).view
    where
      go : {t : ℕ} {b : List ℕ} {e : Entry} → View t b e → whole_of b ≡ true
      go (v_place i) = i.front
      go (v_whole i) = i.front
      go (v_float i) = i.front

  pub entry_back : whole_of (rest_of (body_of s)) ≡ true
  entry_back = go (viewed s h).view
    where
      go : {t : ℕ} {b : List ℕ} {e : Entry} → View t b e → whole_of (rest_of b) ≡ true
      go (v_place i) = (word_is _ i.second).0
      go (v_whole i) = (value_is _ i.second).0
      go (v_float i) = (value_is _ i.second).0

  pub place_tag_lem : eqb (tag_of s) place_tag ≡ is_place (entry_of s)
  place_tag_lem = go (viewed s h).view
    where
      go : {t : ℕ} {b : List ℕ} {e : Entry} → View t b e → eqb t place_tag ≡ is_place e
      go (v_place i) = refl
      go (v_whole i) = refl
      go (v_float i) = refl

  pub whole_tag_lem : eqb (tag_of s) whole_tag ≡ is_of whole (entry_of s)
  whole_tag_lem = go (viewed s h).view
    where
      go : {t : ℕ} {b : List ℕ} {e : Entry} → View t b e → eqb t whole_tag ≡ is_of whole e
      go (v_place i) = refl
      go (v_whole i) = refl
      go (v_float i) = refl

  pub float_tag_lem : eqb (tag_of s) float_tag ≡ is_of float (entry_of s)
  float_tag_lem = go (viewed s h).view
    where
      go : {t : ℕ} {b : List ℕ} {e : Entry} → View t b e → eqb t float_tag ≡ is_of float e
      go (v_place i) = refl
      go (v_whole i) = refl
      go (v_float i) = refl

  pub field_at : body_of (body_of s) ≡ field_of (entry_of s)
  field_at = go (viewed s h).view
    where
      go : {t : ℕ} {b : List ℕ} {e : Entry} → View t b e → body_of b ≡ field_of e
      go (v_place i) = refl
      go (v_whole i) = refl
      go (v_float i) = refl

  -- of one with a position and a text
  module _ (p : is_place (entry_of s) ≡ true) where
    pub place_long : 4 ≤ length (body_of (rest_of (body_of s)))
    place_long = go (viewed s h).view p
      where
        go : {t : ℕ} {b : List ℕ} {e : Entry} → View t b e → is_place e ≡ true → 4 ≤ length (body_of (rest_of b))
        go (v_place i) p = (word_is _ i.second).1
        go (v_whole i) p = clash p refl
        go (v_float i) p = clash p refl

    pub text_at_lem : drop 4 (body_of (rest_of (body_of s))) ≡ text_of (entry_of s)
    text_at_lem = go (viewed s h).view p
      where
        go : {t : ℕ} {b : List ℕ} {e : Entry} → View t b e → is_place e ≡ true → drop 4 (body_of (rest_of b)) ≡ text_of e
        go (v_place i) p = refl
        go (v_whole i) p = clash p refl
        go (v_float i) p = clash p refl

    pub position_at : of_big (take 4 (body_of (rest_of (body_of s)))) ≡ position_of (entry_of s)
    position_at = go (viewed s h).view p
      where
        go : {t : ℕ} {b : List ℕ} {e : Entry} → View t b e → is_place e ≡ true → of_big (take 4 (body_of (rest_of b))) ≡ position_of e
        go (v_place i) p = refl
        go (v_whole i) p = clash p refl
        go (v_float i) p = clash p refl

  -- of one with a number
  module _ (p : is_place (entry_of s) ≡ false) where
    pub value_long : length (body_of (rest_of (body_of s))) ≡ 8
    value_long = go (viewed s h).view p
      where
        go : {t : ℕ} {b : List ℕ} {e : Entry} → View t b e → is_place e ≡ false → length (body_of (rest_of b)) ≡ 8
        go (v_place i) p = clash refl p
        go (v_whole i) p = (value_is _ i.second).1
        go (v_float i) p = (value_is _ i.second).1

    pub bits_at : of_big (take 8 (body_of (rest_of (body_of s)))) ≡ bits_of (entry_of s)
    bits_at = ap of_big (take_all 8 (body_of (rest_of (body_of s))) (omega (arith, value_long))) ∙ go (viewed s h).view p
      where
        go : {t : ℕ} {b : List ℕ} {e : Entry} → View t b e → is_place e ≡ false → of_big (body_of (rest_of b)) ≡ bits_of e
        go (v_place i) p = clash refl p
        go (v_whole i) p = refl
        go (v_float i) p = refl

-- ---- what is asked of an entry, by what it has

module _ (f t : List ℕ) where
  pub here_parts : (e : Entry) → is_here f t e ≡ (is_place e && (same f (field_of e) && same t (text_of e)))
  here_parts (place g y u) = refl
  here_parts (value n g x) = refl

  pub here_place : (e : Entry) → is_here f t e ≡ true → is_place e ≡ true
  here_place (place g y u) h = refl
  here_place (value n g x) h = clash h refl

  pub at_parts : (p a : ℕ) (e : Entry) → is_at f t p a e ≡ (is_here f t e && eqb (position_of e + p) a)
  at_parts p a (place g y u) = refl
  at_parts p a (value n g x) = refl

  pub starts_parts : (es : List Entry) (p : ℕ) (ws : List Word) (e : Entry)
      → starts_on es f p t ws e ≡ (is_here f t e && all (follows_from es f p (position_of e)) ws)
  starts_parts es p ws (place g y u) = refl
  starts_parts es p ws (value n g x) = refl

module _ (n : Numbers) (f : List ℕ) (l u : Bound) where
  pub inside_parts : (e : Entry) → is_inside n f l u e ≡ (is_of n e && (same f (field_of e) && lies_in n l u (bits_of e)))
  inside_parts (place g y t) = refl
  inside_parts (value k g x) = and_assoc (same_numbers n k) (same f g) (lies_in n l u x)

pub of_value : (n : Numbers) (e : Entry) → is_of n e ≡ true → is_place e ≡ false
of_value n (place f y t) h = clash h refl
of_value n (value k f x) h = refl

-- an entry with this field and this text has this length
place_size : (b : List ℕ) → Inner is_word b → 10 + length (body_of b) + length (drop 4 (body_of (rest_of b))) ≡ length b
place_size b i =
    let w = word_is (rest_of b) i.second in
    let l = w.1 in
    let z = ap length (empty_nil (rest_of (rest_of b)) i.last) in
    omega (arith, length_whole b i.front, length_whole (rest_of b) w.0, length-drop 4 (body_of (rest_of b)))

pub here_size : (f t s : List ℕ) → is_entry s ≡ true → is_here f t (entry_of s) ≡ true → size_of s ≡ 10 + length f + length t
here_size f t s h k = sym (length_body s (viewed s h).whole) ∙ go (viewed s h).view k
  where
    go : {n : ℕ} {b : List ℕ} {e : Entry} → View n b e → is_here f t e ≡ true → length b ≡ 10 + length f + length t
    go (v_place {b = b} i) k =
        let x = ap length (same_eq f (body_of b) (and_l (same f (body_of b)) _ k)) in
        let y = ap length (same_eq t (drop 4 (body_of (rest_of b))) (and_r (same f (body_of b)) (same t (drop 4 (body_of (rest_of b)))) k)) in
        omega (arith, place_size b i)
    go (v_whole i) k = clash k refl
    go (v_float i) k = clash k refl

pub other_size : (f t s : List ℕ) → is_entry s ≡ true → (size_of s ≡ 10 + length f + length t → ⊥) → false ≡ is_here f t (entry_of s)
other_size f t s h n = go (split (is_here f t (entry_of s)))
  where
    go : (is_here f t (entry_of s) ≡ true) ⊎ (is_here f t (entry_of s) ≡ false) → false ≡ is_here f t (entry_of s)
    go (inl k) = absurd (n (here_size f t s h k))
    go (inr k) = sym k
