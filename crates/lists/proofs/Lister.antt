-- What stands behind the field of an entry is a whole part; what the quick test of a short entry finds is sound; and where entries end.
use mathlib.Core.Path.{◌≡◌, refl, sym, ap, ◌∙◌}
use mathlib.Core.Logic.{◌⊎◌, inl, inr, ⊎_elim}
use Prim.Native.Nat.{ℕ, suc, ◌+◌, ◌-◌, ◌≤◌, ◌<◌}
use native.Mathlib.Omega.{arith}
use mathlib.Core.List.{List, [], ◌∷◌}
use mathlib.Core.Bool.{Bool, true, false, ◌&&◌, ◌||◌, cond}
use lib.ListN.{length, take, drop, length-drop}
use lib.Seq.{drop-drop, length-take-le}
use lib.Dec.{eqb}
use borrow.Author.Tests.{le-leb, lt-leb, eq-eqb, eqb-true, eqb-false}
use Rattle.std.specs.Prelude.{Ok, Err, Some, None}
use Rattle.names.specs.Refusals.{checked}
use Rattle.names.specs.declared.refusal.Refusal.TheVariants.{LongList, MalformedList}
use Rattle.rules.specs.Numbers.{field_tag, field_most, list_most, place_tag, whole_tag, float_tag, word_tag, value_tag}
use Rattle.rules.specs.Bytes.{is_text, tag_of, size_of, body_of, rest_of, whole_of, is_part, every}
use Rattle.rules.specs.Query.{whole, float}
use Rattle.rules.specs.Reading.{is_word}
use Rattle.rules.specs.Lists.{is_value, is_field_with, is_entry, is_record, read_list}
use Rattle.rules.proofs.Bools.{split, and_l, both, or_l, or_r, either}
use Rattle.rules.proofs.Stored.Parts.{less_empty, part_is, length_body, length_whole, whole_le, cut_from, cut_rest}
use Rattle.rules.proofs.Stored.Leaves.{word_is}
use Rattle.rules.proofs.Choosing.Entries.{entry_whole, place_entry, value_entry}
use Rattle.parts.specs.Part.{Plain}
use Rattle.parts.proofs.Plainly.{plain}
use Rattle.stretches.proofs.Joining.{text_split, text_later, no_text, drop_take}
use Rattle.lists.specs.List.{is_held, Holds, IsFirst, end_of}

pub value_whole : (s : List ℕ) → is_value s ≡ true → whole_of s ≡ true
value_whole s h = (part_is value_tag s (and_l (is_part value_tag s) (eqb (length (body_of s)) 8) h)).0

pub word_whole : (s : List ℕ) → is_word s ≡ true → whole_of s ≡ true
word_whole s h = (part_is word_tag s (word_is s h).is).0

pub held_whole : (t : ℕ) (s : List ℕ) → is_held t s ≡ true → whole_of s ≡ true
held_whole t s h = go (eqb t place_tag) h
  where
    go : (b : Bool) → cond b (is_word s) (is_value s) ≡ true → whole_of s ≡ true
    go true h = word_whole s h
    go false h = value_whole s h

-- ---- what is left of a row of parts

module _ (s : List ℕ) {r : Bool} (e : r ≡ eqb (length s) 0) where
  pub some_left : r ≡ false → 0 < length s
  some_left h = omega (arith, eqb-false (length s) 0 (sym e ∙ h))

  pub none_left : r ≡ true → length s ≤ 0
  none_left h = omega (arith, eqb-true (length s) 0 (sym e ∙ h))

-- ---- short entries

-- a header of a field, and ASCII behind it
text_header : (b : List ℕ) → 3 ≤ length b → tag_of b ≡ field_tag → size_of b ≤ 0x7f → is_text (drop 3 b) ≡ true → is_text b ≡ true
unfolding is_text
text_header [] l e h t = absurd (omega arith)
text_header (x ∷ []) l e h t = absurd (omega arith)
text_header (x ∷ y ∷ []) l e h t = absurd (omega arith)
text_header (x ∷ y ∷ z ∷ b) l e h t = both (le-leb x 0x7f (omega arith)) (both (le-leb y 0x7f (omega arith)) (both (le-leb z 0x7f (omega arith)) t))

plain_place : (b : List ℕ) → Plain word_tag 4 b → is_field_with (is_held place_tag) b ≡ true
plain_place b P =
    let w = body_of (rest_of b) in
    both P.field (both (both P.held (both (le-leb 4 (length w) P.long) (text_later 4 w P.text))) P.end)

-- s has a field and a text behind its header, by both lengths at once
pub short_place : (s : List ℕ) {b t : List ℕ} {f : ℕ} → b ≡ drop 3 s → f ≡ size_of b → t ≡ rest_of b → 16 ≤ length s → length s ≤ 35 → f ≤ length b - 10
    → size_of t ≡ length b - 6 - f → tag_of b ≡ field_tag → tag_of t ≡ word_tag → is_text (drop 6 s) ≡ true → is_field_with (is_held place_tag) (drop 3 s) ≡ true
unfolding whole_of
short_place s {b} {t} {f} eb ef et low high fits size field word text =
    let n : length b ≡ length s - 3 = ap length eb ∙ length-drop 3 s in
    let k : f + 10 ≤ length b = omega arith in
    let j : size_of t + 6 + f ≡ length b = omega arith in
    let wb : whole_of b ≡ true = le-leb (3 + size_of b) (length b) (omega arith) in
    let l : length t + 3 + f ≡ length b = omega (arith, length_whole b wb, length_body b wb, ap length et) in
    let wt : whole_of t ≡ true = le-leb (3 + size_of t) (length t) (omega arith) in
    let m : 4 ≤ length (body_of t) = omega (arith, length_body t wt) in
    let z : length (rest_of t) ≤ 0 = omega (arith, length_whole t wt, length_body t wt) in
    let i : drop 6 s ≡ drop 3 b = sym (drop-drop 3 3 s) ∙ ap (drop 3) (sym eb) in
    let g : is_text b ≡ true = text_header b (omega arith) field (omega arith) (rw i at text) in
    rw (← eb) (plain_place b
    (plain word_tag 4 b t et (omega arith) (both wb (eq-eqb (tag_of b) field_tag field)) (both wt (eq-eqb (tag_of t) word_tag word)) m z g))

-- s has a field and a number behind its header; a word that ends where the field does is ASCII
pub short_number : (s : List ℕ) {b t : List ℕ} {f : ℕ} → b ≡ drop 3 s → f ≡ size_of b → t ≡ rest_of b → length b ≡ 14 + f → 2 ≤ f → f ≤ 8
    → size_of t ≡ 8 → tag_of b ≡ field_tag → tag_of t ≡ value_tag → is_text (take 8 (drop (f - 2) s)) ≡ true → is_field_with is_value (drop 3 s) ≡ true
unfolding whole_of body_of
short_number s {b} {t} {f} eb ef et long some few size field value text =
    let wb : whole_of b ≡ true = le-leb (3 + size_of b) (length b) (omega arith) in
    let l : length t ≡ 11 = omega (arith, length_whole b wb, length_body b wb, ap length et) in
    let wt : whole_of t ≡ true = le-leb (3 + size_of t) (length t) (omega arith) in
    let z : length (rest_of t) ≤ 0 = omega (arith, length_whole t wt, length_body t wt) in
    let k : 8 - (8 - f) ≡ size_of b = omega arith in
    let j : f - 2 + (8 - f) ≡ 6 = omega arith in
    let i : drop (8 - f) (take 8 (drop (f - 2) s)) ≡ body_of b =
    (drop_take (8 - f) 8 (drop (f - 2) s) ∙ ap (λ (n : ℕ). take n (drop (8 - f) (drop (f - 2) s))) k
    ∙ ap (take (size_of b)) (drop-drop (8 - f) (f - 2) s ∙ ap (λ (n : ℕ). drop n s) j ∙ sym (drop-drop 3 3 s) ∙ ap (drop 3) (sym eb))) in
    let g : is_text (body_of b) ≡ true = ap is_text (sym i) ∙ text_later (8 - f) (take 8 (drop (f - 2) s)) text in
    let h : is_value t ≡ true = both (both wt (eq-eqb (tag_of t) value_tag value)) (eq-eqb (length (body_of t)) 8 (length_body t wt ∙ size)) in
    rw (← eb) (both
    (both (both wb (eq-eqb (tag_of b) field_tag field)) (both (le-leb (length (body_of b)) field_most (omega (arith, length_body b wb))) g))
    (both (rw et at h) (less_empty (rest_of (rest_of b)) (rw et at z))))

-- ---- ASCII from the field on, by words

abbrev pub word_at : ℕ → List ℕ → Bool
word_at n s = is_text (take 8 (drop n s))

text_word : (n : ℕ) (s : List ℕ) → is_text (drop n s) ≡ (word_at n s && is_text (drop (n + 8) s))
text_word n s = text_split 8 (drop n s) ∙ ap (λ (l : List ℕ). word_at n s && is_text l) (drop-drop 8 n s)

-- the word that code reads there
pub word_told : (n : ℕ) (s : List ℕ) (r : ℕ) → eqb r 0 ≡ is_text (take 8 (take (length s - n) (drop n s))) → eqb r 0 ≡ true → word_at n s ≡ true
word_told n s r e z = ap (λ (l : List ℕ). is_text (take 8 l)) (sym (cut_from n s)) ∙ sym e ∙ z

pub word_clear : (n : ℕ) (s : List ℕ) {r : ℕ} → eqb r 0 ≡ is_text (take 8 (take (length s - n) (drop n s))) → r ≡ 0 → word_at n s ≡ true
word_clear n s {r} e z = word_told n s r e (eq-eqb r 0 z)

module _ (s : List ℕ) (low : 16 ≤ length s) where
  -- the last two words
  last_words : {d e : ℕ} → d ≡ length s - 16 → e ≡ length s - 8 → word_at e s ≡ true → word_at d s ≡ true → is_text (drop d s) ≡ true
  last_words {d} {e} ed ee we wd =
      let k : d + 8 ≡ e = omega arith in
      let z : is_text (drop (e + 8) s) ≡ true = sym (no_text (drop (e + 8) s) (length-drop (e + 8) s ∙ omega arith)) in
      text_word d s ∙ both wd (ap (λ (n : ℕ). is_text (drop n s)) k ∙ text_word e s ∙ both we z)

  from_there : {n d : ℕ} → d ≤ n → is_text (drop d s) ≡ true → is_text (drop n s) ≡ true
  from_there {n} {d} h t =
      let k : d + (n - d) ≡ n = omega arith in
      ap (λ (j : ℕ). is_text (drop j s)) (sym k) ∙ ap is_text (sym (drop-drop (n - d) d s)) ∙ text_later (n - d) (drop d s) t

  pub three_words : length s ≤ 30 → word_at (length s - 8) s ≡ true → word_at (length s - 16) s ≡ true → word_at 6 s ≡ true → is_text (drop 6 s) ≡ true
  three_words h we wd w = text_word 6 s ∙ both w (from_there {n = 14} {d = length s - 16} (omega arith) (last_words refl refl we wd))

  pub four_words : length s ≤ 35 → word_at (length s - 8) s ≡ true → word_at (length s - 16) s ≡ true → word_at 6 s ≡ true → word_at 14 s ≡ true
      → is_text (drop 6 s) ≡ true
  four_words h we wd w v =
      text_word 6 s ∙ both w (text_word 14 s ∙ both v (from_there {n = 22} {d = length s - 16} (omega arith) (last_words refl refl we wd)))

module _ {t : ℕ} {b : List ℕ} where
  pub holds_place : t ≡ place_tag → is_field_with (is_held place_tag) b ≡ true → Holds t b
  holds_place e h = record { tag = or_l (eqb t whole_tag || eqb t float_tag) (eq-eqb t place_tag e); body = rw e h }

  pub holds_whole : t ≡ whole_tag → is_field_with is_value b ≡ true → Holds t b
  holds_whole e h = record { tag = or_r (eqb t place_tag) (or_l (eqb t float_tag) (eq-eqb t whole_tag e)); body = rw e h }

  pub holds_float : t ≡ float_tag → is_field_with is_value b ≡ true → Holds t b
  holds_float e h = record { tag = or_r (eqb t place_tag) (or_r (eqb t whole_tag) (eq-eqb t float_tag e)); body = rw e h }

holds_entry : (s : List ℕ) → whole_of s ≡ true → Holds (tag_of s) (body_of s) → is_entry s ≡ true
holds_entry s w H = ⊎_elim (λ z. at_place (eqb-true _ _ z)) (λ k. ⊎_elim (λ z. at_whole (eqb-true _ _ z)) (λ z. at_float (eqb-true _ _ z)) (either _ _ k)) (either _ _ H.tag)
  where
    at_place : tag_of s ≡ place_tag → is_entry s ≡ true
    at_place e = place_entry s w e ∙ (rw e at H.body)

    at_whole : tag_of s ≡ whole_tag → is_entry s ≡ true
    at_whole e = value_entry s whole w e ∙ (rw e at H.body)

    at_float : tag_of s ≡ float_tag → is_entry s ≡ true
    at_float e = value_entry s float w e ∙ (rw e at H.body)

tag_take : (n : ℕ) (s : List ℕ) → tag_of (take (suc n) s) ≡ tag_of s
tag_take n [] = refl
tag_take n (x ∷ s) = refl

-- ---- where entries end

module _ (s : List ℕ) where
  pub ends_nowhere : is_entry s ≡ false → None ≡ end_of s
  ends_nowhere h = rw h

  pub ends_there : is_entry s ≡ true → Some (3 + size_of s) ≡ end_of s
  ends_there h = rw h

  pub no_end : None ≡ end_of s → is_entry s ≡ false
  no_end e = go (split (is_entry s))
    where
      go : (is_entry s ≡ true) ⊎ (is_entry s ≡ false) → is_entry s ≡ false
      go (inl h) = let k = e ∙ sym (ends_there h) in cc
      go (inr h) = h

  module _ {r : ℕ} (e : Some r ≡ end_of s) where
    pub some_end : is_entry s ≡ true
    some_end = go (split (is_entry s))
      where
        go : (is_entry s ≡ true) ⊎ (is_entry s ≡ false) → is_entry s ≡ true
        go (inl h) = h
        go (inr h) = let k = e ∙ sym (ends_nowhere h) in cc

    end_is : r ≡ 3 + size_of s
    end_is = let k = e ∙ sym (ends_there some_end) in cc

    pub end_fits : r ≤ length s
    end_fits = let k = end_is in omega (arith, whole_le s (entry_whole s some_end))

    pub end_rest : take (length s - r) (drop r s) ≡ rest_of s
    end_rest = ap (λ (k : ℕ). take (length s - k) (drop k s)) end_is ∙ cut_rest s (size_of s) refl

-- the first bytes that code takes, by a length in one byte
pub first : (s : List ℕ) {d : ℕ} → d ≡ 3 + size_of s → 3 + size_of s ≤ length s → IsFirst s (take d s)
unfolding whole_of
first s {d} e h = record { whole = le-leb (3 + size_of s) (length s) h; is = ap (λ (n : ℕ). take n s) e }

pub short_entry : (s : List ℕ) {b : List ℕ} → IsFirst s b → Holds (tag_of b) (drop 3 b) → Some (length b) ≡ end_of s
unfolding body_of
short_entry s {b} F H =
    let z = size_of s in
    let k : length b ≡ 3 + z = ap length F.is ∙ length-take-le (3 + z) s (whole_le s F.whole) in
    let m : 3 + z ≡ suc (z + 2) = omega arith in
    let t : tag_of b ≡ tag_of s = ap tag_of F.is ∙ ap (λ (n : ℕ). tag_of (take n s)) m ∙ tag_take (z + 2) s in
    let j : 3 + z - 3 ≡ z = omega arith in
    let d : drop 3 b ≡ body_of s = ap (drop 3) F.is ∙ drop_take 3 (3 + z) s ∙ ap (λ (n : ℕ). take n (drop 3 s)) j in
    ap Some k ∙ ends_there s (holds_entry s F.whole (rw (t, d) at H))

-- ---- a list

module _ (l : List ℕ) where
  pub list_long : list_most < length l → Err LongList ≡ checked (read_list l)
  unfolding read_list
  list_long h = rw (read_list, lt-leb (length l) list_most h)

  pub list_bad : length l ≤ list_most → every is_record l ≡ false → Err MalformedList ≡ checked (read_list l)
  unfolding read_list
  list_bad h e = rw (read_list, le-leb (length l) list_most h, e)

  pub list_good : length l ≤ list_most → every is_record l ≡ true → Ok tt ≡ checked (read_list l)
  unfolding read_list
  list_good h e = rw (read_list, le-leb (length l) list_most h, e)
