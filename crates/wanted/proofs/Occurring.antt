-- What a query wants stands somewhere in its bytes. So a row in which all that is there is marked passes what the query wants.
use mathlib.Core.Path.{◌≡◌, refl, ap, ◌∙◌}
use mathlib.Core.Logic.{inl, inr, ⊎_elim}
use Prim.Native.Nat.{ℕ}
use mathlib.Core.List.{List, [], ◌∷◌, ◌++◌, append_assoc, append-nil}
use mathlib.Core.Bool.{Bool, true, false}
use native.Mathlib.Omega.{arith}
use lib.ListN.{length, drop, length-append}
use lib.Seq.{drop_at}
use lib.Dec.{leb}
use borrow.Author.Tests.{eqb-true, leb-true}
use Rattle.rules.specs.Numbers.{field_most, field_tag, text_tag, word_tag, term_tag, phrase_tag, boolean_tag, boost_tag, constant_score_tag, minimum_tag, open_tag, included_tag, excluded_tag}
use Rattle.rules.specs.Bytes.{is_text, is_field, big, part, is_part, some}
use Rattle.rules.specs.Query.{word, whole, float, Bound, unbounded, included, excluded, Query, term, phrase, boolean, boost, constant_score, match_all, match_none, range, Clauses, none, clause}
use Rattle.rules.specs.Stored.{kind_tag, range_tag, encode_bound, encode_words, encode, encodes, Valid, Valids}
use Rattle.rules.specs.Checked.{Is}
use Rattle.rules.specs.Lists.{Entry}
use Rattle.rules.specs.Matching.{matches}
use Rattle.rules.proofs.Bools.{clash, and_l, either}
use Rattle.rules.proofs.Stored.Bigs.{length_big}
use Rattle.rules.proofs.Stored.Parts.{is_part_lem, no_part, body_part, rest_part}
use Rattle.entries.specs.Slots.{hash_of}
use Rattle.wanted.specs.Wanted.{wants, wants_in, wants_numbers, wants_numbers_in, calls_by}
use Rattle.wanted.specs.Marks.{is_marked, FieldAt, WordAt, OtherAt, Somewhere, here, later, Marks}
use Rattle.wanted.proofs.Law.{wider_empty}

behind : {P : List ℕ → Type 0} (a : List ℕ) {s : List ℕ} → Somewhere P s → Somewhere P (a ++ s)
behind [] S = S
behind (x ∷ a) S = later (behind a S)

inside : {P : List ℕ → Type 0} (t : ℕ) (b r : List ℕ) → Somewhere P (b ++ r) → Somewhere P (part t b ++ r)
inside t b r S = later (later (later S))

-- inside a part, behind another
inside_behind : {P : List ℕ → Type 0} (t : ℕ) (a b r : List ℕ) → Somewhere P (b ++ r) → Somewhere P (part t (a ++ b) ++ r)
inside_behind t a b r S = inside t (a ++ b) r (rw append_assoc (behind a S))

-- at the front of a part
inside_front : {P : List ℕ → Type 0} (t k : ℕ) (f b r : List ℕ) → P (part k f ++ (b ++ r)) → Somewhere P (part t (part k f ++ b) ++ r)
inside_front t k f b r h = inside t (part k f ++ b) r (rw append_assoc (here h))

-- a field at the front
field_there : (f r : List ℕ) → is_field f ≡ true → FieldAt (part field_tag f ++ r)
field_there f r v = (
  is_part_lem field_tag f r,
  rw (body_part field_tag f r) (leb-true (length f) field_most (and_l (leb (length f) field_most) (is_text f) v)),
)

term_there : (f t r : List ℕ) {n : ℕ} → is_field f ≡ true → hash_of f t ≡ n → WordAt n (part field_tag f ++ (part text_tag t ++ r))
term_there f t r v e = (
  field_there f _ v,
  rw (body_part field_tag f (part text_tag t ++ r), rest_part field_tag f (part text_tag t ++ r))
      (record { text = t; found = inl (is_part_lem text_tag t r, body_part text_tag t r); hash = e }),
)

word_there : (f t r : List ℕ) (p : ℕ) {n : ℕ} → is_field f ≡ true → hash_of f t ≡ n → WordAt n (part field_tag f ++ (part word_tag (big 4 p ++ t) ++ r))
word_there f t r p v e = (
  field_there f _ v,
  rw (body_part field_tag f (part word_tag (big 4 p ++ t) ++ r), rest_part field_tag f (part word_tag (big 4 p ++ t) ++ r))
      (record {
        text = t;
        found = inr (
          no_part word_tag (big 4 p ++ t) r text_tag (λ z. omega arith),
          is_part_lem word_tag (big 4 p ++ t) r,
          rw (body_part word_tag (big 4 p ++ t) r) (omega (arith, length-append (big 4 p) t, length_big 4 p)),
          ap (drop 4) (body_part word_tag (big 4 p ++ t) r) ∙ drop_at (big 4 p) t 4 (length_big 4 p),
        );
        hash = e;
      }),
)

no_words : (l : Bound) (r : List ℕ) → (is_part text_tag (encode_bound l ++ r) ≡ false) × (is_part word_tag (encode_bound l ++ r) ≡ false)
no_words unbounded r = (no_part open_tag [] r text_tag (λ z. omega arith), no_part open_tag [] r word_tag (λ z. omega arith))
no_words (included x) r = (no_part included_tag (big 8 x) r text_tag (λ z. omega arith), no_part included_tag (big 8 x) r word_tag (λ z. omega arith))
no_words (excluded x) r = (no_part excluded_tag (big 8 x) r text_tag (λ z. omega arith), no_part excluded_tag (big 8 x) r word_tag (λ z. omega arith))

range_there : (f : List ℕ) (l : Bound) (r : List ℕ) → is_field f ≡ true → OtherAt (part field_tag f ++ (encode_bound l ++ r))
range_there f l r v = (field_there f _ v, rw (rest_part field_tag f (encode_bound l ++ r)) (no_words l r))

range_there_in : (k : ℕ) (f : List ℕ) (l u : Bound) (r : List ℕ) → is_field f ≡ true → Somewhere OtherAt (part k (part field_tag f ++ encode_bound l ++ encode_bound u) ++ r)
range_there_in k f l u r v =
    inside k (part field_tag f ++ encode_bound l ++ encode_bound u) r
    (rw (append_assoc (part field_tag f ++ encode_bound l) (encode_bound u) r, append_assoc (part field_tag f) (encode_bound l) (encode_bound u ++ r))
    (here (range_there f l (encode_bound u ++ r) v)))

mutual
  unfolding encode encodes encode_words wants Valid

  words_there : (q : Query) (r : List ℕ) (n : ℕ) → Valid q → wants hash_of q n ≡ true → Somewhere (WordAt n) (encode q ++ r)
  words_there (term f t) r n v h = inside_front term_tag field_tag f (part text_tag t) r (term_there f t r v.0 (eqb-true _ _ h))
  words_there (phrase f []) r n v h = clash h refl
  words_there (phrase f (word p t ∷ ws)) r n v h =
      inside_front phrase_tag field_tag f (part word_tag (big 4 p ++ t) ++ encode_words ws) r
      (rw (append_assoc (part word_tag (big 4 p ++ t)) (encode_words ws) r) (word_there f t (encode_words ws ++ r) p v.0 (eqb-true _ _ h)))
  words_there (boolean m cs) r n v h = inside_behind boolean_tag (part minimum_tag (big 2 m)) (encodes cs) r (words_there_in cs r n v.1 h)
  words_there (boost b q) r n v h = inside_behind boost_tag (big 4 b) (encode q) r (words_there q r n v.1 h)
  words_there (constant_score q) r n v h = inside constant_score_tag (encode q) r (words_there q r n v h)
  words_there match_all r n v h = clash h refl
  words_there match_none r n v h = clash h refl
  words_there (range k f l u) r n v h = clash h refl

  words_there_in : (cs : Clauses) (r : List ℕ) (n : ℕ) → Valids cs → wants_in hash_of cs n ≡ true → Somewhere (WordAt n) (encodes cs ++ r)
  words_there_in none r n v h = clash h refl
  words_there_in (clause k q cs) r n v h =
      rw (append_assoc (part (kind_tag k) (encode q)) (encodes cs) r)
      (⊎_elim
      (λ z. inside (kind_tag k) (encode q) (encodes cs ++ r) (words_there q (encodes cs ++ r) n v.0 z))
      (λ z. behind (part (kind_tag k) (encode q)) (words_there_in cs r n v.1 z))
      (either (wants hash_of q n) (wants_in hash_of cs n) h))

mutual
  unfolding encode encodes wants_numbers Valid

  ranges_there : (q : Query) (r g : List ℕ) → Valid q → wants_numbers q g ≡ true → Somewhere OtherAt (encode q ++ r)
  ranges_there (term f t) r g v h = clash h refl
  ranges_there (phrase f ws) r g v h = clash h refl
  ranges_there (boolean m cs) r g v h = inside_behind boolean_tag (part minimum_tag (big 2 m)) (encodes cs) r (ranges_there_in cs r g v.1 h)
  ranges_there (boost b q) r g v h = inside_behind boost_tag (big 4 b) (encode q) r (ranges_there q r g v.1 h)
  ranges_there (constant_score q) r g v h = inside constant_score_tag (encode q) r (ranges_there q r g v h)
  ranges_there match_all r g v h = clash h refl
  ranges_there match_none r g v h = clash h refl
  ranges_there (range whole f l u) r g v h = range_there_in (range_tag whole) f l u r v.0
  ranges_there (range float f l u) r g v h = range_there_in (range_tag float) f l u r v.0

  ranges_there_in : (cs : Clauses) (r g : List ℕ) → Valids cs → wants_numbers_in cs g ≡ true → Somewhere OtherAt (encodes cs ++ r)
  ranges_there_in none r g v h = clash h refl
  ranges_there_in (clause k q cs) r g v h =
      rw (append_assoc (part (kind_tag k) (encode q)) (encodes cs) r)
      (⊎_elim
      (λ z. inside (kind_tag k) (encode q) (encodes cs ++ r) (ranges_there q (encodes cs ++ r) g v.0 z))
      (λ z. behind (part (kind_tag k) (encode q)) (ranges_there_in cs r g v.1 z))
      (either (wants_numbers q g) (wants_numbers_in cs g) h))

-- a record in which nothing is called is to the query as the empty one is
pub unwanted_empty : {s w : List ℕ} {r : Bool} → Marks s w r → (q : Query) → Is s q → (es : List Entry)
    → some (calls_by hash_of (is_marked w) (λ f. r)) es ≡ false → matches es q ≡ matches [] q
unwanted_empty {s} {w} {r} M q i es z =
    let e : encode q ++ [] ≡ s = append-nil (encode q) ∙ i.form in
    wider_empty hash_of q es (is_marked w) (λ f. r)
    (λ n h. M.words n (rw e at (words_there q [] n i.valid h)))
    (λ g h. M.others (rw e at (ranges_there q [] g i.valid h)))
    z
