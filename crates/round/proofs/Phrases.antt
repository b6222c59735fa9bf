-- A phrase at its place: where its field and its words stand, and what it becomes.
use mathlib.Core.Path.{◌≡◌, refl, sym, ap, ◌∙◌}
use Prim.Native.Nat.{ℕ, ◌+◌, ◌-◌, ◌≤◌, ◌<◌}
use mathlib.Core.List.{List, [], ◌∷◌, ◌++◌, append_assoc}
use native.Mathlib.Omega.{arith}
use lib.ListN.{length, drop, length-append}
use Rattle.rules.specs.Numbers.{phrase_tag, term_tag, field_tag, text_tag, word_tag}
use Rattle.rules.specs.Bytes.{big, part, size_of}
use Rattle.rules.specs.Query.{Word, word, phrase, term, match_none}
use Rattle.rules.specs.Stored.{encode, encode_words}
use Rattle.rules.specs.Checked.{Is}
use Rattle.rules.specs.Rewriting.{phrased}
use Rattle.rules.proofs.Stored.Parts.{cut_from}
use Rattle.numbers.specs.Laid.{header, Put}
use Rattle.places.specs.Within.{within, Stands}
use Rattle.round.specs.Over.{Phrase}
use Rattle.places.proofs.Standing.{split_at, first, second, both_length, within_length, stands_put}
use Rattle.merging.proofs.Placed.{PartAt, part_at}

module _ (room : List ℕ) (at end : ℕ) (f : List ℕ) (ws : List Word) (i : Is (within at end room) (phrase f ws)) (low : at ≤ end) (fits : end ≤ length room) where
  body_form : within at end room ≡ header phrase_tag (length (part field_tag f ++ encode_words ws)) ++ (part field_tag f ++ encode_words ws)
  unfolding encode
  body_form = sym i.form

  pub phrase_long : (at + 6 + length f + length (encode_words ws) ≡ end)
  phrase_long =
      omega (
        arith,
        both_length room at end (header phrase_tag (length (part field_tag f ++ encode_words ws))) (part field_tag f ++ encode_words ws) low fits body_form,
        length-append (part field_tag f) (encode_words ws),
      )

  body_here : within (at + 3) end room ≡ part field_tag f ++ encode_words ws
  body_here = second room at end (header phrase_tag (length (part field_tag f ++ encode_words ws))) (part field_tag f ++ encode_words ws) low fits body_form

  three : at + 3 ≤ end
  three = omega (arith, phrase_long)

  pub field_at : PartAt room (at + 3) field_tag f
  field_at = part_at room (at + 3) field_tag f (encode_words ws ++ drop end room)
      (split_at room (at + 3) end three ∙ ap {B = List ℕ} (λ l. l ++ drop end room) body_here ∙ append_assoc (part field_tag f) (encode_words ws) (drop end room))

  -- where the code says that the words begin
  module _ (w : ℕ) (ew : w ≡ at + 3 + 3 + size_of (drop (at + 3) room)) where
    pub words_place : w ≡ at + 6 + length f
    words_place = omega (arith, field_at.size)

    long_field_lem : at + 3 + length (part field_tag f) ≡ w
    long_field_lem = omega (arith, words_place)

    pub field_here : within (at + 3) w room ≡ part field_tag f
    field_here = ap (λ (k : ℕ). within (at + 3) k room) (sym long_field_lem) ∙ first room (at + 3) end (part field_tag f) (encode_words ws) three fits body_here

    pub words_here : within w end room ≡ encode_words ws
    words_here = ap (λ (k : ℕ). within k end room) (sym long_field_lem) ∙ second room (at + 3) end (part field_tag f) (encode_words ws) three fits body_here

    pub no_word : w ≡ end → phrased f ws ≡ match_none
    unfolding phrased encode_words
    no_word e = go ws (omega (arith, words_place, phrase_long))
      where
        go : (ws : List Word) → length (encode_words ws) ≡ 0 → phrased f ws ≡ match_none
        go [] h = refl
        go (word p t ∷ ws) h = absurd (omega arith)

    -- the first word
    pub record FirstWord : Type 0 where
      pub position : ℕ
      pub text : List ℕ
      pub others : List Word
      pub is : ws ≡ word position text ∷ others
      pub part : PartAt room w word_tag (big 4 position ++ text)
      pub here : within (w + 7) (w + 7 + length text) room ≡ text
      pub top : w + 7 + length text + length (encode_words others) ≡ end

    pub first_word : (w ≡ end → ⊥) → FirstWord
    unfolding encode_words
    first_word n = go ws words_here refl (omega (arith, words_place, phrase_long))
      where
        go : (vs : List Word) → within w end room ≡ encode_words vs → ws ≡ vs → w + length (encode_words vs) ≡ end → FirstWord
        go [] e d l = absurd (n (omega arith))
        go (word p t ∷ vs) e d l =
            let b = big 4 p ++ t in
            let g : w ≤ end = omega arith in
            let z : length (Rattle.rules.specs.Bytes.part word_tag b ++ encode_words vs) ≡ 7 + length t + length (encode_words vs) =
            omega (arith, length-append (Rattle.rules.specs.Bytes.part word_tag b) (encode_words vs)) in
            let hd = header word_tag (length b) ++ big 4 p in
            let q : within (w + 7) end room ≡ t ++ encode_words vs = second room w end hd (t ++ encode_words vs) g fits e in
            record {
              position = p;
              text = t;
              others = vs;
              is = d;
              part = part_at room w word_tag b (encode_words vs ++ drop end room)
                  (split_at room w end g ∙ ap {B = List ℕ} (λ s. s ++ drop end room) e ∙ append_assoc (Rattle.rules.specs.Bytes.part word_tag b) (encode_words vs) (drop end room));
              here = first room (w + 7) end t (encode_words vs) (omega arith) fits q;
              top = omega arith;
            }

    module _ (F : FirstWord) (v : ℕ) (ev : v ≡ w + 3 + size_of (drop w room)) where
      next_place : v ≡ w + 7 + length F.text
      next_place = omega (arith, F.part.size, length-append (big 4 F.position) F.text)

      pub one_word : v ≡ end → encode (phrased f ws) ≡ part term_tag (within (at + 3) w room ++ part text_tag (within (w + 7) end room))
      unfolding phrased encode encode_words
      one_word e = ap (λ (vs : List Word). encode (phrased f vs)) F.is ∙ go F.others (omega (arith, F.top, next_place)) ∙ rw (field_here, text_here)
        where
          text_here : within (w + 7) end room ≡ F.text
          text_here = ap (λ (k : ℕ). within (w + 7) k room) (sym e ∙ next_place) ∙ F.here

          go : (vs : List Word) → length (encode_words vs) ≡ 0 → encode (phrased f (word F.position F.text ∷ vs)) ≡ encode (term f F.text)
          go [] h = refl
          go (word p t ∷ vs) h = absurd (omega arith)

      pub more_words : (v ≡ end → ⊥) → phrased f ws ≡ phrase f ws
      unfolding phrased encode_words
      more_words n = ap (phrased f) F.is ∙ go F.others (λ z. n (omega (arith, F.top, next_place))) ∙ ap (phrase f) (sym F.is)
        where
          go : (vs : List Word) → (length (encode_words vs) ≡ 0 → ⊥) → phrased f (word F.position F.text ∷ vs) ≡ phrase f (word F.position F.text ∷ vs)
          go [] h = absurd (h refl)
          go (v ∷ vs) h = refl

-- what a phrase's record says of its places
module _ {at : ℕ} {room : List ℕ} (P : Phrase at room) where
  -- what is shown of the stretch up to the end of the room is shown of what stands from `at` on
  pub phrase_at : (f : List ℕ) (ws : List Word) → Is (drop at room) (phrase f ws) → Is (within at (length room) room) (phrase f ws)
  phrase_at f ws i = record { valid = i.valid; form = i.form ∙ sym (cut_from at room) }

  pub own_phrase : Is (within at (length room) room) (phrase P.field P.words)
  own_phrase = phrase_at P.field P.words P.is

  pub phrase_room : (at + 6 ≤ length room) × (length room - at < 65536)
  phrase_room = (omega (arith, phrase_long room at (length room) P.field P.words own_phrase P.low (omega arith)), P.small)

-- the term that was put in the place of a phrase of one word
pub one_word_stands : (room : List ℕ) (at : ℕ) (f : List ℕ) (ws : List Word) (i : Is (within at (length room) room) (phrase f ws)) (low : at ≤ length room)
    (w : ℕ) (ew : w ≡ at + 3 + 3 + size_of (drop (at + 3) room)) (n : w ≡ length room → ⊥) (v : ℕ) → v ≡ w + 3 + size_of (drop w room) → v ≡ length room → {p : ℕ} {room' : List ℕ}
    → Put room 0 (part term_tag (within (at + 3) w room ++ part text_tag (within (w + 7) (length room) room))) p room' → Stands 0 room p (encode (phrased f ws)) room'
one_word_stands room at f ws i low w ew n v ev e {p} P =
    let end = length room in
    let all : end ≤ length room = omega arith in
    let F = first_word room at end f ws i low all w ew n in
    let pl = words_place room at end f ws i low all w ew in
    let top = F.top in
    let x = within (at + 3) w room in
    let y = within (w + 7) end room in
    let lx = within_length room (at + 3) w (omega arith) (omega arith) in
    let ly = within_length room (w + 7) end (omega arith) all in
    let l = length-append x (part text_tag y) in
    rw (one_word room at end f ws i low all w ew F v ev e) (stands_put P p (omega (arith, P.place)) (omega (arith, P.place)))
