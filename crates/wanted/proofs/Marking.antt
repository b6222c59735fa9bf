-- The row of what a query wants, as it is marked: a place at a time, and place after place of the query's bytes.
use mathlib.Core.Path.{◌≡◌, refl, sym, ap, ◌∙◌}
use mathlib.Core.Logic.{◌⊎◌, inl, inr, ⊎_elim}
use Prim.Native.Nat.{ℕ, ◌%◌, ◌≤◌, ◌<◌}
use mathlib.Core.List.{List, [], ◌∷◌}
use mathlib.Core.Bool.{Bool, true, false, ◌||◌}
use native.Mathlib.Omega.{arith}
use lib.ListN.{length, get_or, drop, set, length-set}
use lib.Seq.{get_or-set_same, get_or-set_other}
use lib.Dec.{eqb}
use borrow.Author.Tests.{eqb-true, eqb-false, eq-eqb, ne_eqb}
use Rattle.rules.specs.Numbers.{field_most, field_tag, text_tag, word_tag}
use Rattle.rules.specs.Bytes.{body_of, rest_of, is_part}
use Rattle.rules.specs.Lists.{Entry, place, value}
use Rattle.rules.proofs.Bools.{clash, split, or_l, or_r, either}
use Rattle.entries.specs.Slots.{slots_many, hash_of}
use Rattle.entries.specs.Entry.{is_place, field_of, text_of}
use Rattle.wanted.specs.Wanted.{calls_by}
use Rattle.wanted.specs.Marks.{several, print_of, is_marked, Kept, Marked, Behind, WordAt, OtherAt, Looked, Somewhere, here, later, Marks}

-- ---- one mark

marked_by : (w : List ℕ) (m : ℕ) {v : ℕ} → get_or w (m % slots_many) 0 ≡ v → (v ≡ print_of m) ⊎ (v ≡ several) → is_marked w m ≡ true
marked_by w m e (inl h) = or_l _ (eq-eqb _ _ (e ∙ h))
marked_by w m e (inr h) = or_r (eqb (get_or w (m % slots_many) 0) (print_of m)) (eq-eqb _ _ (e ∙ h))

marked_of : (w : List ℕ) (m : ℕ) → is_marked w m ≡ true → (get_or w (m % slots_many) 0 ≡ print_of m) ⊎ (get_or w (m % slots_many) 0 ≡ several)
marked_of w m h = ⊎_elim (λ k. inl (eqb-true _ _ k)) (λ k. inr (eqb-true _ _ k)) (either (eqb (get_or w (m % slots_many) 0) (print_of m)) _ h)

module _ (w : List ℕ) (many : length w ≡ slots_many) where
  pub kept_same : Kept w w
  kept_same = record { many = many; stays = λ n h. h }

  -- v at i, where it passes all that was passed there
  set_kept : (i v : ℕ) → i < slots_many → ((m : ℕ) → m % slots_many ≡ i → is_marked w m ≡ true → (v ≡ print_of m) ⊎ (v ≡ several)) → Kept w (set w i v)
  set_kept i v h f = record {
    many = length-set w i v ∙ many;
    stays = λ m k. go m k (split (eqb (m % slots_many) i));
  }
    where
      go : (m : ℕ) → is_marked w m ≡ true → (eqb (m % slots_many) i ≡ true) ⊎ (eqb (m % slots_many) i ≡ false) → is_marked (set w i v) m ≡ true
      go m k (inl z) =
          let e : m % slots_many ≡ i = eqb-true _ _ z in
          marked_by (set w i v) m (ap (λ (j : ℕ). get_or (set w i v) j 0) e ∙ get_or-set_same w i v 0 (omega arith)) (f m e k)
      go m k (inr z) = rw (get_or-set_other w i (m % slots_many) v 0 (eqb-false _ _ z)) k

  module _ (n : ℕ) {i : ℕ} (ei : i ≡ n % slots_many) where
    set_is : (v : ℕ) → (v ≡ print_of n) ⊎ (v ≡ several) → is_marked (set w i v) n ≡ true
    set_is v h = marked_by (set w i v) n (ap (λ (j : ℕ). get_or (set w i v) j 0) (sym ei) ∙ get_or-set_same w i v 0 (omega arith)) h

    pub mark_new : {v : ℕ} → get_or w i 0 ≡ 0 → v ≡ print_of n → Marked w n (set w i v)
    mark_new {v} z e = record {
      kept = set_kept i v (omega arith) (λ m h k. let g : get_or w (m % slots_many) 0 ≡ 0 = ap (λ (j : ℕ). get_or w j 0) h ∙ z in
          ⊎_elim (λ y. absurd (omega arith)) (λ y. absurd (omega arith)) (marked_of w m k));
      is = set_is v (inl e);
    }

    pub mark_several : Marked w n (set w i several)
    mark_several = record { kept = set_kept i several (omega arith) (λ m h k. inr refl); is = set_is several (inr refl) }

    pub mark_same : {v : ℕ} → get_or w i 0 ≡ v → v ≡ print_of n → Marked w n w
    mark_same e k = record { kept = kept_same; is = marked_by w n (ap (λ (j : ℕ). get_or w j 0) (sym ei) ∙ e) (inl k) }

pub marked_else : (w : List ℕ) (n : ℕ) → (get_or w (n % slots_many) 0 ≡ print_of n → ⊥) → eqb (get_or w (n % slots_many) 0) several ≡ is_marked w n
marked_else w n h = rw (ne_eqb (get_or w (n % slots_many) 0) (print_of n) h)

-- ---- one entry

module _ (w : List ℕ) (r : Bool) where
  pub calls_number : (x : Entry) → is_place x ≡ false → r ≡ calls_by hash_of (is_marked w) (λ f. r) x
  calls_number (place f y t) h = clash refl h
  calls_number (value n f b) h = refl

  pub calls_text : (x : Entry) {f t : List ℕ} {n : ℕ} → is_place x ≡ true → f ≡ field_of x → t ≡ text_of x → n ≡ hash_of f t
      → is_marked w n ≡ calls_by hash_of (is_marked w) (λ f. r) x
  calls_text (place g y u) h ef et en = rw (en, ef, et)
  calls_text (value k g b) h ef et en = clash h refl

-- ---- behind a field

module _ {w f t : List ℕ} where
  pub behind_text : {n : ℕ} {u after : List ℕ} → is_part text_tag t ≡ true → u ≡ body_of t → n ≡ hash_of f u → Marked w n after → Behind w f t after false
  behind_text {n} {u} {after} h eu en M = record {
    kept = M.kept;
    words = λ m W. ⊎_elim
        (λ k. let e : n ≡ m = en ∙ ap (hash_of f) (eu ∙ k.1) ∙ W.hash in rw e at M.is)
        (λ k. clash h k.0)
        W.found;
    others = λ o. clash h o.0;
  }

  pub behind_other : length w ≡ slots_many → is_part text_tag t ≡ false → is_part word_tag t ≡ false → Behind w f t w true
  behind_other l h k = record {
    kept = kept_same w l;
    words = λ m W. ⊎_elim (λ z. clash z.0 h) (λ z. clash z.1 k) W.found;
    others = λ o. refl;
  }

  pub behind_word : {n : ℕ} {u after : List ℕ} → is_part text_tag t ≡ false → is_part word_tag t ≡ true → u ≡ drop 4 (body_of t) → n ≡ hash_of f u → Marked w n after
      → Behind w f t after false
  behind_word {n} {u} {after} h j eu en M = record {
    kept = M.kept;
    words = λ m W. ⊎_elim
        (λ k. clash k.0 h)
        (λ k. let e : n ≡ m = en ∙ ap (hash_of f) (eu ∙ k.3) ∙ W.hash in rw e at M.is)
        W.found;
    others = λ o. clash j o.1;
  }

  pub behind_short : length w ≡ slots_many → is_part text_tag t ≡ false → is_part word_tag t ≡ true → length (body_of t) < 4 → Behind w f t w false
  behind_short l h j s = record {
    kept = kept_same w l;
    words = λ m W. ⊎_elim (λ k. clash k.0 h) (λ k. absurd (let z = k.2 in omega arith)) W.found;
    others = λ o. clash j o.1;
  }

-- ---- at a place

module _ {w s : List ℕ} where
  pub looked_not : length w ≡ slots_many → is_part field_tag s ≡ false → Looked w s w false
  looked_not l h = record { kept = kept_same w l; words = λ n W. clash W.0.0 h; others = λ o. clash o.0.0 h }

  pub looked_long : {f : List ℕ} → length w ≡ slots_many → f ≡ body_of s → field_most < length f → Looked w s w false
  looked_long l ef h = record {
    kept = kept_same w l;
    words = λ n W. absurd (let k = W.0.1 in let e = ap length ef in omega arith);
    others = λ o. absurd (let k = o.0.1 in let e = ap length ef in omega arith);
  }

  pub looked_behind : {f t after : List ℕ} {r : Bool} → f ≡ body_of s → t ≡ rest_of s → Behind w f t after r → Looked w s after r
  looked_behind ef et B = record {
    kept = B.kept;
    words = λ n W. B.words n (rw (ef, et) W.1);
    others = λ o. B.others (rw et o.1);
  }

-- ---- place after place

pub record Going (q w t : List ℕ) (ranges : Bool) : Type 0 where
  pub many : length w ≡ slots_many
  pub words : (n : ℕ) → Somewhere (WordAt n) q → (is_marked w n ≡ true) ⊎ Somewhere (WordAt n) t
  pub others : Somewhere OtherAt q → (ranges ≡ true) ⊎ Somewhere OtherAt t

pub going_start : {q w : List ℕ} → length w ≡ slots_many → Going q w q false
going_start l = record { many = l; words = λ n S. inr S; others = λ S. inr S }

-- at the front, or behind it
front_or_later : {P : List ℕ → Type 0} (t : List ℕ) → Somewhere P t → P t ⊎ Somewhere P (drop 1 t)
front_or_later {P = P} [] S = elim S [ ]
front_or_later (x ∷ s) (here h) = inl h
front_or_later (x ∷ s) (later S) = inr S

pub going_next : {q w t after u : List ℕ} {ranges r more : Bool} → Going q w t ranges → Looked w t after r → more ≡ (ranges || r) → u ≡ drop 1 t → Going q after u more
going_next {t = t} {ranges = ranges} {r = r} G L em eu = record {
  many = L.kept.many;
  words = λ n S. ⊎_elim (λ h. inl (L.kept.stays n h)) (λ T. ⊎_elim (λ p. inl (L.words n p)) (λ U. inr (rw eu U)) (front_or_later t T)) (G.words n S);
  others = λ S. ⊎_elim (λ h. inl (em ∙ or_l r h)) (λ T. ⊎_elim (λ p. inl (em ∙ or_r ranges (L.others p))) (λ U. inr (rw eu U)) (front_or_later t T)) (G.others S);
}

somewhere_long : {P : List ℕ → Type 0} (t : List ℕ) → Somewhere P t → 0 < length t
somewhere_long {P = P} [] S = elim S [ ]
somewhere_long (x ∷ s) S = omega arith

pub going_end : {q w t : List ℕ} {ranges : Bool} → Going q w t ranges → length t ≤ 0 → Marks q w ranges
going_end {t = t} G h = record {
  many = G.many;
  words = λ n S. ⊎_elim (λ k. k) (λ T. absurd (omega (arith, somewhere_long t T))) (G.words n S);
  others = λ S. ⊎_elim (λ k. k) (λ T. absurd (omega (arith, somewhere_long t T))) (G.others S);
}
