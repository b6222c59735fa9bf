-- Slots as they are noted, an entry at a time, and what they say when they are looked at.
use mathlib.Core.Path.{◌≡◌, refl, sym, ap, ◌∙◌}
use mathlib.Core.Logic.{◌⊎◌, inl, inr, ⊎_elim}
use Prim.Native.Nat.{ℕ, ◌+◌, ◌-◌, ◌*◌, ◌/◌, ◌≤◌, ◌<◌}
use mathlib.Core.List.{List, [], ◌∷◌}
use mathlib.Core.Bool.{Bool, true, false}
use native.Mathlib.Omega.{arith}
use lib.ListN.{length, get_or, take, drop, set, length-set, length-drop}
use lib.Seq.{drop-drop, take_all, get_or-set_same, get_or-set_other}
use lib.Dec.{eqb}
use borrow.Author.Tests.{eqb-true, eqb-false, le-leb, lt-leb}
use Rattle.rules.specs.Bytes.{of_big, is_empty, size_of, rest_of, every, each, some, same}
use Rattle.rules.specs.Lists.{Entry, place, value, is_entry, entry_of}
use Rattle.rules.specs.Matching.{is_here, has_term}
use Rattle.rules.proofs.Bools.{clash, split, fails, alike, and_l, and_r, or_r, either}
use Rattle.rules.proofs.Stored.Equal.{same_eq}
use Rattle.rules.proofs.Stored.Parts.{more_empty, less_empty, length_rest, whole_le, rest_shorter, cut_from}
use Rattle.rules.proofs.Stored.Rows.{first, others, each_next, some_done, some_yes}
use Rattle.entries.specs.Slots.{tail_of, slot_of, Before, Stands, Crowded, Standing, Found, Lands, alone, again, crowd, NotedBy, Noted}
use Rattle.entries.specs.Entry.{is_place, field_of, text_of}
use Rattle.entries.proofs.Entries.{entry_whole}

-- ---- the hash

pub none_there : (s : List ℕ) → length s ≡ 0 → (i : ℕ) → get_or s i 0 ≡ 0
none_there [] h i = refl
none_there (x ∷ s) h i = absurd (let k : length (x ∷ s) ≡ 0 = h in omega arith)

module _ (t : List ℕ) where
  pub tail_long : {r : ℕ} → 4 ≤ length t → r ≡ of_big (take 4 (take (length t - (length t - 4)) (drop (length t - 4) t))) → r ≡ tail_of t
  tail_long {r} h k =
      let l : length (drop (length t - 4) t) ≤ 4 = simp length-drop (omega arith) in
      k ∙ rw (le-leb 4 (length t) h, cut_from (length t - 4) t) (ap of_big (take_all 4 (drop (length t - 4) t) l))

  pub tail_none : length t ≡ 0 → 0 ≡ tail_of t
  tail_none h = rw (lt-leb 4 (length t) (omega arith), none_there t h 0, none_there t h (length t / 2), none_there t h (length t / 2 + length t / 3))

  pub tail_short : length t < 4 → tail_of t ≡ (get_or t 0 0 * 256 + get_or t (length t / 2) 0) * 256 + get_or t (length t / 2 + length t / 3) 0
  tail_short h = rw (lt-leb 4 (length t) h)

-- ---- one entry

module _ (slots rec : List ℕ) (from at : ℕ) where
  pub noted_not : (x : Entry) → is_place x ≡ false → NotedBy slots from rec at x slots
  noted_not (place f y t) h = clash refl h
  noted_not (value n f b) h = refl

  pub noted_place : (x : Entry) {f t after : List ℕ} → is_place x ≡ true → f ≡ field_of x → t ≡ text_of x → Lands slots from rec at f t after → NotedBy slots from rec at x after
  noted_place (place g y u) h ef et L = rw (ef, et) at L
  noted_place (value n g b) h ef et L = clash h refl

  -- by what the slot i holds
  module _ (f t : List ℕ) {i : ℕ} (ei : i ≡ slot_of f t) where
    same_slot : get_or slots (slot_of f t) 0 ≡ get_or slots i 0
    same_slot = ap (λ (j : ℕ). get_or slots j 0) (sym ei)

    pub lands_alone : get_or slots i 0 < from → Lands slots from rec at f t (set slots i at)
    lands_alone h = alone (rw same_slot h) (ap (λ (j : ℕ). set slots j at) ei)

    module _ (h : from ≤ get_or slots i 0) where
      pub lands_crowded : get_or slots i 0 - from + 1 ≡ length rec → Lands slots from rec at f t slots
      lands_crowded c = again (record { later = rw same_slot h; is = inl (rw same_slot (omega arith)) }) refl

      pub lands_again : {s : List ℕ} → s ≡ drop (get_or slots i 0 - from) rec → is_here f t (entry_of s) ≡ true → Lands slots from rec at f t slots
      lands_again es k = again (record { later = rw same_slot h; is = inr (rw (same_slot, ← es) k) }) refl

    pub lands_in_crowd : 0 < length rec → Lands slots from rec at f t (set slots i (from + length rec - 1))
    lands_in_crowd m =
        crowd (from + length rec - 1) (omega arith) (omega arith) (ap (λ (j : ℕ). set slots j (from + length rec - 1)) ei)

-- where a slot says that an entry stands, and it is not shared
module _ {slots rec : List ℕ} {from : ℕ} (S : Standing slots from rec) (i : ℕ) (h : from ≤ get_or slots i 0) (n : get_or slots i 0 - from + 1 ≡ length rec → ⊥) where
  pub slot_stands : Stands rec (get_or slots i 0 - from)
  slot_stands = ⊎_elim (λ c. absurd (n (omega arith))) (λ s. s) (S.stands i h)

-- ---- a record's entries, noted up to those of e

pub record Upto (rec : List ℕ) (from : ℕ) (e slots : List ℕ) : Type 0 where
  pub sound : every is_entry e ≡ true
  pub fits : length e ≤ length rec
  pub tail : drop (length rec - length e) rec ≡ e
  pub inside : (P : Entry → Bool) → some P (each entry_of e) ≡ true → some P (each entry_of rec) ≡ true
  pub below : (i : ℕ) → get_or slots i 0 < from + length rec
  pub standing : Standing slots from rec
  pub notes : (f t : List ℕ) → has_term (each entry_of rec) f t ≡ true → Found slots from rec f t ⊎ (has_term (each entry_of e) f t ≡ true)

pub noting_start : {rec slots : List ℕ} {from : ℕ} → Before slots from → every is_entry rec ≡ true → Upto rec from rec slots
noting_start {rec} {slots} B h = record {
  sound = h;
  fits = omega arith;
  tail = let z : length rec - length rec ≡ 0 = omega arith in rw z;
  inside = λ P k. k;
  below = λ i. omega (arith, B.below i);
  standing = record { many = B.many; stands = λ i k. absurd (omega (arith, B.below i)) };
  notes = λ f t k. inr k;
}

set_reads : (l : List ℕ) (j v i : ℕ) → j < length l → (get_or (set l j v) i 0 ≡ v) ⊎ (get_or (set l j v) i 0 ≡ get_or l i 0)
set_reads l j v i h = go (split (eqb i j))
  where
    go : (eqb i j ≡ true) ⊎ (eqb i j ≡ false) → (get_or (set l j v) i 0 ≡ v) ⊎ (get_or (set l j v) i 0 ≡ get_or l i 0)
    go (inl z) = inl (rw (eqb-true i j z) (get_or-set_same l j v 0 h))
    go (inr z) = inr (get_or-set_other l j i v 0 (eqb-false i j z))

some_later : (P : Entry → Bool) (s : List ℕ) → is_empty s ≡ false → some P (each entry_of (rest_of s)) ≡ true → some P (each entry_of s) ≡ true
unfolding some
some_later P s e h = ap (some P) (each_next entry_of s e) ∙ or_r (P (entry_of s)) h

-- the first entry has the field and the text, or a later one
one_or_later : (f t s : List ℕ) → is_empty s ≡ false → has_term (each entry_of s) f t ≡ true
    → (is_here f t (entry_of s) ≡ true) ⊎ (has_term (each entry_of (rest_of s)) f t ≡ true)
unfolding has_term some
one_or_later f t s e h = either (is_here f t (entry_of s)) _ (sym (ap (some (is_here f t)) (each_next entry_of s e)) ∙ h)

module _ {rec e slots : List ℕ} {from : ℕ} (N : Upto rec from e slots) (more : 0 < length e) where
  -- where the entry at hand stands
  here : Stands rec (length rec - length e)
  here = record {
    fits = omega arith;
    sound = rw N.tail (first is_entry e (more_empty e more) N.sound);
    among = λ P h. N.inside P (some_yes entry_of P e (more_empty e more) (rw N.tail at h));
  }

  pub noting_first : is_entry e ≡ true
  noting_first = first is_entry e (more_empty e more) N.sound

  rest_tail : {u : List ℕ} → u ≡ rest_of e → drop (length rec - length u) rec ≡ u
  unfolding rest_of
  rest_tail {u} h =
      let w = whole_le e (entry_whole e noting_first) in
      let f = N.fits in
      let l : length u ≡ length e - 3 - size_of e = ap length h ∙ length_rest e in
      let k : length rec - length u ≡ (length rec - length e) + (3 + size_of e) = omega arith in
      rw k (sym (drop-drop (3 + size_of e) (length rec - length e) rec) ∙ ap (drop (3 + size_of e)) N.tail ∙ sym (drop-drop (size_of e) 3 e) ∙ sym h)

  later : {u : List ℕ} → u ≡ rest_of e → (f t : List ℕ) → has_term (each entry_of e) f t ≡ true
      → (is_here f t (entry_of e) ≡ true) ⊎ (has_term (each entry_of u) f t ≡ true)
  later eu f t h = rw eu (one_or_later f t e (more_empty e more) h)

  -- what the slots are after it, whatever it is
  record Kept (u after : List ℕ) : Type 0 where
    below : (i : ℕ) → get_or after i 0 < from + length rec
    standing : Standing after from rec
    notes : (f t : List ℕ) → has_term (each entry_of rec) f t ≡ true → Found after from rec f t ⊎ (has_term (each entry_of u) f t ≡ true)

  module _ {u : List ℕ} (eu : u ≡ rest_of e) where
    -- nothing changed, and the entry is found already
    kept_same : ((f t : List ℕ) → is_here f t (entry_of e) ≡ true → Found slots from rec f t) → Kept u slots
    kept_same own = record {
      below = N.below;
      standing = N.standing;
      notes = λ f t h. ⊎_elim inl (λ k. ⊎_elim (λ z. inl (own f t z)) inr (later eu f t k)) (N.notes f t h);
    }

    -- v at the slot of a field and a text
    module _ (g b : List ℕ) (v : ℕ) (low : from ≤ v) (high : v < from + length rec) where
      few : slot_of g b < length slots
      few = let m = N.standing.many in omega arith

      found_there : (f t : List ℕ) → slot_of f t ≡ slot_of g b → Crowded v from rec ⊎ (is_here f t (entry_of (drop (v - from) rec)) ≡ true)
          → Found (set slots (slot_of g b) v) from rec f t
      found_there f t e k =
          let r : get_or (set slots (slot_of g b) v) (slot_of f t) 0 ≡ v =
          ap (λ (i : ℕ). get_or (set slots (slot_of g b) v) i 0) e ∙ get_or-set_same slots (slot_of g b) v 0 few in
          record { later = rw r low; is = rw r k }

      found_else : (f t : List ℕ) → (slot_of f t ≡ slot_of g b → ⊥) → Found slots from rec f t → Found (set slots (slot_of g b) v) from rec f t
      found_else f t n F =
          let r : get_or (set slots (slot_of g b) v) (slot_of f t) 0 ≡ get_or slots (slot_of f t) 0 = get_or-set_other slots (slot_of g b) (slot_of f t) v 0 n in
          record { later = rw r F.later; is = rw r F.is }

      kept_set : Crowded v from rec ⊎ Stands rec (v - from)
          → ((f t : List ℕ) → slot_of f t ≡ slot_of g b → Found slots from rec f t → Found (set slots (slot_of g b) v) from rec f t)
          → ((f t : List ℕ) → is_here f t (entry_of e) ≡ true → Found (set slots (slot_of g b) v) from rec f t) → Kept u (set slots (slot_of g b) v)
      kept_set is shared own = record {
        below = λ i. ⊎_elim (λ z. omega arith) (λ z. omega (arith, N.below i)) (set_reads slots (slot_of g b) v i few);
        standing = record {
          many = length-set slots (slot_of g b) v ∙ N.standing.many;
          stands = λ i h. ⊎_elim (λ z. rw z is) (λ z. rw z (N.standing.stands i (rw z at h))) (set_reads slots (slot_of g b) v i few);
        };
        notes = λ f t h. ⊎_elim (λ k. inl (others f t k)) (λ k. ⊎_elim (λ z. inl (own f t z)) inr (later eu f t k)) (N.notes f t h);
      }
        where
          others : (f t : List ℕ) → Found slots from rec f t → Found (set slots (slot_of g b) v) from rec f t
          others f t F = ⊎_elim (λ z. shared f t (eqb-true _ _ z) F) (λ z. found_else f t (eqb-false _ _ z) F) (split (eqb (slot_of f t) (slot_of g b)))

    -- an entry has one slot
    own_slot : (f t g b : List ℕ) (y : ℕ) → is_here f t (place g y b) ≡ true → slot_of f t ≡ slot_of g b
    own_slot f t g b y h =
        let i : f ≡ g = same_eq f g (and_l (same f g) (same t b) h) in
        let j : t ≡ b = same_eq t b (and_r (same f g) (same t b) h) in
        rw (i, j)

    own_found : (f t g b : List ℕ) (y : ℕ) → is_here f t (place g y b) ≡ true → Found slots from rec g b → Found slots from rec f t
    own_found f t g b y h F =
        let i : f ≡ g = same_eq f g (and_l (same f g) (same t b) h) in
        let j : t ≡ b = same_eq t b (and_r (same f g) (same t b) h) in
        rw (i, j) F

    kept : {after : List ℕ} (x : Entry) → entry_of e ≡ x → NotedBy slots from rec (from + (length rec - length e)) x after → Kept u after
    kept (value n g b) ex ea = rw ea (kept_same (λ f t z. clash (rw ex at z) refl))
    kept (place g y b) ex (alone free ea) =
        let v = from + (length rec - length e) in
        let d : from + (length rec - length e) - from ≡ length rec - length e = omega arith in
        let l = N.fits in
        rw ea (kept_set g b v (omega arith) (omega arith) (inr (rw d here))
        (λ f t k F. absurd (let o = F.later in let w = ap (λ (i : ℕ). get_or slots i 0) k in omega arith))
        (λ f t z. found_there g b v (omega arith) (omega arith) f t (own_slot f t g b y (rw ex at z)) (inr (rw (d, N.tail) z))))
    kept (place g y b) ex (again F ea) = rw ea (kept_same (λ f t z. own_found f t g b y (rw ex at z) F))
    kept (place g y b) ex (crowd p c low ea) =
        rw ea (kept_set g b p low (omega arith) (inl c)
        (λ f t k F. found_there g b p low (omega arith) f t k (inl c))
        (λ f t z. found_there g b p low (omega arith) f t (own_slot f t g b y (rw ex at z)) (inl c)))

  pub noting_next : {u after : List ℕ} → u ≡ rest_of e → NotedBy slots from rec (from + (length rec - length e)) (entry_of e) after → Upto rec from u after
  noting_next {u} {after} eu ea =
      let K : Kept u after = kept eu (entry_of e) refl ea in
      record {
        sound = rw eu (others is_entry e (more_empty e more) N.sound);
        fits = let f = N.fits in let l = ap length eu in omega (arith, rest_shorter e more);
        tail = rest_tail eu;
        inside = λ P h. N.inside P (some_later P e (more_empty e more) (rw eu at h));
        below = K.below;
        standing = K.standing;
        notes = K.notes;
      }

pub noting_end : {rec e slots : List ℕ} {from : ℕ} → Upto rec from e slots → length e ≤ 0 → Noted slots from rec × Before slots (from + length rec)
unfolding has_term
noting_end {rec} {e} {slots} {from} N over = (
  record {
    standing = N.standing;
    notes = λ f t h. ⊎_elim (λ k. k) (λ k. clash k (some_done entry_of (is_here f t) e (less_empty e over))) (N.notes f t h);
  },
  record { many = N.standing.many; below = N.below },
)

-- ---- looking

module _ {slots rec : List ℕ} {from : ℕ} (N : Noted slots from rec) (f t : List ℕ) {i : ℕ} (ei : i ≡ slot_of f t) where
  pub slot_missing : get_or slots i 0 < from → has_term (each entry_of rec) f t ≡ false
  slot_missing h = fails (has_term (each entry_of rec) f t) (λ k. let z = ap (λ (j : ℕ). get_or slots j 0) ei in omega (arith, (N.notes f t k).later))

  -- the entry there tells, where no other shares the slot
  pub slot_tells : {s : List ℕ} → from ≤ get_or slots i 0 → (get_or slots i 0 - from + 1 ≡ length rec → ⊥) → s ≡ drop (get_or slots i 0 - from) rec
      → is_here f t (entry_of s) ≡ has_term (each entry_of rec) f t
  unfolding has_term
  slot_tells {s} h n es =
      let e : get_or slots (slot_of f t) 0 ≡ get_or slots i 0 = ap (λ (j : ℕ). get_or slots j 0) (sym ei) in
      alike (is_here f t (entry_of s)) (has_term (each entry_of rec) f t)
      (λ k. (slot_stands N.standing i h n).among (is_here f t) (rw es at k))
      (λ k. ⊎_elim (λ c. absurd (n (omega arith))) (λ z. rw (es, ← e) z) (N.notes f t k).is)
