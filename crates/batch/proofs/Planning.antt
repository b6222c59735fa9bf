-- The masks as queries are planned, a bit of each at a time, and what their bits say of a record.
use mathlib.Core.Path.{◌≡◌, refl, sym, ap, ◌∙◌}
use mathlib.Core.Logic.{◌⊎◌, inl, inr, ⊎_elim}
use Prim.Native.Nat.{ℕ, zero, suc, ◌+◌, ◌-◌, ◌*◌, ◌%◌, ◌^◌, ◌≤◌, ◌<◌}
use mathlib.Core.List.{List, [], ◌∷◌}
use mathlib.Core.Bool.{Bool, true, false, not}
use native.Mathlib.Omega.{arith}
use lib.ListN.{length, get_or, set, length-set}
use lib.Seq.{get_or-set_same, get_or-set_other}
use lib.Dec.{leb, eqb}
use lib.Pow.{pow_mono, pow_pos}
use borrow.Author.Tests.{leb-true, leb-false, eqb-true, eqb-false, ne_eqb}
use Rattle.rules.specs.Numbers.{selection_bytes, selection_depth}
use Rattle.rules.specs.Bytes.{Bytes, some}
use Rattle.std.specs.Prelude.{Result, Ok, Err}
use Rattle.names.specs.Refusals.{checked}
use Rattle.names.specs.declared.refusal.Refusal.{Refusal}
use Rattle.rules.specs.Reading.{read_for_selection}
use Rattle.rules.specs.Lists.{Entry, place, value}
use Rattle.rules.specs.Matching.{bit}
use Rattle.rules.proofs.Bools.{clash, split, either, or_no_l, or_no_r, neither}
use Rattle.rules.proofs.Stored.Accepted.{accepted}
use Rattle.entries.specs.Slots.{slots_many, hash_of}
use Rattle.wanted.specs.Wanted.{calls_by}
use Rattle.wanted.specs.Marks.{several, print_of, is_marked, Marks}
use Rattle.matching.specs.Truth.{Truth, StoredFor}
use Rattle.selection.proofs.Selections.{sound, bare_truth}
use Rattle.batch.specs.declared.plan.Said.{Said}
use Rattle.batch.specs.Bits.{bit_at}
use Rattle.batch.specs.Plan.{Else, Saying, masks_many, numbers_at, bare_at, PushedWords, Pushed, Planning, wanted_by, Known, Planned}
use Rattle.batch.proofs.Pushing.{bit_next, bit_first, bit_below}

-- ---- tests that pass no less

module _ {w w' : ℕ → Bool} {v v' : Bool} (f : (n : ℕ) → w n ≡ true → w' n ≡ true) (g : v ≡ true → v' ≡ true) where
  calls_more : (e : Entry) → calls_by hash_of w' (λ f. v') e ≡ false → calls_by hash_of w (λ f. v) e ≡ false
  calls_more (place p y t) h = go (w (hash_of p t)) refl
    where
      go : (b : Bool) → w (hash_of p t) ≡ b → w (hash_of p t) ≡ false
      go true z = clash (f (hash_of p t) z) h
      go false z = z
  calls_more (value k p x) h = go v refl
    where
      go : (b : Bool) → v ≡ b → v ≡ false
      go true z = clash (g z) h
      go false z = z

  some_more : (es : List Entry) → some (calls_by hash_of w' (λ f. v')) es ≡ false → some (calls_by hash_of w (λ f. v)) es ≡ false
  unfolding some
  some_more [] h = refl
  some_more (e ∷ es) h = neither (calls_more e (or_no_l _ _ h)) (some_more es (or_no_r (calls_by hash_of w' (λ f. v') e) _ h))

  else_more : (s : List ℕ) {r r' : Bool} → r ≡ r' → Else s w v r → Else s w' v' r'
  unfolding Else
  else_more s e E es h = rw (← e) (E es (some_more es h))

-- ---- one query

-- what is refused is not sound
pub failed : {A : Type 0} {c : Refusal} {u : Unit {0}} → ◌≡◌ {A = Result (Unit {0}) Refusal} (Err c) (Ok u) → A
failed h = cc

-- a sound query is one that can be asked
pub stored_for : (s : List ℕ) {fault : Result (Unit {0}) Refusal} {u : Unit {0}} → Bytes s → fault ≡ checked (read_for_selection s) → fault ≡ Ok u → StoredFor s
stored_for s {fault} B e z =
    let A = accepted selection_bytes selection_depth s 0 B (sym (sound (read_for_selection s) (sym z ∙ e))) refl in
    record { stored = record { query = A.query; is = A.is }; deep = A.deep; short = A.long }

pub else_marked : {s w : List ℕ} {r : Bool} (bare : Bool) → Marks s w r → Truth s [] bare → Else s (is_marked w) r bare
unfolding Else
else_marked bare M T es h = bare_truth bare M T es h

-- ---- its bits

marked_some : (wanted : List ℕ) (n : ℕ) → is_marked wanted n ≡ true → not (eqb (get_or wanted (n % slots_many) 0) 0) ≡ true
marked_some wanted n h =
    ⊎_elim
    (λ z. some_by (omega (arith, eqb-true (get_or wanted (n % slots_many) 0) (print_of n) z)))
    (λ z. some_by (omega (arith, eqb-true (get_or wanted (n % slots_many) 0) several z)))
    (either (eqb (get_or wanted (n % slots_many) 0) (print_of n)) _ h)
  where
    some_by : 0 < get_or wanted (n % slots_many) 0 → not (eqb (get_or wanted (n % slots_many) 0) 0) ≡ true
    some_by e = rw (ne_eqb (get_or wanted (n % slots_many) 0) 0 (λ z. omega arith))

module _ {before wanted after : List ℕ} {r : Said} (P : Pushed before wanted r after) where
  slot_below : (n : ℕ) → n % slots_many < slots_many
  slot_below n = omega arith

  -- the new query's bit is 0, and each of the others has one more before it
  new_word : (n : ℕ) → wanted_by after 0 n ≡ not (eqb (get_or wanted (n % slots_many) 0) 0)
  new_word n = ap (λ (m : ℕ). bit_at m 0) (P.words (n % slots_many) (slot_below n)) ∙ bit_first (get_or before (n % slots_many) 0) (not (eqb (get_or wanted (n % slots_many) 0) 0))

  old_word : (j n : ℕ) → wanted_by after (j + 1) n ≡ wanted_by before j n
  old_word j n = ap (λ (m : ℕ). bit_at m (j + 1)) (P.words (n % slots_many) (slot_below n)) ∙ bit_next (get_or before (n % slots_many) 0) (not (eqb (get_or wanted (n % slots_many) 0) 0)) j

  known_new : {s : List ℕ} {fault : Result (Unit {0}) Refusal} → fault ≡ checked (read_for_selection s) → Saying s fault wanted r → Known s fault after 0
  known_new {s} e S = record {
    is = e;
    else = λ z. else_more
        (λ n h. new_word n ∙ marked_some wanted n h)
        (λ h. ap (λ (m : ℕ). bit_at m 0) P.numbers ∙ bit_first (get_or before numbers_at 0) r.ranges ∙ h)
        s
        (sym (ap (λ (m : ℕ). bit_at m 0) P.bare ∙ bit_first (get_or before bare_at 0) r.bare))
        (S.else z);
  }

  known_old : {s : List ℕ} {fault : Result (Unit {0}) Refusal} {j : ℕ} → Known s fault before j → Known s fault after (j + 1)
  known_old {s} {j = j} K = record {
    is = K.is;
    else = λ z. else_more
        (λ n h. old_word j n ∙ h)
        (λ h. ap (λ (m : ℕ). bit_at m (j + 1)) P.numbers ∙ bit_next (get_or before numbers_at 0) r.ranges j ∙ h)
        s
        (sym (ap (λ (m : ℕ). bit_at m (j + 1)) P.bare ∙ bit_next (get_or before bare_at 0) r.bare j))
        (K.else z);
  }

  -- no mask is longer than there are queries
  beyond : (i : ℕ) (l : List ℕ) → length l ≤ i → get_or l i 0 ≡ 0
  beyond i [] h = refl
  beyond zero (x ∷ l) h = absurd (omega arith)
  beyond (suc i) (x ∷ l) h = beyond i l (omega arith)

  below_next : (n : ℕ) → ((i : ℕ) → get_or before i 0 < 2 ^ n) → (i : ℕ) → get_or after i 0 < 2 ^ (n + 1)
  below_next n B i = word (split (leb slots_many i))
    where
      by : (m : ℕ) (b : Bool) → m < 2 ^ n → get_or after i 0 ≡ m * 2 + bit b → get_or after i 0 < 2 ^ (n + 1)
      by m b h e = rw e (bit_below m b n h)

      last : bare_at < i → get_or after i 0 < 2 ^ (n + 1)
      last h = rw (beyond i after (let m = P.many in omega arith)) (pow_pos (n + 1))

      bare : (eqb i bare_at ≡ true) ⊎ (eqb i bare_at ≡ false) → numbers_at < i → get_or after i 0 < 2 ^ (n + 1)
      bare (inl z) h = by (get_or before bare_at 0) r.bare (B bare_at) (ap (λ (k : ℕ). get_or after k 0) (eqb-true i bare_at z) ∙ P.bare)
      bare (inr z) h = last (omega (arith, eqb-false i bare_at z))

      number : (eqb i numbers_at ≡ true) ⊎ (eqb i numbers_at ≡ false) → slots_many ≤ i → get_or after i 0 < 2 ^ (n + 1)
      number (inl z) h = by (get_or before numbers_at 0) r.ranges (B numbers_at) (ap (λ (k : ℕ). get_or after k 0) (eqb-true i numbers_at z) ∙ P.numbers)
      number (inr z) h = bare (split (eqb i bare_at)) (omega (arith, eqb-false i numbers_at z))

      word : (leb slots_many i ≡ true) ⊎ (leb slots_many i ≡ false) → get_or after i 0 < 2 ^ (n + 1)
      word (inl z) = number (split (eqb i numbers_at)) (leb-true slots_many i z)
      word (inr z) = by (get_or before i 0) (not (eqb (get_or wanted i 0) 0)) (B i) (P.words i (leb-false slots_many i z))

-- ---- all queries

pub planned_none : {qs : List (List ℕ)} {faults : List (Result (Unit {0}) Refusal)} {masks : List ℕ} → length masks ≡ masks_many → ((i : ℕ) → get_or masks i 0 ≡ 0) → Planned qs 0 faults masks
planned_none l z = record { many = l; below = λ i. rw (z i) (omega arith); known = λ i h. absurd (omega arith) }

module _ {qs : List (List ℕ)} {n : ℕ} {faults : List (Result (Unit {0}) Refusal)} {masks : List ℕ} (P : Planned qs n faults masks) where
  -- there is a bit left
  pub planned_room : n < 64 → (i : ℕ) → get_or masks i 0 < 2 ^ 63
  planned_room h i = let k = pow_mono {i = n} {j = 63} (omega arith) in omega (arith, P.below i)

  pub planned_next : {q after : List ℕ} {fault : Result (Unit {0}) Refusal} → n < length faults → q ≡ get_or qs n [] → fault ≡ checked (read_for_selection q) → Planning q fault masks after
      → Planned qs (n + 1) (set faults n fault) after
  planned_next {q} {after} {fault} fits e f R = record {
    many = R.pushed.many;
    below = below_next R.pushed n P.below;
    known = λ i h. go i h (split (eqb i n));
  }
    where
      go : (i : ℕ) → i < n + 1 → (eqb i n ≡ true) ⊎ (eqb i n ≡ false) → Known (get_or qs i []) (get_or (set faults n fault) i (Ok tt)) after (n + 1 - 1 - i)
      go i h (inl z) =
          let k : i ≡ n = eqb-true i n z in
          let c : n + 1 - 1 - n ≡ 0 = omega arith in
          rw (k, c, get_or-set_same faults n fault (Ok tt) fits, ← e) (known_new R.pushed f R.saying)
      go i h (inr z) =
          let c : n + 1 - 1 - i ≡ n - 1 - i + 1 = omega (arith, eqb-false i n z) in
          rw (c, get_or-set_other faults n i fault (Ok tt) (eqb-false i n z)) (known_old R.pushed (P.known i (omega (arith, eqb-false i n z))))

  -- all of them
  pub planned_all : {many : ℕ} → n ≤ many → many ≤ n → Planned qs many faults masks
  planned_all {many} h k = let e : n ≡ many = omega arith in rw (← e) P

-- ---- the loop over the slots

pub record Going (before wanted : List ℕ) (i : ℕ) (now : List ℕ) : Type 0 where
  pub many : length now ≡ masks_many
  pub done : (k : ℕ) → k < i → get_or now k 0 ≡ get_or before k 0 * 2 + bit (not (eqb (get_or wanted k 0) 0))
  pub rest : (k : ℕ) → i ≤ k → get_or now k 0 ≡ get_or before k 0
  pub within : i ≤ slots_many

pub going_start : {before wanted : List ℕ} → length before ≡ masks_many → Going before wanted 0 before
going_start l = record { many = l; done = λ k h. absurd (omega arith); rest = λ k h. refl; within = omega arith }

pub going_next : {before wanted now : List ℕ} {i v : ℕ} → Going before wanted i now → i < slots_many
    → v ≡ get_or now i 0 * 2 + bit (not (eqb (get_or wanted i 0) 0)) → Going before wanted (i + 1) (set now i v)
going_next {before} {wanted} {now} {i} {v} G h e = record {
  many = length-set now i v ∙ G.many;
  done = λ k l. go k l (split (eqb k i));
  rest = λ k l. get_or-set_other now i k v 0 (λ z. omega arith) ∙ G.rest k (omega arith);
  within = omega arith;
}
  where
    go : (k : ℕ) → k < i + 1 → (eqb k i ≡ true) ⊎ (eqb k i ≡ false) → get_or (set now i v) k 0 ≡ get_or before k 0 * 2 + bit (not (eqb (get_or wanted k 0) 0))
    go k l (inl z) =
        let c : k ≡ i = eqb-true k i z in
        rw c (get_or-set_same now i v 0 (let m = G.many in omega arith) ∙ e ∙ ap (λ (x : ℕ). x * 2 + bit (not (eqb (get_or wanted i 0) 0))) (G.rest i (omega arith)))
    go k l (inr z) = get_or-set_other now i k v 0 (eqb-false k i z) ∙ G.done k (omega (arith, eqb-false k i z))

pub going_end : {before wanted now : List ℕ} {i : ℕ} → Going before wanted i now → slots_many ≤ i → PushedWords before wanted now
going_end G h = record { many = G.many; words = λ k l. G.done k (omega arith); others = λ k l. G.rest k (let w = G.within in omega arith) }

-- ---- the two masks behind them

pub push_both : {before wanted now : List ℕ} {r : Said} {x y : ℕ} → PushedWords before wanted now
    → x ≡ get_or now numbers_at 0 * 2 + bit r.ranges → y ≡ get_or (set now numbers_at x) bare_at 0 * 2 + bit r.bare
    → Pushed before wanted r (set (set now numbers_at x) bare_at y)
push_both {before} {wanted} {now} {r} {x} {y} P ex ey =
    let m = P.many in
    let far : get_or (set now numbers_at x) bare_at 0 ≡ get_or before bare_at 0 = get_or-set_other now numbers_at bare_at x 0 (λ z. omega arith) ∙ P.others bare_at (omega arith) in
    record {
      many = length-set (set now numbers_at x) bare_at y ∙ length-set now numbers_at x ∙ m;
      words = λ i h. get_or-set_other (set now numbers_at x) bare_at i y 0 (λ z. omega arith) ∙ get_or-set_other now numbers_at i x 0 (λ z. omega arith) ∙ P.words i h;
      numbers =
          get_or-set_other (set now numbers_at x) bare_at numbers_at y 0 (λ z. omega arith) ∙ get_or-set_same now numbers_at x 0 (omega arith) ∙ ex
          ∙ ap (λ (k : ℕ). k * 2 + bit r.ranges) (P.others numbers_at (omega arith));
      bare = get_or-set_same (set now numbers_at x) bare_at y 0 (simp length-set (omega arith)) ∙ ey ∙ ap (λ (k : ℕ). k * 2 + bit r.bare) far;
    }
