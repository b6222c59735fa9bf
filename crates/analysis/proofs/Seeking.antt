-- Where a word begins, and where it ends, a byte at a time. Assumes nothing.
use mathlib.Core.Path.{◌≡◌, refl, sym, ap, subst, ◌∙◌}
use mathlib.Core.Logic.{◌⊎◌, inl, inr, ⊎_elim}
use mathlib.Core.Bool.{Bool, true, false, true≢false, not, ◌||◌}
use mathlib.Core.List.{List}
use Prim.Native.Nat.{ℕ, zero, suc, ◌+◌, ◌-◌, ◌≤◌, ◌<◌, min}
use native.Mathlib.Omega.{arith}
use native.Mathlib.Numerals.{add-one}
use lib.Dec.{leb, ltb}
use lib.ListN.{length, get_or, take, drop, length-take, length-drop, drop_of_length-le}
use borrow.Author.Tests.{le-leb, lt-leb}
use Rattle.rules.specs.Words.{is, extend_num_let, joined, reach, is_alphanumeric}
use Rattle.rules.specs.Analysis.{class_of}
use Rattle.rules.specs.InWords.{is_inner, bridged, value_at, is_bridge, is_within}
use Rattle.rules.proofs.Bools.{clash, fails, both, or_l, or_r}
use Rattle.rules.proofs.Text.Classes.{plain_flag, alphanumeric_flag}
use Rattle.rules.proofs.Text.Values.{bridge_near}
use Rattle.rules.proofs.Text.Words.{by_less, OnWay, joined_past, reach_at, reach_more, reach_least, reach_most, solid_at, inner_at, bridge_joined, outer_boundary, way_joined, way_on, begins_way, found_begins, skip_pieces, skip_start, start_begins, start_end, start_within, pieces_end, begins_one}
use Rattle.rules.specs.Numbers.{chunk_most}
use Rattle.analysis.specs.Words.{Begins, Starts, Held}
use Rattle.std.proofs.lemmas.Bool.Decides.{nat_tests}
use Rattle.std.specs.List.{position_or_len}
use Rattle.analysis.proofs.Firsts.{part_length, fails_before, passes_at}
use Rattle.analysis.proofs.Bridges.{or_skip}
use Rattle.analysis.specs.Tokens.{word_text, FoundWord}

-- ---- to a word's start

-- from `at` on no letter and no digit stands before i, and from `start` on `_` alone; what stands before `start` is none of them
pub record Seeking (s : List ℕ) (at start i : ℕ) : Type 0 where
  pub low : at ≤ start
  pub middle : start ≤ i
  pub high : i ≤ length s
  pub bare : (k : ℕ) → at ≤ k → k < i → is_alphanumeric (get_or s k 0) ≡ false
  pub held : (k : ℕ) → start ≤ k → k < i → is_inner (value_at s (suc (suc k))) ≡ true
  pub edge : (start ≡ at) ⊎ ((at < start) × (is_inner (value_at s (suc start)) ≡ false))

pub seeking_starts : (s : List ℕ) (at : ℕ) → at ≤ length s → Seeking s at at at
seeking_starts s at h = record {
  low = omega arith;
  middle = omega arith;
  high = h;
  bare = λ k l m. absurd (omega arith);
  held = λ k l m. absurd (omega arith);
  edge = inl refl;
}

module _ (s : List ℕ) {at start i : ℕ} (S : Seeking s at start i) (l : i < length s) {x : ℕ} (e : x ≡ class_of (get_or s i 0)) where
  bare_here : x < 32 → is_alphanumeric (get_or s i 0) ≡ false
  bare_here h = sym (alphanumeric_flag (get_or s i 0)) ∙ ap (leb 32) (sym e) ∙ lt-leb 32 x h

  bare_on : x < 32 → (k : ℕ) → at ≤ k → k < i + 1 → is_alphanumeric (get_or s k 0) ≡ false
  bare_on h k m n = by_less k i (λ o. S.bare k m o) (λ o. let z : k ≡ i = omega arith in rw z (bare_here h))

  inner_here : 16 ≤ x → is_inner (value_at s (suc (suc i))) ≡ true
  inner_here h = inner_at s i l ∙ sym (plain_flag (get_or s i 0)) ∙ ap (leb 16) (sym e) ∙ le-leb 16 x h

  outer_here : x < 16 → is_inner (value_at s (suc (suc i))) ≡ false
  outer_here h = inner_at s i l ∙ sym (plain_flag (get_or s i 0)) ∙ ap (leb 16) (sym e) ∙ lt-leb 16 x h

  pub seeking_holds : x < 32 → 16 ≤ x → Seeking s at start (i + 1)
  seeking_holds h k = record {
    low = S.low;
    middle = omega (arith, S.middle);
    high = omega arith;
    bare = bare_on h;
    held = λ j m n. by_less j i (λ o. S.held j m o) (λ o. let z : j ≡ i = omega arith in rw z (inner_here k));
    edge = S.edge;
  }

  pub seeking_breaks : x < 16 → Seeking s at (i + 1) (i + 1)
  seeking_breaks h = record {
    low = omega (arith, S.low, S.middle);
    middle = omega arith;
    high = omega arith;
    bare = bare_on (omega arith);
    held = λ j m n. absurd (omega arith);
    edge = inr (omega (arith, S.low, S.middle), rw add-one (outer_here h));
  }

  -- the byte at i is a letter or a digit
  module _ (w : is_within s at ≡ false) (h : 32 ≤ x) where
    solid_here : is_alphanumeric (get_or s i 0) ≡ true
    solid_here = sym (alphanumeric_flag (get_or s i 0)) ∙ ap (leb 32) (sym e) ∙ le-leb 32 x h

    held_to : (k : ℕ) → start ≤ k → k ≤ i → is_inner (value_at s (suc (suc k))) ≡ true
    held_to k m n = by_less k i (λ o. S.held k m o) (λ o. let z : k ≡ i = omega arith in rw z (inner_here (omega arith)))

    inner_start : is_inner (value_at s (suc (suc start))) ≡ true
    inner_start = held_to start (omega arith) S.middle

    -- at the place itself: it stands in no word
    here_boundary : start ≡ at → joined s start ≡ false
    unfolding is_within
    here_boundary z =
        fails (joined s start)
        (λ j. clash (both (or_r (is_inner (value_at s (suc start))) inner_start) j) (ap (is_within s) z ∙ w))

    -- behind it: what stands before joins nothing, or the place would stand in a word
    no_bridge : (b : ℕ) → start ≡ suc b → at < start → bridged (value_at s (suc b)) (value_at s (suc (suc b))) (value_at s (suc (suc (suc b)))) ≡ true → ⊥
    unfolding is_within is_bridge
    no_bridge b z m f = by_less at b (λ o. behind b z o f) (λ o. at_once b z (omega arith) f)
      where
        behind : (b : ℕ) → start ≡ suc b → at < b → bridged (value_at s (suc b)) (value_at s (suc (suc b))) (value_at s (suc (suc (suc b)))) ≡ true → ⊥
        behind zero z o f = omega arith
        behind (suc b) z o f =
            true≢false (sym (bridge_near (value_at s (suc (suc b))) _ _ f) ∙ solid_at s b (omega (arith, S.high, S.middle)) ∙ S.bare b (omega arith) (omega (arith, S.middle)))

        at_once : (b : ℕ) → start ≡ suc b → at ≡ b → bridged (value_at s (suc b)) (value_at s (suc (suc b))) (value_at s (suc (suc (suc b)))) ≡ true → ⊥
        at_once b z q f =
            let j = bridge_joined s b f in
            let n = or_l (is_inner (value_at s (suc (suc b)))) (or_l (is (value_at s (suc b)) extend_num_let) (bridge_near (value_at s (suc b)) _ _ f)) in
            true≢false (sym (both n j) ∙ ap (is_within s) (sym q) ∙ w)

    behind_boundary : (at < start) × (is_inner (value_at s (suc start)) ≡ false) → joined s start ≡ false
    behind_boundary p = by_suc start refl
      where
        by_suc : (b : ℕ) → start ≡ b → joined s start ≡ false
        by_suc zero z = absurd (omega (arith, p.0))
        by_suc (suc b) z =
            outer_boundary s start p.1 inner_start
            (fails (bridged (value_at s start) (value_at s (suc start)) (value_at s (suc (suc start))))
            (λ f. no_bridge b z p.0 (rw z at f)))

    start_boundary : joined s start ≡ false
    start_boundary = ⊎_elim here_boundary behind_boundary S.edge

    pub seeking_finds : Starts s at start
    seeking_finds =
        let f : (k : ℕ) → at ≤ k → k < start → is_alphanumeric (get_or s k 0) ≡ false = λ k m n. S.bare k m (omega (arith, S.middle)) in
        let b = found_begins s start i S.middle l start_boundary held_to solid_here in
        record {
          place = sym (skip_start s at start S.low w start_boundary (omega (arith, S.middle)) f ∙ start_begins s start b);
          low = S.low;
          high = omega (arith, S.middle);
          same = skip_pieces s at start S.low w start_boundary (omega (arith, S.middle)) f;
          begins = λ _. b;
        }

-- none is left
pub seeking_ends : (s : List ℕ) {at start i : ℕ} → Seeking s at start i → is_within s at ≡ false → length s ≤ i → Starts s at (length s)
seeking_ends s {at} {start} {i} S w h =
    let f : (k : ℕ) → at ≤ k → k < length s → is_alphanumeric (get_or s k 0) ≡ false = λ k m n. S.bare k m (omega arith) in
    let j = joined_past s (length s) (omega arith) in
    let l : at ≤ length s = omega (arith, S.low, S.middle, S.high) in
    record {
      place = sym (skip_start s at (length s) l w j (omega arith) f ∙ start_end s (length s) (omega arith));
      low = l;
      high = omega arith;
      same = skip_pieces s at (length s) l w j (omega arith) f;
      begins = λ q. absurd (omega arith);
    }

-- in a word the token begins at once
pub starts_within : (s : List ℕ) (at : ℕ) → is_within s at ≡ true → at < length s → Starts s at at
starts_within s at w h = record {
  place = sym (start_within s at w);
  low = omega arith;
  high = omega arith;
  same = refl;
  begins = λ _. inl w;
}

-- ---- to a word's end

pub record Ending (s : List ℕ) (start end i : ℕ) : Type 0 where
  pub low : start < i
  pub high : i ≤ end
  pub way : OnWay s i
  pub same : reach s (suc start) ≡ reach s i

module _ (s : List ℕ) where
  pub ending_starts : (start end : ℕ) → Begins s start → start < end → Ending s start end (start + 1)
  ending_starts start end b h = rw (add-one start) (record { low = omega arith; high = h; way = begins_way s start b; same = refl })

  module _ {start end i : ℕ} (E : Ending s start end i) {r : Bool} (e : r ≡ is_inner (value_at s (suc (suc i))) || is_bridge s i) where
    pub ending_goes : r ≡ true → i < end → Ending s start end (i + 1)
    ending_goes g h =
        let j = way_joined s i E.way ∙ sym e ∙ g in
        rw (add-one i) (record { low = omega (arith, E.low); high = h; way = way_on s i E.way j; same = E.same ∙ reach_more s i j })

    pub ending_stops : r ≡ false → i < end → i ≡ min end (reach s (suc start))
    ending_stops g h =
        let j = way_joined s i E.way ∙ sym e ∙ g in
        omega (arith, E.same, reach_at s (length s) i j)

  pub ending_ends : {start end i : ℕ} → Ending s start end i → end ≤ i → end ≡ min end (reach s (suc start))
  ending_ends {start} {end} {i} E h = omega (arith, E.same, reach_least s i, E.high)

  -- over bytes that hold together
  ending_over : {start end i : ℕ} (n : ℕ) → Ending s start end i → i + n ≤ end → ((k : ℕ) → i ≤ k → k < i + n → is_inner (value_at s (suc (suc k))) ≡ true) → Ending s start end (i + n)
  ending_over {start} {end} {i} zero E h held = let z : i + 0 ≡ i = omega arith in rw z E
  ending_over {start} {end} {i} (suc n) E h held =
      let z : i + suc n ≡ i + n + 1 = omega arith in
      let F = ending_over n E (omega arith) (λ k l m. held k l (omega arith)) in
      rw z (ending_goes F (sym (or_l (is_bridge s (i + n)) (held (i + n) (omega arith) (omega arith)))) refl (omega arith))

  pub ending_run : {start end i r : ℕ} → Ending s start end i → Held s i end r → Ending s start end r
  ending_run {start} {end} {i} {r} E H =
      let z : i + (r - i) ≡ r = omega (arith, H.low) in
      subst (Ending s start end) z (ending_over (r - i) E (omega (arith, H.low, H.high)) (λ k l m. H.each k l (omega (arith, H.low))))

  -- over a byte that joins, and what holds together behind it
  pub ending_bridge : {start end i r : ℕ} {b : Bool} → Ending s start end i → (i < end → is_inner (value_at s (suc (suc i))) ≡ false) → i < end → b ≡ is_bridge s i → b ≡ true → Held s (i + 1) end r → Ending s start end r
  ending_bridge {start} {end} {i} E n h e g H = ending_run (ending_goes E (e ∙ sym (or_skip (is_bridge s i) (n h))) g h) H

  pub ending_breaks : {start end i : ℕ} {b : Bool} → Ending s start end i → (i < end → is_inner (value_at s (suc (suc i))) ≡ false) → i < end → b ≡ is_bridge s i → b ≡ false → i ≡ min end (reach s (suc start))
  ending_breaks {start} {end} {i} E n h e g = ending_stops E (e ∙ sym (or_skip (is_bridge s i) (n h))) g h

-- bytes that hold together, up to the first that does not
abbrev pub outer : ℕ → Bool
outer c = ltb (class_of c) 16

outer_inner : (x : ℕ) (b : Bool) → ltb x 16 ≡ b → leb 16 x ≡ not b
outer_inner x true e = grind (arith, nat_tests)
outer_inner x false e = grind (arith, nat_tests)

pub held_first : (s : List ℕ) {from end r : ℕ} → from ≤ end → end ≤ length s → r ≡ position_or_len outer (take (end - from) (drop from s)) → r ≤ length (take (end - from) (drop from s)) → Held s from end (from + r)
held_first s {from} {end} {r} l m e h =
    let n : from + r ≤ end = omega (arith, part_length s l m) in
    record {
      low = omega arith;
      high = n;
      each = λ k i j. told k (omega arith) (fails_before s l m outer e k i j (omega arith));
      stop = λ q. told (from + r) q (passes_at s l m outer e q);
    }
  where
    told : (k : ℕ) → k < end → {b : Bool} → outer (get_or s k 0) ≡ b → is_inner (value_at s (suc (suc k))) ≡ not b
    told k i {b} f = inner_at s k (omega arith) ∙ sym (plain_flag (get_or s k 0)) ∙ outer_inner (class_of (get_or s k 0)) b f

-- ---- the first token of words

module _ {s : List ℕ} {at start : ℕ} (S : Starts s at start) where
  pub found_none : length s ≤ start → FoundWord s at (length s) 0
  unfolding word_text
  found_none h = let z : start ≡ length s = omega (arith, S.high) in subst (λ (i : ℕ). FoundWord s at i 0) z (record {
    place = S.place;
    size = sym (rw (← S.place, drop_of_length-le s {i = start} h, length-take) (omega arith));
    onward = S.low;
    within = omega (arith, S.high);
    none = λ _. S.same ∙ pieces_end s start h;
    one = λ l. absurd (omega arith);
  })

  module _ (h : start < length s) {end e : ℕ} (c : end ≡ start + min chunk_most (length s - start)) (m : e ≡ min end (reach s (suc start))) where
    word_size : e - start ≡ min chunk_most (reach s (suc start) - start)
    word_size = omega (arith, reach_least s (suc start), reach_most s (suc start) h)

    pub word_past : start < e
    word_past = omega (arith, reach_least s (suc start))

    text_size : length (word_text s at) ≡ min chunk_most (reach s (suc start) - start)
    unfolding word_text
    text_size = rw (← S.place, length-take, length-drop) (omega (arith, reach_most s (suc start) h))

    pub found_some : FoundWord s at start (e - start)
    found_some =
        let b = S.begins h in
        record {
          place = S.place;
          size = word_size ∙ sym text_size;
          onward = S.low;
          within = omega (arith, reach_most s (suc start) h);
          none = λ z. absurd (omega (arith, word_size, reach_least s (suc start)));
          one = λ l. S.same ∙ begins_one s start b ∙ rw word_size;
        }
