-- Words: where the next boundary is, the words from a place on, and the tokens that are left there, chunk by chunk. Assumes nothing.
use mathlib.Core.Path.{◌≡◌, refl, sym, ap, ◌∙◌}
use mathlib.Core.Logic.{◌⊎◌, inl, inr, ⊎_elim}
use mathlib.Core.Bool.{Bool, and-false, true, false, ◌||◌, cond, true≢false}
use mathlib.Core.List.{List, [], ◌∷◌, ◌++◌, map}
use Prim.Native.Nat.{ℕ, zero, suc, ◌+◌, ◌-◌, ◌≤◌, ◌<◌, min}
use native.Mathlib.Decide.{dec_lt}
use native.Mathlib.Omega.{arith}
use lib.Dec.{leb}
use lib.ListN.{length, get_or, take, drop, length-take, length-drop}
use lib.Seq.{drop-drop, get_or-drop, take-length}
use borrow.Author.Tests.{le-leb, lt-leb}
use Rattle.rules.specs.Numbers.{chunk_most}
use Rattle.rules.specs.Bytes.{is_letter, is_digit, some, all, those}
use Rattle.rules.specs.Words.{outside, is, extend_num_let, word_break, joins, values, joined, reach_in, reach, words_in, is_alphanumeric, words_from, words}
use Rattle.rules.specs.Analysis.{chunks, cut}
use Rattle.rules.specs.InWords.{is_solid, is_inner, bridged, value_at, is_bridge, is_within, word_at, left_over, pieces_from, seek_in, token_start}
use Rattle.rules.proofs.Bools.{and_l, and_r, and_no_r, or_false, both, or_l, or_r, either, neither}
use Rattle.rules.proofs.Text.Pieces.{by_test, all_nil, all_cons, all_one, all_take, all_drop, total, chunks_nil, chunks_step, take_take, drop_take, cut_total, those_total}
use Rattle.rules.proofs.Text.Classes.{is_plain, letter_value, digit_value}
use Rattle.rules.proofs.Text.Values.{inner_joins, outer_joins, over_joins, bridge_joins, bridge_far, past_joins}

pub by_less : {A : Type 0} (i n : ℕ) → (i < n → A) → (n ≤ i → A) → A
by_less {A} i n f g = pass (dec_lt i n)
  where
    pass : Dec (i < n) → A
    pass (yes h) = f h
    pass (no m) = g (omega arith)

-- a test over the bytes of a part
none_front : (P : ℕ → Bool) (n : ℕ) (s : List ℕ) → ((k : ℕ) → k < n → k < length s → P (get_or s k 0) ≡ false) → some P (take n s) ≡ false
unfolding some
none_front P zero s f = refl
none_front P (suc n) [] f = refl
none_front P (suc n) (c ∷ s) f = rw (f 0 (omega arith) (omega arith)) (none_front P n s (λ k h l. f (suc k) (omega arith) (omega arith)))

none_in : (P : ℕ → Bool) (n at : ℕ) (s : List ℕ) → ((k : ℕ) → k < n → at + k < length s → P (get_or s (at + k) 0) ≡ false) → some P (take n (drop at s)) ≡ false
none_in P n at s f = none_front P n (drop at s) (λ k h l. rw get_or-drop (f k h (omega (arith, length-drop at s))))

some_front : (P : ℕ → Bool) (n k : ℕ) (s : List ℕ) → k < n → k < length s → P (get_or s k 0) ≡ true → some P (take n s) ≡ true
unfolding some
some_front P zero k s h l e = absurd (omega arith)
some_front P (suc n) k [] h l e = absurd (omega arith)
some_front P (suc n) zero (c ∷ s) h l e = rw e
some_front P (suc n) (suc k) (c ∷ s) h l e = or_r (P c) (some_front P n k s (omega arith) (omega arith) e)

some_in : (P : ℕ → Bool) (n at k : ℕ) (s : List ℕ) → at ≤ k → k < n + at → k < length s → P (get_or s k 0) ≡ true → some P (take n (drop at s)) ≡ true
some_in P n at k s h l m e =
    let z : at + (k - at) ≡ k = omega arith in
    some_front P n (k - at) (drop at s) (omega arith) (omega (arith, length-drop at s)) (rw (get_or-drop at s (k - at) 0, z) e)

all_at : (P : ℕ → Bool) (s : List ℕ) (k : ℕ) → all P s ≡ true → k < length s → P (get_or s k 0) ≡ true
all_at P [] k h l = absurd (omega arith)
all_at P (c ∷ s) zero h l = (all_one P c s h).0
all_at P (c ∷ s) (suc k) h l = all_at P s k (all_one P c s h).1 (omega arith)

-- ---- the values at a place

mapped : (s : List ℕ) (i : ℕ) → i < length s → get_or (map word_break s) i outside ≡ word_break (get_or s i 0)
mapped [] i h = absurd (omega arith)
mapped (c ∷ s) zero h = refl
mapped (c ∷ s) (suc i) h = mapped s i (omega arith)

unmapped : (s : List ℕ) (i : ℕ) → length s ≤ i → get_or (map word_break s) i outside ≡ outside
unmapped [] i h = refl
unmapped (c ∷ s) zero h = absurd (omega arith)
unmapped (c ∷ s) (suc i) h = unmapped s i (omega arith)

module _ (s : List ℕ) where
  pub value_in : (i : ℕ) → i < length s → value_at s (suc (suc i)) ≡ word_break (get_or s i 0)
  unfolding values
  value_in i h = mapped s i h

  pub value_past : (i : ℕ) → length s ≤ i → value_at s (suc (suc i)) ≡ outside
  unfolding values
  value_past i h = unmapped s i h

  -- ---- boundaries

  pub joined_is : (i : ℕ) → joined s i ≡ joins (value_at s i) (value_at s (suc i)) (value_at s (suc (suc i))) (value_at s (suc (suc (suc i))))
  unfolding joined
  joined_is i = refl

  pub joined_first : joined s 0 ≡ false
  unfolding joined values joins
  joined_first = refl

  pub joined_past : (i : ℕ) → length s ≤ i → joined s i ≡ false
  joined_past i h = joined_is i ∙ rw (value_past i h) (past_joins (value_at s i) (value_at s (suc i)) (value_at s (suc (suc (suc i)))))

  pub joined_within : (i : ℕ) → joined s i ≡ true → i < length s
  joined_within i e = pass (dec_lt i (length s))
    where
      pass : Dec (i < length s) → i < length s
      pass (yes h) = h
      pass (no n) = absurd (true≢false (sym e ∙ joined_past i (omega arith)))

  -- ---- the next boundary

  pub reach_at : (n i : ℕ) → joined s i ≡ false → reach_in s n i ≡ i
  unfolding reach_in
  reach_at zero i e = refl
  reach_at (suc n) i e = rw e

  reach_on : (n i : ℕ) → joined s i ≡ true → reach_in s (suc n) i ≡ reach_in s n (suc i)
  unfolding reach_in
  reach_on n i e = rw e

  reach_enough : (n m i : ℕ) → length s ≤ i + n → length s ≤ i + m → reach_in s n i ≡ reach_in s m i
  reach_enough zero m i h k =
      reach_at zero i (joined_past i (omega arith)) ∙ sym (reach_at m i (joined_past i (omega arith)))
  reach_enough (suc n) zero i h k =
      reach_at (suc n) i (joined_past i (omega arith)) ∙ sym (reach_at zero i (joined_past i (omega arith)))
  reach_enough (suc n) (suc m) i h k =
      by_test (joined s i) (λ e. reach_on n i e ∙ reach_enough n m (suc i) (omega arith) (omega arith) ∙ sym (reach_on m i e))
      (λ e. reach_at (suc n) i e ∙ sym (reach_at (suc m) i e))

  pub reach_more : (i : ℕ) → joined s i ≡ true → reach s i ≡ reach s (suc i)
  reach_more i e = reach_enough (length s) (suc (length s)) i (omega arith) (omega arith) ∙ reach_on (length s) i e

  reach_low : (n i : ℕ) → i ≤ reach_in s n i
  unfolding reach_in
  reach_low zero i = omega arith
  reach_low (suc n) i = by_test (joined s i) (λ e. rw (reach_on n i e) (omega (arith, reach_low n (suc i)))) (λ e. rw (reach_at (suc n) i e) (omega arith))

  reach_high : (n i : ℕ) → i ≤ length s → reach_in s n i ≤ length s
  unfolding reach_in
  reach_high zero i h = h
  reach_high (suc n) i h =
      by_test (joined s i) (λ e. rw (reach_on n i e) (reach_high n (suc i) (joined_within i e))) (λ e. rw (reach_at (suc n) i e) h)

  reach_ends : (n i : ℕ) → length s ≤ i + n → joined s (reach_in s n i) ≡ false
  unfolding reach_in
  reach_ends zero i h = joined_past i (omega arith)
  reach_ends (suc n) i h =
      by_test (joined s i) (λ e. rw (reach_on n i e) (reach_ends n (suc i) (omega arith))) (λ e. rw (reach_at (suc n) i e) e)

  pub reach_least : (i : ℕ) → i ≤ reach s i
  reach_least i = reach_low (length s) i

  pub reach_most : (i : ℕ) → i ≤ length s → reach s i ≤ length s
  reach_most i h = reach_high (length s) i h

  pub reach_end : (i : ℕ) → joined s (reach s i) ≡ false
  reach_end i = reach_ends (length s) i (omega arith)

  -- from a place on the way to it, it is the same
  reach_way : (n i k : ℕ) → k ≡ n + i → k ≤ reach s i → reach s k ≡ reach s i
  reach_way zero i k e h = let m : k ≡ i = omega arith in rw m
  reach_way (suc n) i k e h =
      by_test (joined s i) (λ j. reach_way n (suc i) k (omega arith) (rw (← reach_more i j) h) ∙ sym (reach_more i j))
      (λ j. absurd (omega (arith, reach_at (length s) i j)))

  pub reach_between : (i k : ℕ) → i ≤ k → k ≤ reach s i → reach s k ≡ reach s i
  reach_between i k h l = reach_way (k - i) i k (omega arith) l

  -- it is no further than any boundary
  reach_before : (n i k : ℕ) → k ≡ n + i → joined s k ≡ false → reach s i ≤ k
  reach_before zero i k e j = let m : i ≡ k = omega arith in rw m (omega (arith, reach_at (length s) k j))
  reach_before (suc n) i k e j =
      by_test (joined s i) (λ m. rw (reach_more i m) (reach_before n (suc i) k (omega arith) j)) (λ m. omega (arith, reach_at (length s) i m))

  pub reach_stop : (i k : ℕ) → i ≤ k → joined s k ≡ false → reach s i ≤ k
  reach_stop i k h j = reach_before (k - i) i k (omega arith) j

  -- ---- the words from a boundary on

  words_end : (n i : ℕ) → length s ≤ i → words_in s n i ≡ []
  unfolding words_in
  words_end zero i h = refl
  words_end (suc n) i h = rw (le-leb (length s) i h)

  none_yet : (i : ℕ) → words_in s zero i ≡ []
  unfolding words_in
  none_yet i = refl

  words_go : (n i : ℕ) → i < length s → words_in s (suc n) i ≡ word_at s i ∷ words_in s n (reach s (suc i))
  unfolding words_in
  words_go n i h = rw (lt-leb (length s) i h)

  words_enough : (n m i : ℕ) → length s ≤ i + n → length s ≤ i + m → words_in s n i ≡ words_in s m i
  words_enough zero m i h k = words_end zero i (omega arith) ∙ sym (words_end m i (omega arith))
  words_enough (suc n) zero i h k = words_end (suc n) i (omega arith) ∙ sym (words_end zero i (omega arith))
  words_enough (suc n) (suc m) i h k =
      by_less i (length s)
      (λ q.
      let l = reach_least (suc i) in
      words_go n i q ∙ ap (λ (ws : List (List ℕ)). word_at s i ∷ ws) (words_enough n m (reach s (suc i)) (omega arith) (omega arith)) ∙ sym (words_go m i q))
      (λ q. words_end (suc n) i q ∙ sym (words_end (suc m) i q))

  pub from_end : (i : ℕ) → length s ≤ i → words_from s i ≡ []
  unfolding those
  from_end i h = rw (words_end (length s) i h)

  from_go : (i : ℕ) → i < length s → words_from s i ≡ those (some is_alphanumeric) (word_at s i ∷ words_in s (length s) (reach s (suc i)))
  from_go i h =
      ap (those (some is_alphanumeric))
      (words_enough (length s) (suc (length s)) i (omega arith) (omega arith) ∙ words_go (length s) i h)

  -- the first of them makes tokens, or none
  pub from_kept : (i : ℕ) → i < length s → some is_alphanumeric (word_at s i) ≡ true → words_from s i ≡ word_at s i ∷ words_from s (reach s (suc i))
  unfolding those
  from_kept i h e = from_go i h ∙ rw e

  pub from_left : (i : ℕ) → i < length s → some is_alphanumeric (word_at s i) ≡ false → words_from s i ≡ words_from s (reach s (suc i))
  unfolding those
  from_left i h e = from_go i h ∙ rw e

  -- ---- the tokens that are left at a place

  left_none : (end : ℕ) → left_over s end end ≡ cut (words_from s end)
  left_none end = let e : end - end ≡ 0 = omega arith in rw (e, chunks_nil 0)

  behind_chunk : (at end : ℕ) → take (end - at - chunk_most) (drop chunk_most (drop at s)) ≡ take (end - (at + min chunk_most (end - at))) (drop (at + min chunk_most (end - at)) s)
  behind_chunk at end =
      by_less (end - at) chunk_most
      (λ h.
      let d : end - at - chunk_most ≡ 0 = omega arith in
      let e : end - (at + min chunk_most (end - at)) ≡ 0 = omega arith in
      rw (d, e))
      (λ h.
      let d : min chunk_most (end - at) ≡ chunk_most = omega arith in
      let e : end - at - chunk_most ≡ end - (at + chunk_most) = omega arith in
      rw (d, e, drop-drop chunk_most at s))

  pub left_chunk : (at end : ℕ) → at < end → end ≤ length s →
      left_over s at end ≡ take (min chunk_most (end - at)) (drop at s) ∷ left_over s (at + min chunk_most (end - at)) end
  left_chunk at end h l =
      let t = take (end - at) (drop at s) in
      let n : 0 < length t = rw (length-take, length-drop) (omega arith) in
      ap (λ (cs : List (List ℕ)). cs ++ cut (words_from s end)) (chunks_step t n)
      ∙ rw (take_take chunk_most (end - at) (drop at s), drop_take chunk_most (end - at) (drop at s), behind_chunk at end)

  pub pieces_first : pieces_from s 0 ≡ cut (words s)
  unfolding pieces_from is_within words
  pieces_first = rw (joined_first, reach_at (length s) 0 joined_first, and-false (is_inner (value_at s 1) || is_inner (value_at s 2)))

  within_joined : (at : ℕ) → is_within s at ≡ true → joined s at ≡ true
  unfolding is_within
  within_joined at e = and_r (is_inner (value_at s (suc at)) || is_inner (value_at s (suc (suc at)))) (joined s at) e

  within_not : (at : ℕ) → joined s at ≡ false → is_within s at ≡ false
  unfolding is_within
  within_not at e = and_no_r (is_inner (value_at s (suc at)) || is_inner (value_at s (suc (suc at)))) e

  -- ---- on the way through a word

  -- before the place k stands a letter, a digit or `_`, or what joins those beside it
  abbrev pub OnWay : ℕ → Type 0
  OnWay k = (is_inner (value_at s (suc k)) ≡ true) ⊎ (bridged (value_at s k) (value_at s (suc k)) (value_at s (suc (suc k))) ≡ true)

  -- there the word goes on with one of them or with what joins
  pub way_joined : (k : ℕ) → OnWay k → joined s k ≡ is_inner (value_at s (suc (suc k))) || is_bridge s k
  unfolding is_bridge
  way_joined k w =
      ⊎_elim
      (λ e. joined_is k ∙ inner_joins (value_at s k) (value_at s (suc k)) (value_at s (suc (suc k))) (value_at s (suc (suc (suc k)))) e)
      (λ e.
      joined_is k ∙ over_joins (value_at s k) (value_at s (suc k)) (value_at s (suc (suc k))) (value_at s (suc (suc (suc k)))) e
      ∙ sym (or_l (is_bridge s k) (bridge_far (value_at s k) (value_at s (suc k)) (value_at s (suc (suc k))) e)))
      w

  pub way_on : (k : ℕ) → OnWay k → joined s k ≡ true → OnWay (suc k)
  unfolding is_bridge
  way_on k w e = either (is_inner (value_at s (suc (suc k)))) (is_bridge s k) (sym (way_joined k w) ∙ e)

  way_within : (k : ℕ) → OnWay k → joined s k ≡ true → is_within s k ≡ true
  unfolding is_within
  way_within k w e =
      both
      (⊎_elim (λ f. or_l (is_inner (value_at s (suc (suc k)))) f)
      (λ f. or_r (is_inner (value_at s (suc k))) (bridge_far (value_at s k) (value_at s (suc k)) (value_at s (suc (suc k))) f)) w)
      e

  way_to : (n i k : ℕ) → k ≡ n + i → OnWay i → k < reach s i → is_within s k ≡ true
  way_to zero i k m w h =
      let z : k ≡ i = omega arith in
      by_test (joined s i) (λ e. rw z (way_within i w e)) (λ e. absurd (omega (arith, reach_at (length s) i e)))
  way_to (suc n) i k m w h =
      by_test (joined s i) (λ e. way_to n (suc i) k (omega arith) (way_on i w e) (rw (← reach_more i e) h)) (λ e. absurd (omega (arith, reach_at (length s) i e)))

  -- a token begins at the place: it stands in a word, or a word that has a letter or a digit begins there
  abbrev pub Begins : ℕ → Type 0
  Begins at =
      (is_within s at ≡ true)
      ⊎ ((joined s at ≡ false) × (at < length s) × (some is_alphanumeric (word_at s at) ≡ true) × (is_inner (value_at s (suc (suc at))) ≡ true))

  pub begins_way : (at : ℕ) → Begins at → OnWay (suc at)
  unfolding is_within
  begins_way at b =
      ⊎_elim
      (λ w.
      by_test (is_inner (value_at s (suc (suc at)))) (λ e. inl e)
      (λ e.
      let f : is_inner (value_at s (suc at)) ≡ true = sym (or_false (is_inner (value_at s (suc at)))) ∙ ap (λ (b : Bool). is_inner (value_at s (suc at)) || b) (sym e) ∙ and_l (is_inner (value_at s (suc at)) || is_inner (value_at s (suc (suc at)))) (joined s at) w in
      way_on at (inl f) (within_joined at w)))
      (λ w. inl w.3) b

  pub pieces_within : (at : ℕ) → is_within s at ≡ true → pieces_from s at ≡ left_over s at (reach s at)
  unfolding pieces_from
  pieces_within at e = ap (λ (b : Bool). cond b (left_over s at (reach s at)) (cut (words_from s (reach s at)))) e

  pub pieces_not : (at : ℕ) → is_within s at ≡ false → pieces_from s at ≡ cut (words_from s (reach s at))
  unfolding pieces_from
  pieces_not at e = ap (λ (b : Bool). cond b (left_over s at (reach s at)) (cut (words_from s (reach s at)))) e

  pieces_boundary : (at : ℕ) → joined s at ≡ false → pieces_from s at ≡ cut (words_from s at)
  pieces_boundary at e = pieces_not at (within_not at e) ∙ ap (λ (i : ℕ). cut (words_from s i)) (reach_at (length s) at e)

  cut_go : (t : List ℕ) (ts : List (List ℕ)) → cut (t ∷ ts) ≡ chunks t ++ cut ts
  unfolding cut
  cut_go t ts = refl

  begins_left : (at : ℕ) → Begins at → pieces_from s at ≡ left_over s at (reach s (suc at))
  begins_left at b =
      ⊎_elim
      (λ w. pieces_within at w ∙ ap (left_over s at) (reach_more at (within_joined at w)))
      (λ w. pieces_boundary at w.0 ∙ ap cut (from_kept at w.1 w.2) ∙ cut_go (word_at s at) (words_from s (reach s (suc at))))
      b

  begins_in : (at : ℕ) → Begins at → at < length s
  begins_in at b = ⊎_elim (λ w. joined_within at (within_joined at w)) (λ w. w.1) b

  -- so the first token is the first chunk up to the next boundary, and the others are those from its end on
  pub begins_one : (at : ℕ) → Begins at →
      pieces_from s at ≡ take (min chunk_most (reach s (suc at) - at)) (drop at s) ∷ pieces_from s (at + min chunk_most (reach s (suc at) - at))
  begins_one at b =
      let e = reach s (suc at) in
      let h = begins_in at b in
      let l = reach_least (suc at) in
      let m = reach_most (suc at) h in
      begins_left at b
      ∙ left_chunk at e l m
      ∙ ap (λ (ts : List (List ℕ)). take (min chunk_most (e - at)) (drop at s) ∷ ts)
      (by_less (at + min chunk_most (e - at)) e
      (λ k.
      let w = way_to (min chunk_most (e - at) - 1) (suc at) (at + min chunk_most (e - at)) (omega arith) (begins_way at b) k in
      let r = reach_between (suc at) (at + min chunk_most (e - at)) (omega arith) (omega arith) in
      sym (pieces_within (at + min chunk_most (e - at)) w ∙ ap (left_over s (at + min chunk_most (e - at))) r))
      (λ k.
      let z : at + min chunk_most (e - at) ≡ e = omega arith in
      rw z (left_none e ∙ sym (pieces_boundary e (reach_end (suc at))))))

  -- ---- what has no letter and no digit is passed over

  -- what is the same at a word without one and behind it, is the same from a place on to a boundary before which none stands
  module _ {A : Type 0} (F : ℕ → A) (leap : (i : ℕ) → i < length s → some is_alphanumeric (word_at s i) ≡ false → F i ≡ F (reach s (suc i))) where
    pub skip_to : (n at start : ℕ) → start ≡ n + at → joined s start ≡ false → start ≤ length s →
        ((k : ℕ) → at ≤ k → k < start → is_alphanumeric (get_or s k 0) ≡ false) → F (reach s at) ≡ F (reach s start)
    skip_to zero at start e j l f = let z : at ≡ start = omega arith in rw z
    skip_to (suc n) at start e j l f =
        let r = reach_stop (suc at) start (omega arith) j in
        let more = skip_to n (suc at) start (omega arith) j l (λ k h m. f k (omega arith) m) in
        by_test (joined s at) (λ w. ap F (reach_more at w) ∙ more)
        (λ w.
        let z : some is_alphanumeric (word_at s at) ≡ false = none_in is_alphanumeric (reach s (suc at) - at) at s (λ k h m. f (at + k) (omega arith) (omega arith)) in
        ap F (reach_at (length s) at w) ∙ leap at (omega arith) z ∙ more)

  -- the tokens from a place on are those from the boundary on
  pub skip_pieces : (at start : ℕ) → at ≤ start → is_within s at ≡ false → joined s start ≡ false → start ≤ length s →
      ((k : ℕ) → at ≤ k → k < start → is_alphanumeric (get_or s k 0) ≡ false) → pieces_from s at ≡ pieces_from s start
  skip_pieces at start h w j l f =
      pieces_not at w
      ∙ skip_to (λ i. cut (words_from s i)) (λ i m e. ap cut (from_left i m e)) (start - at) at start (omega arith) j l f
      ∙ sym (pieces_not start (within_not start j))

  pub pieces_end : (at : ℕ) → length s ≤ at → pieces_from s at ≡ []
  unfolding cut
  pieces_end at h = pieces_boundary at (joined_past at h) ∙ ap cut (from_end at h)

  -- ---- where the first token begins

  seek_here : (n i : ℕ) → leb (length s) i || some is_alphanumeric (word_at s i) ≡ true → seek_in s n i ≡ i
  unfolding seek_in
  seek_here zero i e = refl
  seek_here (suc n) i e = rw e

  seek_on : (n i : ℕ) → leb (length s) i || some is_alphanumeric (word_at s i) ≡ false → seek_in s (suc n) i ≡ seek_in s n (reach s (suc i))
  unfolding seek_in
  seek_on n i e = rw e

  seek_enough : (n m i : ℕ) → length s ≤ i + n → length s ≤ i + m → seek_in s n i ≡ seek_in s m i
  seek_enough zero m i h k =
      let e = or_l (some is_alphanumeric (word_at s i)) (le-leb (length s) i (omega arith)) in seek_here zero i e ∙ sym (seek_here m i e)
  seek_enough (suc n) zero i h k =
      let e = or_l (some is_alphanumeric (word_at s i)) (le-leb (length s) i (omega arith)) in seek_here (suc n) i e ∙ sym (seek_here zero i e)
  seek_enough (suc n) (suc m) i h k =
      by_test (leb (length s) i || some is_alphanumeric (word_at s i)) (λ e. seek_here (suc n) i e ∙ sym (seek_here (suc m) i e))
      (λ e.
      let l = reach_least (suc i) in
      seek_on n i e ∙ seek_enough n m (reach s (suc i)) (omega arith) (omega arith) ∙ sym (seek_on m i e))

  seek_leap : (i : ℕ) → i < length s → some is_alphanumeric (word_at s i) ≡ false → seek_in s (length s) i ≡ seek_in s (length s) (reach s (suc i))
  seek_leap i h e =
      seek_enough (length s) (suc (length s)) i (omega arith) (omega arith) ∙ seek_on (length s) i (neither (lt-leb (length s) i h) e)

  pub start_within : (at : ℕ) → is_within s at ≡ true → token_start s at ≡ at
  unfolding token_start
  start_within at e = ap (λ (b : Bool). cond b at (seek_in s (length s) (reach s at))) e

  start_not : (at : ℕ) → is_within s at ≡ false → token_start s at ≡ seek_in s (length s) (reach s at)
  unfolding token_start
  start_not at e = ap (λ (b : Bool). cond b at (seek_in s (length s) (reach s at))) e

  pub start_begins : (at : ℕ) → Begins at → token_start s at ≡ at
  start_begins at b =
      ⊎_elim (λ w. start_within at w)
      (λ w.
      start_not at (within_not at w.0) ∙ ap (seek_in s (length s)) (reach_at (length s) at w.0)
      ∙ seek_here (length s) at (or_r (leb (length s) at) w.2)) b

  pub start_end : (at : ℕ) → length s ≤ at → token_start s at ≡ at
  start_end at h =
      let j = joined_past at h in
      start_not at (within_not at j) ∙ ap (seek_in s (length s)) (reach_at (length s) at j)
      ∙ seek_here (length s) at (or_l (some is_alphanumeric (word_at s at)) (le-leb (length s) at h))

  pub skip_start : (at start : ℕ) → at ≤ start → is_within s at ≡ false → joined s start ≡ false → start ≤ length s →
      ((k : ℕ) → at ≤ k → k < start → is_alphanumeric (get_or s k 0) ≡ false) → token_start s at ≡ token_start s start
  skip_start at start h w j l f =
      start_not at w
      ∙ skip_to (seek_in s (length s)) seek_leap (start - at) at start (omega arith) j l f
      ∙ sym (start_not start (within_not start j))

  seek_low : (n i : ℕ) → i ≤ seek_in s n i
  unfolding seek_in
  seek_low zero i = omega arith
  seek_low (suc n) i =
      by_test (leb (length s) i || some is_alphanumeric (word_at s i)) (λ e. rw (seek_here (suc n) i e) (omega arith))
      (λ e. rw (seek_on n i e) (omega (arith, seek_low n (reach s (suc i)), reach_least (suc i))))

  pub start_least : (at : ℕ) → at ≤ token_start s at
  start_least at =
      by_test (is_within s at) (λ e. rw (start_within at e) (omega arith))
      (λ e. rw (start_not at e) (omega (arith, seek_low (length s) (reach s at), reach_least at)))

  -- ---- a word found

  -- a boundary between what is no letter, digit or `_` and one of them, unless the former joins
  pub outer_boundary : (k : ℕ) → is_inner (value_at s (suc k)) ≡ false → is_inner (value_at s (suc (suc k))) ≡ true →
      bridged (value_at s k) (value_at s (suc k)) (value_at s (suc (suc k))) ≡ false → joined s k ≡ false
  outer_boundary k e f g = joined_is k ∙ outer_joins (value_at s k) (value_at s (suc k)) (value_at s (suc (suc k))) (value_at s (suc (suc (suc k)))) e f ∙ g

  -- what joins has no boundary before it
  pub bridge_joined : (k : ℕ) → is_bridge s k ≡ true → joined s k ≡ true
  unfolding is_bridge
  bridge_joined k e = joined_is k ∙ bridge_joins (value_at s k) (value_at s (suc k)) (value_at s (suc (suc k))) (value_at s (suc (suc (suc k)))) e

  -- two of them hold together
  pub inner_joined : (k : ℕ) → is_inner (value_at s (suc k)) ≡ true → is_inner (value_at s (suc (suc k))) ≡ true → joined s k ≡ true
  inner_joined k e f = way_joined k (inl e) ∙ or_l (is_bridge s k) f

  -- so a stretch of them lies in one word
  stretch : (n i k : ℕ) → k ≡ n + i → ((j : ℕ) → i ≤ j → j ≤ k → joined s j ≡ true) → k < reach s i
  stretch zero i k e f = let z = reach_least (suc i) in omega (arith, reach_more i (f i (omega arith) (omega arith)))
  stretch (suc n) i k e f =
      let z = stretch n (suc i) k (omega arith) (λ j h l. f j (omega arith) l) in omega (arith, reach_more i (f i (omega arith) (omega arith)))

  pub inner_stretch : (start k : ℕ) → start ≤ k → ((j : ℕ) → start ≤ j → j ≤ k → is_inner (value_at s (suc (suc j))) ≡ true) → k < reach s (suc start)
  inner_stretch start k h f =
      by_less start k
      (λ l. stretch (k - suc start) (suc start) k (omega arith) (λ j m n. by_suc j m n))
      (λ l. omega (arith, reach_least (suc start)))
    where
      by_suc : (j : ℕ) → suc start ≤ j → j ≤ k → joined s j ≡ true
      by_suc zero m n = absurd (omega arith)
      by_suc (suc j) m n = inner_joined (suc j) (f j (omega arith) (omega arith)) (f (suc j) (omega arith) n)

  -- and a word that begins with one and has a letter or a digit further on begins a token
  pub found_begins : (start k : ℕ) → start ≤ k → k < length s → joined s start ≡ false →
      ((j : ℕ) → start ≤ j → j ≤ k → is_inner (value_at s (suc (suc j))) ≡ true) → is_alphanumeric (get_or s k 0) ≡ true → Begins start
  found_begins start k h l j f e =
      let r = inner_stretch start k h f in
      inr (j, omega arith, some_in is_alphanumeric (reach s (suc start) - start) start k s h (omega arith) l e, f start (omega arith) h)

  -- ---- of every word

  pub words_all : (R : ℕ → Bool) → all R s ≡ true → (n i : ℕ) → all (all R) (words_in s n i) ≡ true
  words_all R h zero i = rw (none_yet i) (all_nil (all R))
  words_all R h (suc n) i =
      by_less i (length s)
      (λ l.
      rw (words_go n i l)
      (all_cons (all R) (word_at s i) (words_in s n (reach s (suc i))) (all_take R (reach s (suc i) - i) (drop i s) (all_drop R i s h)) (words_all R h n (reach s (suc i)))))
      (λ l. rw (words_end (suc n) i l) (all_nil (all R)))

  words_total : (n i : ℕ) → i ≤ length s → total (words_in s n i) ≤ length s - i
  unfolding total
  words_total zero i h = rw (none_yet i) (omega arith)
  words_total (suc n) i h =
      by_less i (length s)
      (λ l.
      let m = reach_most (suc i) l in
      let k = reach_least (suc i) in
      rw (words_go n i l) (omega (arith, length-take (reach s (suc i) - i) (drop i s), words_total n (reach s (suc i)) m)))
      (λ l. rw (words_end (suc n) i l) (omega arith))

  pub tokens_within : total (cut (words s)) ≤ length s
  unfolding words
  tokens_within =
      omega (arith, cut_total (words_from s 0), those_total (some is_alphanumeric) (words_in s (length s) 0), words_total (length s) 0 (omega arith))

  -- ---- what a byte is, by its value

  pub solid_at : (i : ℕ) → i < length s → is_solid (value_at s (suc (suc i))) ≡ is_alphanumeric (get_or s i 0)
  solid_at i h = rw (value_in i h, letter_value, digit_value)

  pub inner_at : (i : ℕ) → i < length s → is_inner (value_at s (suc (suc i))) ≡ is_plain (get_or s i 0)
  inner_at i h = rw (value_in i h, letter_value, digit_value)

  -- ---- a text of letters is one word

  pub one_word : 0 < length s → all is_letter s ≡ true → words s ≡ s ∷ []
  unfolding words
  one_word h l =
      let letter : (k : ℕ) → k < length s → is_alphanumeric (get_or s k 0) ≡ true = λ k m. or_l (is_digit (get_or s k 0)) (all_at is_letter s k l m) in
      let f = inner_stretch 0 (length s - 1) (omega arith)
      (λ j m n. inner_at j (omega arith) ∙ or_l (is (word_break (get_or s j 0)) extend_num_let) (letter j (omega arith))) in
      let r : reach s 1 ≡ length s = omega (arith, f, reach_most 1 (omega arith)) in
      let z : length s - 0 ≡ length s = omega arith in
      from_kept 0 h (some_in is_alphanumeric (reach s 1 - 0) 0 0 s (omega arith) (omega arith) h (letter 0 h))
      ∙ rw (r, z, take-length) (ap (λ (ws : List (List ℕ)). s ∷ ws) (from_end (length s) (omega arith)))
