-- Each kind of query over its nested round: what stands where, that there is room, and what the round comes to.
use mathlib.Core.Path.{◌≡◌, refl, sym, ap, ◌∙◌, subst}
use Prim.Native.Nat.{ℕ, ◌+◌, ◌-◌, ◌≤◌, ◌<◌}
use mathlib.Core.List.{List, ◌++◌}
use mathlib.Core.Bool.{Bool, true, false, cond}
use native.Mathlib.Omega.{arith}
use lib.ListN.{length, get_or, take, drop, length-drop}
use lib.Seq.{drop-drop}
use Rattle.rules.specs.Bytes.{of_big, tag_of}
use Rattle.rules.specs.Query.{Word, Query, term, phrase, boolean, boost, constant_score, match_all, match_none, range, Clauses}
use Rattle.rules.specs.Stored.{encode, encodes, Valid, Valids}
use Rattle.rules.specs.Checked.{Is, Are}
use Rattle.rules.specs.Floats.{widened, is_one}
use Rattle.rules.specs.Rewriting.{boosted, scored, phrased, is_dead, live, of_live, rewrite_boolean, rewrite_once, rewrite_each, clause_count, clause_counts, bulk, bulks}
use Rattle.rules.proofs.Stored.Bigs.{read_big}
use Rattle.rules.proofs.Stored.Parts.{cut_from}
use Rattle.rules.proofs.Stored.Inverse.{boost_below}
use Rattle.rules.proofs.Stored.Sizes.{length_encode}
use Rattle.rules.proofs.Stored.Views.{View, v_phrase, v_boolean, at_tag}
use Rattle.rules.proofs.Rewriting.Measures.{bulk_is, bulks_are, measured}
use Rattle.rules.proofs.Rewriting.Bounds.{Bounded, BoundedAll, bounds_law}
use Rattle.rules.proofs.Rewriting.Weights.{Lightens, LightensAll, weight_law, valid_once}
use Rattle.rules.proofs.Rewriting.Walk.{once_law, each_law, live_law}
use Rattle.numbers.specs.Laid.{Put}
use Rattle.numbers.proofs.Laying.{lent, length_laid}
use Rattle.places.specs.Within.{within, Stands}
use Rattle.round.specs.Over.{Inner, Phrase, Live}
use Rattle.round.specs.Once.{Room, Rooms, Went}
use Rattle.places.proofs.Standing.{stands_over, stands_lent, within_length}
use Rattle.merging.proofs.Forms.{is_same_lem, long_of}
use Rattle.merging.proofs.Placed.{tag_at}
use Rattle.round.proofs.Finishing.{boost_form, score_form, moved}

-- ---- sizes

pub once_bulk : (strict : Bool) (q : Query) → (length (encode (rewrite_once strict q)) ≤ bulk q) × (bulk (rewrite_once strict q) ≤ bulk q) × (3 ≤ bulk q)
once_bulk strict q =
    let b = (once_law strict Bounded (λ m cs ds. BoundedAll cs ds) (bounds_law strict) q).in_bulk in
    omega (arith, b, bulk_is (rewrite_once strict q), measured q)

each_bulk : (strict : Bool) (cs : Clauses) → bulks (rewrite_each strict cs) ≤ bulks cs
each_bulk strict cs = (each_law strict Bounded (λ m cs ds. BoundedAll cs ds) (bounds_law strict) cs 0).in_bulk

live_bulk : (strict : Bool) (cs : Clauses) → is_dead (rewrite_each strict cs) ≡ false → bulks (live (rewrite_each strict cs)) ≤ bulks cs
live_bulk strict cs h =
    let l = (live_law strict Bounded (λ m cs ds. BoundedAll cs ds) (bounds_law strict) 0 (rewrite_each strict cs) h).in_bulk in
    omega (arith, each_bulk strict cs)

live_valid : (strict : Bool) (cs : Clauses) → is_dead (rewrite_each strict cs) ≡ false → Valids cs → Valids (live (rewrite_each strict cs))
live_valid strict cs h v = (live_law strict Lightens LightensAll (weight_law strict) 0 (rewrite_each strict cs) h (each_law strict Lightens LightensAll (weight_law strict) cs 0 v).0).0

-- ---- forms, by tag

phrase_form : (q : Query) → tag_of (encode q) ≡ 2 → (f : List ℕ) × (ws : List Word) × (q ≡ phrase f ws)
phrase_form q h = go (at_tag (encode q) _ 2 q h refl refl)
  where
    go : {b : List ℕ} {q : Query} → View 2 b q → (f : List ℕ) × (ws : List Word) × (q ≡ phrase f ws)
    go (v_phrase {f} {ws}) = (f, ws, refl)

boolean_form : (q : Query) → tag_of (encode q) ≡ 3 → (m : ℕ) × (cs : Clauses) × (q ≡ boolean m cs)
boolean_form q h = go (at_tag (encode q) _ 3 q h refl refl)
  where
    go : {b : List ℕ} {q : Query} → View 3 b q → (m : ℕ) × (cs : Clauses) × (q ≡ boolean m cs)
    go (v_boolean {m} {cs}) = (m, cs, refl)

plain_form : (strict : Bool) (q : Query) → (tag_of (encode q) ≡ 2 → ⊥) → (tag_of (encode q) ≡ 3 → ⊥) → (tag_of (encode q) ≡ 4 → ⊥) → (tag_of (encode q) ≡ 5 → ⊥) → rewrite_once strict q ≡ q
unfolding encode rewrite_once
plain_form strict (term f t) a b c d = refl
plain_form strict (phrase f ws) a b c d = absurd (a refl)
plain_form strict (boolean m cs) a b c d = absurd (b refl)
plain_form strict (boost x q) a b c d = absurd (c refl)
plain_form strict (constant_score q) a b c d = absurd (d refl)
plain_form strict match_all a b c d = refl
plain_form strict match_none a b c d = refl
plain_form strict (range n f l u) a b c d = refl

-- ---- a stretch that was lent

-- the room once the stretch from a up to its end came back as ys
abbrev pub returned : ℕ → List ℕ → List ℕ → List ℕ
returned a room ys = take a room ++ (ys ++ drop (length room - a) (drop a room))

-- what stands from `at` on in the stretch that is lent from a on
lent_drop : (room : List ℕ) (a at : ℕ) → drop at (within a (length room) room) ≡ drop (at + a) room
lent_drop room a at = let z : a + at ≡ at + a = omega arith in ap (drop at) (cut_from a room) ∙ drop-drop at a room ∙ ap (λ (i : ℕ). drop i room) z

module _ (room ys : List ℕ) (a : ℕ) (low : a ≤ length room) where
  pub returned_stands : {n : ℕ} {s : List ℕ} → Stands 0 (within a (length room) room) n s ys → Stands a room n s (returned a room ys)
  returned_stands S =
      let all : length room ≤ length room = omega arith in
      stands_lent room ys a (length room) low all (S.long ∙ within_length room a (length room) low all) S

  pub returned_long : length ys ≡ length (within a (length room) room) → length (returned a room ys) ≡ length room
  returned_long l =
      let all : length room ≤ length room = omega arith in
      let n = within_length room a (length room) low all in
      ap length (lent room ys a (length room) low all (l ∙ n)) ∙ length_laid room a ys (omega arith)

-- ---- a query of another form, nested in the first

-- the one query in it, behind k bytes
pub record InnerAt (k at : ℕ) (room : List ℕ) (q : Query) : Type 0 where
  pub inner : Query
  pub low : at + k + 3 ≤ length room
  pub here : Is (drop (at + k) room) inner
  pub size : bulk q ≡ k + bulk inner
  pub count : clause_count q ≡ clause_count inner

pub record BoostAt (at : ℕ) (room : List ℕ) (q : Query) : Type 0 where
  pub bits : ℕ
  pub nested : InnerAt 7 at room q
  pub is : q ≡ boost bits nested.inner
  pub read : of_big (take 4 (drop (at + 3) room)) ≡ bits

pub record ScoreAt (at : ℕ) (room : List ℕ) (q : Query) : Type 0 where
  pub nested : InnerAt 3 at room q
  pub is : q ≡ constant_score nested.inner

pub record BooleanAt (at : ℕ) (room : List ℕ) (q : Query) : Type 0 where
  pub least : ℕ
  pub clauses : Clauses
  pub is : q ≡ boolean least clauses
  pub read : of_big (take 2 (drop (at + 6) room)) ≡ least
  pub low : at + 8 ≤ length room
  pub are : Are (drop (at + 8) room) clauses
  pub size : bulk q ≡ 8 + bulks clauses
  pub count : clause_count q ≡ clause_counts clauses

module _ {at : ℕ} {room : List ℕ} (R : Room at room) where
  pub inside : (at + 3 ≤ length room) × (length room - at ≡ length (encode R.query)) × (length room - at ≤ bulk R.query)
  inside = omega (arith, long_of R.is, ap length R.is.form, length-drop at room, bulk_is R.query)

  pub tag_here : get_or room at 0 ≡ tag_of (encode R.query)
  tag_here = tag_at room (encode R.query) at (sym R.is.form)

  -- what is shown of it is shown of each query that has these bytes
  pub for_all : (strict : Bool) {r : ℕ} {room' : List ℕ} → Stands 0 room r (encode (rewrite_once strict R.query)) room'
      → (q : Query) → Is (drop at room) q → Stands 0 room r (encode (rewrite_once strict q)) room'
  for_all strict {r} {room'} S q i = subst (λ (x : Query). Stands 0 room r (encode (rewrite_once strict x)) room') (is_same_lem R.is i) S

  -- as a query of the form that its tag shows
  as_form : {q : Query} → R.query ≡ q → Is (drop at room) q
  as_form e = subst (λ (q : Query). Is (drop at room) q) e R.is

  -- a number that is read at a place of it
  read_at : (n k : ℕ) → of_big (take n (within (at + k) (length room) room)) ≡ of_big (take n (drop (at + k) room))
  read_at n k = ap (λ (l : List ℕ). of_big (take n l)) (cut_from (at + k) room)

  -- ---- the one query in it

  module _ {k : ℕ} (N : InnerAt k at room R.query) where
    inner_lent : Is (drop at (within k (length room) room)) N.inner
    inner_lent = record { valid = N.here.valid; form = N.here.form ∙ sym (lent_drop room k at) }

    inner_room : Room at (within k (length room) room)
    inner_room = record { query = N.inner; is = inner_lent; fits = omega (arith, R.fits, N.count); small = omega (arith, R.small, N.size) }

    -- the stretch from k on came back as ys
    module _ (strict : Bool) {n : ℕ} {ys : List ℕ} (T : (q : Query) → Is (drop at (within k (length room) room)) q → Stands 0 (within k (length room) room) n (encode (rewrite_once strict q)) ys) where
      inner_stands : Stands k room n (encode (rewrite_once strict N.inner)) (returned k room ys)
      inner_stands = let l = N.low in returned_stands room ys k (omega arith) (T N.inner inner_lent)

      inner_is : Is (take n (drop k (returned k room ys))) (rewrite_once strict N.inner)
      inner_is = record { valid = valid_once strict N.inner N.here.valid; form = sym inner_stands.there }

      inner_inside : Inner k n (returned k room ys)
      inner_inside =
          let b = once_bulk strict N.inner in
          record {
            query = rewrite_once strict N.inner;
            is = inner_is;
            fits = omega (arith, inner_stands.size, inner_stands.long, R.fits, N.size, N.count, inside, bulk_is R.query);
            small = omega (arith, inner_stands.size, R.small, N.size);
          }

      -- the last step makes f of it
      inner_done : (f : Query → Query) → rewrite_once strict R.query ≡ f (rewrite_once strict N.inner) → {r : ℕ} {room₂ : List ℕ}
          → ((q : Query) → Is (take n (drop k (returned k room ys))) q → Stands 0 (returned k room ys) r (encode (f q)) room₂)
          → (q : Query) → Is (drop at room) q → Stands 0 room r (encode (rewrite_once strict q)) room₂
      inner_done f e U = for_all strict (rw e (stands_over inner_stands (U (rewrite_once strict N.inner) inner_is) (omega arith)))

  -- ---- a phrase

  module _ (h : get_or room at 0 ≡ 2) where
    pub phrase_here : Phrase at room
    phrase_here =
        let F = phrase_form R.query (sym tag_here ∙ h) in
        record {
          field = F.0;
          words = F.1;
          is = as_form F.2;
          low = omega (arith, inside);
          small = omega (arith, inside, R.small);
        }

    pub phrase_done : (strict : Bool) {r : ℕ} {room' : List ℕ} → ((f : List ℕ) (ws : List Word) → Is (drop at room) (phrase f ws) → Stands 0 room r (encode (phrased f ws)) room')
        → (q : Query) → Is (drop at room) q → Stands 0 room r (encode (rewrite_once strict q)) room'
    unfolding rewrite_once
    phrase_done strict {r} {room'} S =
        let F = phrase_form R.query (sym tag_here ∙ h) in
        for_all strict (subst (λ (q : Query). Stands 0 room r (encode (rewrite_once strict q)) room') (sym F.2) (S F.0 F.1 (as_form F.2)))

  -- ---- a boost

  boost_at_lem : get_or room at 0 ≡ 4 → BoostAt at room R.query
  unfolding Valid bulk clause_count encode
  boost_at_lem h =
      let F = boost_form R.query (sym tag_here ∙ h) in
      let i = as_form F.2 in
      record {
        bits = F.0;
        nested = record {
          inner = F.1;
          low = omega (arith, ap length i.form, length-drop at room, length_encode F.1);
          here = record { valid = i.valid.1; form = ap (drop 7) i.form ∙ drop-drop 7 at room };
          size = ap bulk F.2;
          count = ap clause_count F.2;
        };
        is = F.2;
        read = ap (λ (l : List ℕ). of_big (take 4 l)) (sym (drop-drop 3 at room) ∙ ap (drop 3) (sym i.form)) ∙ read_big 4 F.0 (boost_below F.0 i.valid.0);
      }

  module _ (h : get_or room at 0 ≡ 4) where
    B : BoostAt at room R.query
    B = boost_at_lem h

    pub boost_low : at + 10 ≤ length room
    boost_low = let l = B.nested.low in omega arith

    pub boost_room : Room at (within 7 (length room) room)
    boost_room = inner_room B.nested

    -- the stretch from 7 on came back as ys
    module _ (strict : Bool) {n : ℕ} {ys : List ℕ} (T : (q : Query) → Is (drop at (within 7 (length room) room)) q → Stands 0 (within 7 (length room) room) n (encode (rewrite_once strict q)) ys) where
      pub boost_inside : Inner 7 n (returned 7 room ys)
      boost_inside = inner_inside B.nested strict T

      pub boost_done : (b : ℕ) → b ≡ of_big (take 4 (within (at + 3) (length room) room)) → {r : ℕ} {room₂ : List ℕ}
          → ((q : Query) → Is (take n (drop 7 (returned 7 room ys))) q → Stands 0 (returned 7 room ys) r (encode (cond (is_one (widened b)) q (boosted b q))) room₂)
          → (q : Query) → Is (drop at room) q → Stands 0 room r (encode (rewrite_once strict q)) room₂
      unfolding rewrite_once
      boost_done b eb =
          let p = rewrite_once strict B.nested.inner in
          inner_done B.nested strict T (λ q. cond (is_one (widened b)) q (boosted b q))
          (ap (rewrite_once strict) B.is ∙ ap (λ (x : ℕ). cond (is_one (widened x)) p (boosted x p)) (sym (eb ∙ read_at 4 3 ∙ B.read)))

  -- ---- a constant score

  score_at : get_or room at 0 ≡ 5 → ScoreAt at room R.query
  unfolding Valid bulk clause_count encode
  score_at h =
      let F = score_form R.query (sym tag_here ∙ h) in
      let i = as_form F.1 in
      record {
        nested = record {
          inner = F.0;
          low = omega (arith, ap length i.form, length-drop at room, length_encode F.0);
          here = record { valid = i.valid; form = ap (drop 3) i.form ∙ drop-drop 3 at room };
          size = ap bulk F.1;
          count = ap clause_count F.1;
        };
        is = F.1;
      }

  module _ (h : get_or room at 0 ≡ 5) where
    C : ScoreAt at room R.query
    C = score_at h

    pub score_low : at + 6 ≤ length room
    score_low = let l = C.nested.low in omega arith

    pub score_room : Room at (within 3 (length room) room)
    score_room = inner_room C.nested

    -- the stretch from 3 on came back as ys
    module _ (strict : Bool) {n : ℕ} {ys : List ℕ} (T : (q : Query) → Is (drop at (within 3 (length room) room)) q → Stands 0 (within 3 (length room) room) n (encode (rewrite_once strict q)) ys) where
      pub score_inside : Inner 3 n (returned 3 room ys)
      score_inside = inner_inside C.nested strict T

      pub score_done : {r : ℕ} {room₂ : List ℕ}
          → ((q : Query) → Is (take n (drop 3 (returned 3 room ys))) q → Stands 0 (returned 3 room ys) r (encode (scored q)) room₂)
          → (q : Query) → Is (drop at room) q → Stands 0 room r (encode (rewrite_once strict q)) room₂
      unfolding rewrite_once
      score_done = inner_done C.nested strict T scored (ap (rewrite_once strict) C.is)

  -- ---- a Boolean

  boolean_at : get_or room at 0 ≡ 3 → BooleanAt at room R.query
  unfolding Valid bulk clause_count encode
  boolean_at h =
      let F = boolean_form R.query (sym tag_here ∙ h) in
      let i = as_form F.2 in
      record {
        least = F.0;
        clauses = F.1;
        is = F.2;
        read = ap (λ (l : List ℕ). of_big (take 2 l)) (sym (drop-drop 6 at room) ∙ ap (drop 6) (sym i.form)) ∙ read_big 2 F.0 i.valid.0;
        low = omega (arith, ap length i.form, length-drop at room);
        are = record { valid = i.valid.1; form = ap (drop 8) i.form ∙ drop-drop 8 at room };
        size = ap bulk F.2;
        count = ap clause_count F.2;
      }

  module _ (h : get_or room at 0 ≡ 3) where
    D : BooleanAt at room R.query
    D = boolean_at h

    pub boolean_low : at + 8 ≤ length room
    boolean_low = D.low

    boolean_lent : Are (drop at (within 8 (length room) room)) D.clauses
    boolean_lent = record { valid = D.are.valid; form = D.are.form ∙ sym (lent_drop room 8 at) }

    pub boolean_rooms : Rooms at (within 8 (length room) room)
    boolean_rooms =
        let l = D.low in
        record {
          clauses = D.clauses;
          are = boolean_lent;
          low = omega (arith, within_length room 8 (length room) (omega arith) (omega arith));
          fits = omega (arith, R.fits, D.count);
          small = omega (arith, R.small, D.size);
        }

    -- the stretch from 8 on came back as ys
    module _ (ys : List ℕ) (long : length ys ≡ length (within 8 (length room) room)) where
      pub boolean_long : length (returned 8 room ys) ≡ length room
      boolean_long = let l = D.low in returned_long room ys 8 (omega arith) long

      pub boolean_dead : (strict : Bool) → ((cs : Clauses) → Are (drop at (within 8 (length room) room)) cs → is_dead (rewrite_each strict cs) ≡ true) → {r : ℕ} {room₂ : List ℕ}
          → Stands 0 (returned 8 room ys) r (encode match_none) room₂ → (q : Query) → Is (drop at room) q → Stands 0 room r (encode (rewrite_once strict q)) room₂
      unfolding rewrite_once rewrite_boolean
      boolean_dead strict E {r} {room₂} T =
          let U : Stands 0 room r (encode match_none) room₂ = record { long = T.long ∙ boolean_long; kept = refl; size = T.size; there = T.there } in
          for_all strict (subst (λ (q : Query). Stands 0 room r (encode (rewrite_once strict q)) room₂) (sym D.is) (rw (E D.clauses boolean_lent) U))

    module _ (strict : Bool) {w : ℕ} {ys : List ℕ} (T : (cs : Clauses) → Are (drop at (within 8 (length room) room)) cs → Went strict w (within 8 (length room) room) ys cs)
        (m : ℕ) (em : (m ≡ of_big (take 2 (within (at + 6) (length room) room))) × (m < 65536)) where
      S₈ : Stands 8 room w (encodes (live (rewrite_each strict D.clauses))) (returned 8 room ys)
      S₈ = let l = D.low in returned_stands room ys 8 (omega arith) (T D.clauses boolean_lent).stands

      alive_are : Are (within 8 (8 + w) (returned 8 room ys)) (live (rewrite_each strict D.clauses))
      alive_are =
          let z : 8 + w - 8 ≡ w = omega arith in
          record {
            valid = live_valid strict D.clauses (T D.clauses boolean_lent).alive D.are.valid;
            form = sym (ap (λ (n : ℕ). take n (drop 8 (returned 8 room ys))) z ∙ S₈.there);
          }

      pub boolean_live : Live (8 + w) m (returned 8 room ys)
      boolean_live =
          let b = live_bulk strict D.clauses (T D.clauses boolean_lent).alive in
          let n = bulks_are (live (rewrite_each strict D.clauses)) in
          let i = inside in
          let q = bulk_is R.query in
          record {
            clauses = live (rewrite_each strict D.clauses);
            are = alive_are;
            low = omega arith;
            high = omega (arith, S₈.size, S₈.long, R.fits, D.size, D.count);
            fits = omega (arith, S₈.long, R.fits, D.size, D.count);
            small = omega (arith, R.small, D.size);
            least = em.1;
          }

      pub boolean_done : {r : ℕ} {room₂ : List ℕ}
          → ((cs : Clauses) → Are (within 8 (8 + w) (returned 8 room ys)) cs → Stands 0 (returned 8 room ys) r (encode (of_live strict m cs)) room₂)
          → (q : Query) → Is (drop at room) q → Stands 0 room r (encode (rewrite_once strict q)) room₂
      unfolding rewrite_once rewrite_boolean
      boolean_done {r} {room₂} U =
          let e = em.0 ∙ read_at 2 6 ∙ D.read in
          let X = stands_over S₈ (U (live (rewrite_each strict D.clauses)) alive_are) (omega arith) in
          for_all strict (subst (λ (q : Query). Stands 0 room r (encode (rewrite_once strict q)) room₂) (sym D.is)
          (rw (T D.clauses boolean_lent).alive (subst (λ (x : ℕ). Stands 0 room r (encode (of_live strict x (live (rewrite_each strict D.clauses)))) room₂) e X)))

  -- ---- all others

  pub plain_done : (strict : Bool) → (get_or room at 0 ≡ 2 → ⊥) → (get_or room at 0 ≡ 3 → ⊥) → (get_or room at 0 ≡ 4 → ⊥) → (get_or room at 0 ≡ 5 → ⊥) → {p : ℕ} {room' : List ℕ}
      → Put room 0 (take (length room - at) (drop at room)) p room' → (q : Query) → Is (drop at room) q → Stands 0 room (length room - at) (encode (rewrite_once strict q)) room'
  plain_done strict a b c d P =
      let t = tag_here in
      let e = plain_form strict R.query (λ z. a (t ∙ z)) (λ z. b (t ∙ z)) (λ z. c (t ∙ z)) (λ z. d (t ∙ z)) in
      for_all strict (rw e (moved at (length room - at) P (cut_from at room ∙ sym R.is.form) (omega (arith, inside)) (omega (arith, inside))))
