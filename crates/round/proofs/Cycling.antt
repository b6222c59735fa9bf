-- The loop over the clauses of a Boolean: each is rewritten in its own stretch of the room, from behind those before it up to where it ends.
use mathlib.Core.Path.{◌≡◌, refl, sym, ap, ◌∙◌}
use Prim.Native.Nat.{ℕ, zero, suc, ◌+◌, ◌-◌, ◌≤◌, ◌<◌}
use mathlib.Core.List.{List, [], ◌∷◌, ◌++◌}
use mathlib.Core.Bool.{Bool, true, false, ◌&&◌, ◌||◌, cond}
use native.Mathlib.Omega.{arith}
use lib.ListN.{length, get_or, take, drop, length-take, length-drop}
use lib.Seq.{take-nil, drop-drop}
use Rattle.rules.specs.Bytes.{part, tag_of, size_of}
use Rattle.rules.specs.Query.{Kind, Query, Clauses, none, clause}
use Rattle.rules.specs.Stored.{kind_tag, encode, encodes}
use Rattle.rules.specs.Checked.{Is, Are}
use Rattle.rules.specs.Rewriting.{is_none, is_needed, is_dead, live, rewrite_once, rewrite_each, clause_count, clause_counts, bulk, bulks}
use Rattle.rules.proofs.Bools.{fails}
use Rattle.rules.proofs.Rewriting.Measures.{bulk_is, bulks_are}
use Rattle.rules.proofs.Rewriting.Weights.{valid_once}
use Rattle.rules.proofs.Rewriting.Walk.{join, snoc, join_none, none_is}
use Rattle.rules.proofs.Stored.Parts.{cut_from}
use Rattle.rules.proofs.Stored.Sizes.{length_encode}
use Rattle.numbers.specs.Laid.{Put, header}
use Rattle.numbers.proofs.Laying.{lent}
use Rattle.places.specs.Within.{within, Stands}
use Rattle.round.specs.Once.{Room, Rooms, Went}
use Rattle.places.proofs.Standing.{within_same, within_length, joined, stands_before, stands_lent, behind_laid}
use Rattle.merging.proofs.Forms.{are_same}
use Rattle.merging.proofs.Placed.{ClauseAt, clause_at_lem, no_clause_at, clause_end, clause_is, clause_further}
use Rattle.merging.proofs.Rows.{encodes_snoc, join_snoc, length_snoc}
use Rattle.round.proofs.Finishing.{tag_of_lem, none_form}
use Rattle.round.proofs.Nested.{once_bulk}

pub none_true : (q : Query) → tag_of (encode q) ≡ 7 → is_none q ≡ true
unfolding is_none
none_true q h = ap is_none (none_form q h)

pub none_false : (q : Query) → (tag_of (encode q) ≡ 7 → ⊥) → is_none q ≡ false
unfolding encode
none_false q n = fails (is_none q) (λ h. n (ap (λ (x : Query). tag_of (encode x)) (none_is q h)))

snoc_bulk : (a : Clauses) (k : Kind) (q : Query) → bulks (snoc a k q) ≡ bulks a + 4 + bulk q
unfolding bulk
snoc_bulk none k q = omega arith
snoc_bulk (clause j p a) k q = omega (arith, snoc_bulk a k q)

-- ---- the loop

drop_take : (k n : ℕ) (s : List ℕ) → drop k (take n s) ≡ take (n - k) (drop k s)
drop_take zero n s = let z : n - 0 ≡ n = omega arith in ap (λ (i : ℕ). take i s) (sym z)
drop_take (suc k) zero s = let z : 0 - suc k ≡ 0 = omega arith in ap (λ (i : ℕ). take i (drop (suc k) s)) (sym z)
drop_take (suc k) (suc n) [] = sym (take-nil (suc n - suc k))
drop_take (suc k) (suc n) (x ∷ s) = drop_take k n s ∙ (let z : n - k ≡ suc n - suc k = omega arith in ap (λ (i : ℕ). take i (drop k s)) z)

within_drop : (room : List ℕ) (a e k : ℕ) → drop k (within a e room) ≡ within (a + k) e room
within_drop room a e k = let z : e - a - k ≡ e - (a + k) = omega arith in drop_take k (e - a) (drop a room) ∙ ap (take (e - a - k)) (drop-drop k a room) ∙ ap (λ (n : ℕ). take n (drop (a + k) room)) z

-- the clauses from t on are left; those before them, without the dropped ones, stand in the first w bytes
pub record Rewriting (strict : Bool) (at : ℕ) (room₀ room : List ℕ) (t w : ℕ) : Type 0 where
  pub all : Rooms at room₀
  pub long : length room ≡ length room₀
  pub low : at ≤ t
  pub high : t ≤ length room
  pub left : Clauses
  pub are_left : Are (within t (length room) room) left
  pub done : Clauses
  pub place : w ≡ length (encodes done)
  pub there : within 0 w room ≡ encodes done
  pub dead : is_dead (rewrite_each strict all.clauses) ≡ is_dead (rewrite_each strict left)
  pub whole : join done (live (rewrite_each strict left)) ≡ live (rewrite_each strict all.clauses)
  pub bulky : bulks done + bulks left ≤ bulks all.clauses

pub rewriting_start : {strict : Bool} {at : ℕ} {room : List ℕ} → Rooms at room → Rewriting strict at room room at 0
unfolding encodes bulk
rewriting_start {at} {room} R = record {
  all = R;
  long = refl;
  low = omega arith;
  high = R.low;
  left = R.clauses;
  are_left = record { valid = R.are.valid; form = R.are.form ∙ sym (cut_from at room) };
  done = none;
  place = refl;
  there = refl;
  dead = refl;
  whole = refl;
  bulky = omega arith;
}

module _ {strict : Bool} {at : ℕ} {room₀ room : List ℕ} {t w : ℕ} (g : Rewriting strict at room₀ room t w) where
  -- what is laid leaves a byte for each clause that is still to be read
  pub behind : (w + clause_counts g.left ≤ t) × (w + clause_counts g.done ≤ length room) × (bulks g.left < 65536) × (bulks g.done < 65536)
  behind =
      let d = bulks_are g.done in
      let l = bulks_are g.left in
      let a = bulks_are g.all.clauses in
      let n = ap length g.all.are.form in
      let m = ap length g.are_left.form in
      omega (arith, g.place, g.bulky, g.all.fits, g.all.small, g.all.low, g.long, length-drop at room₀, within_length room t (length room) g.high (omega arith))

  module _ (p : t < length room) where
    pub here : ClauseAt room t (length room) g.left
    here = clause_at_lem room t (length room) g.left g.are_left p (omega arith)

    size : (bulks g.left ≡ 4 + bulk here.query + bulks here.others) × (clause_counts g.left ≡ 1 + clause_count here.query + clause_counts here.others)
    unfolding bulk clause_count
    size = (ap bulks here.split, ap clause_counts here.split)

    module _ (e : ℕ) (ee : e ≡ t + 3 + size_of (drop t room)) where
      pub child_low : (w + 3 ≤ e) × (w ≤ t) × (t + 3 ≤ e) × (e ≤ length room) × (w + 6 ≤ e)
      child_low =
          let f = clause_further here e ee in
          let b = behind in
          omega (arith, clause_end here e ee, length_encode here.query)

      pub child_room : Room (t - w) (within (w + 3) e room)
      child_room =
          let l = child_low in
          let b = behind in
          let s = size in
          let z : w + 3 + (t - w) ≡ t + 3 = omega arith in
          let i = clause_is here e ee in
          record {
            query = here.query;
            is = record { valid = i.valid; form = i.form ∙ sym (within_drop room (w + 3) e (t - w) ∙ ap (λ (k : ℕ). within k e room) z) };
            fits = omega arith;
            small = omega arith;
          }

      -- its stretch came back as ys
      module _ {n : ℕ} (ys : List ℕ)
          (T : (q : Query) → Is (drop (t - w) (within (w + 3) e room)) q → Stands 0 (within (w + 3) e room) n (encode (rewrite_once strict q)) ys) where
        abbrev room₁ : List ℕ
        room₁ = take (w + 3) room ++ (ys ++ drop (e - (w + 3)) (drop (w + 3) room))

        S₀ : Stands 0 (within (w + 3) e room) n (encode (rewrite_once strict here.query)) ys
        S₀ = let R = child_room in T here.query (here_is)
          where
            here_is : Is (drop (t - w) (within (w + 3) e room)) here.query
            here_is =
                let l = child_low in
                let z : w + 3 + (t - w) ≡ t + 3 = omega arith in
                let i = clause_is here e ee in
                record { valid = i.valid; form = i.form ∙ sym (within_drop room (w + 3) e (t - w) ∙ ap (λ (k : ℕ). within k e room) z) }

        long_ys : length ys ≡ e - (w + 3)
        long_ys = let l = child_low in S₀.long ∙ within_length room (w + 3) e l.0 l.3

        S : Stands (w + 3) room n (encode (rewrite_once strict here.query)) room₁
        S = let l = child_low in stands_lent room ys (w + 3) e l.0 l.3 long_ys S₀

        above : within e (length room) room₁ ≡ within e (length room) room
        above =
            let l = child_low in
            let y = long_ys in
            ap (within e (length room)) (lent room ys (w + 3) e l.0 l.3 y) ∙ behind_laid room ys e (length room) (w + 3) (omega arith) (omega arith)

        child_tag : get_or room₁ (w + 3) 0 ≡ tag_of (encode (rewrite_once strict here.query))
        child_tag = tag_of_lem room₁ (w + 3) n (rewrite_once strict here.query) (record { valid = valid_once strict here.query here.is.valid; form = sym S.there })

        pub child_fits : (w + 3 < length room₁) × (w + 3 + n ≤ length room₁) × (n < 65536) × (length room₁ ≡ length room) × (w + 3 + n < 65536) × (w + n ≤ t + length (encode here.query))
        child_fits =
            let b = behind in
            let s = size in
            let l = child_low in
            let o = once_bulk strict here.query in
            let k = bulk_is here.query in
            let d = bulks_are g.done in
            omega (arith, S.size, S.long, long_ys, S₀.size, length-take n ys, ap length S₀.there, g.place, g.bulky, g.all.small)

        -- what stands below w is as it was
        below : (a b : ℕ) → a ≤ b → b ≤ w → within a b room₁ ≡ within a b room
        below a b h k = within_same room₁ room a b (w + 3) h (omega arith) S.kept

        long₁ : length room₁ ≡ length room₀
        long₁ = S.long ∙ g.long

        are₁ : Are (within e (length room) room₁) here.others
        are₁ = record {
          valid = here.are.valid;
          form = here.are.form ∙ ap (λ (i : ℕ). within i (length room) room) (sym (clause_end here e ee)) ∙ sym above;
        }

        unroll_dead : is_dead (rewrite_each strict g.left) ≡ ((is_needed here.kind && is_none (rewrite_once strict here.query)) || is_dead (rewrite_each strict here.others))
        unfolding is_dead rewrite_once
        unroll_dead = ap (λ (cs : Clauses). is_dead (rewrite_each strict cs)) here.split

        unroll_live : live (rewrite_each strict g.left)
            ≡ cond (is_none (rewrite_once strict here.query)) (live (rewrite_each strict here.others)) (clause here.kind (rewrite_once strict here.query) (live (rewrite_each strict here.others)))
        unfolding live rewrite_once
        unroll_live = ap (λ (cs : Clauses). live (rewrite_each strict cs)) here.split

        -- it is MatchNone
        module _ (h : get_or room₁ (w + 3) 0 ≡ 7) (k : ℕ) (ek : k ≡ get_or room t 0) (b : Bool) (eb : (j : Kind) → kind_tag j ≡ k → b ≡ is_needed j) where
          gone : is_none (rewrite_once strict here.query) ≡ true
          gone = none_true (rewrite_once strict here.query) (sym child_tag ∙ h)

          needs : is_needed here.kind ≡ b
          needs = sym (eb here.kind (sym (ek ∙ here.part.tag)))

          pub child_dead : b ≡ true → (cs : Clauses) → Are (drop at room₀) cs → is_dead (rewrite_each strict cs) ≡ true
          child_dead tb cs a = ap (λ (ds : Clauses). is_dead (rewrite_each strict ds)) (are_same a g.all.are) ∙ g.dead ∙ unroll_dead ∙ rw (needs, tb, gone)

          pub child_skip : b ≡ false → Rewriting strict at room₀ room₁ e w
          child_skip fb =
              let l = child_low in
              let s = size in
              let a = are₁ in
              record {
                all = g.all;
                long = long₁;
                low = omega (arith, g.low);
                high = omega (arith, S.long);
                left = here.others;
                are_left = record { valid = a.valid; form = a.form ∙ ap (λ (i : ℕ). within e i room₁) (sym S.long) };
                done = g.done;
                place = g.place;
                there = below 0 w (omega arith) (omega arith) ∙ g.there;
                dead = g.dead ∙ unroll_dead ∙ rw (needs, fb);
                whole = ap (join g.done) (sym (unroll_live ∙ rw gone)) ∙ g.whole;
                bulky = omega (arith, g.bulky);
              }

        -- it is kept
        pub child_keep : (get_or room₁ (w + 3) 0 ≡ 7 → ⊥) → (k : ℕ) → k ≡ get_or room t 0 → {p : ℕ} {room₂ : List ℕ} → Put room₁ w (header k n) p room₂
            → Rewriting strict at room₀ room₂ e (w + (3 + n))
        child_keep nh k ek {p} {room₂} P =
            let q = rewrite_once strict here.query in
            let l = child_low in
            let s = size in
            let c = child_fits in
            let o = once_bulk strict here.query in
            let stays : is_none q ≡ false = none_false q (λ z. nh (child_tag ∙ z)) in
            let T : Stands w room (3 + n) (header k n ++ encode q) room₂ = rw P.bytes (stands_before w (header k n) S (omega arith) (omega (arith, S.long))) in
            let bytes : header k n ++ encode q ≡ part (kind_tag here.kind) (encode q) =
            ap (λ (j : ℕ). header j n ++ encode q) (ek ∙ here.part.tag) ∙ ap (λ (m : ℕ). header (kind_tag here.kind) m ++ encode q) S.size in
            let z : w + (3 + n) - w ≡ 3 + n = omega arith in
            let new : within w (w + (3 + n)) room₂ ≡ part (kind_tag here.kind) (encode q) = ap (λ (i : ℕ). take i (drop w room₂)) z ∙ T.there ∙ bytes in
            let a = are₁ in
            let up : within e (length room) room₂ ≡ within e (length room) room₁ =
            ap (within e (length room)) P.bytes ∙ behind_laid room₁ (header k n) e (length room) w (omega arith) (omega (arith, S.long)) in
            record {
              all = g.all;
              long = T.long ∙ g.long;
              low = omega (arith, g.low);
              high = omega (arith, T.long);
              left = here.others;
              are_left = record { valid = a.valid; form = a.form ∙ sym up ∙ ap (λ (i : ℕ). within e i room₂) (sym T.long) };
              done = snoc g.done here.kind q;
              place = omega (arith, g.place, S.size, length_snoc g.done here.kind q);
              there =
                  sym (joined room₂ 0 w (w + (3 + n)) (omega arith) (omega arith))
                  ∙ ap {B = List ℕ} (λ l. l ++ within w (w + (3 + n)) room₂) (within_same room₂ room 0 w w (omega arith) (omega arith) T.kept ∙ g.there)
                  ∙ ap {B = List ℕ} (λ l. encodes g.done ++ l) new ∙ sym (encodes_snoc g.done here.kind q);
              dead = g.dead ∙ unroll_dead ∙ rw stays (or_away (is_needed here.kind) (is_dead (rewrite_each strict here.others)));
              whole = join_snoc g.done here.kind q (live (rewrite_each strict here.others)) ∙ ap (join g.done) (sym (unroll_live ∙ rw stays)) ∙ g.whole;
              bulky = omega (arith, g.bulky, snoc_bulk g.done here.kind q);
            }
          where
            or_away : (a b : Bool) → ((a && false) || b) ≡ b
            or_away true b = refl
            or_away false b = refl

  pub rewriting_end : length room ≤ t → (cs : Clauses) → Are (drop at room₀) cs → Went strict w room₀ room cs
  unfolding live is_dead rewrite_once
  rewriting_end p cs a =
      let n = no_clause_at room t (length room) g.left g.are_left p in
      let same = are_same g.all.are a in
      let d : g.done ≡ live (rewrite_each strict cs) =
      sym (join_none g.done) ∙ ap (join g.done) (sym (ap (λ (ds : Clauses). live (rewrite_each strict ds)) n)) ∙ g.whole ∙ ap (λ (ds : Clauses). live (rewrite_each strict ds)) same in
      let z : w - 0 ≡ w = omega arith in
      record {
        stands = record {
          long = g.long;
          kept = refl;
          size = g.place ∙ ap (λ (ds : Clauses). length (encodes ds)) d;
          there = ap (λ (i : ℕ). take i (drop 0 room)) (sym z) ∙ g.there ∙ ap encodes d;
        };
        alive = sym (ap (λ (ds : Clauses). is_dead (rewrite_each strict ds)) same) ∙ g.dead ∙ ap (λ (ds : Clauses). is_dead (rewrite_each strict ds)) n;
      }
