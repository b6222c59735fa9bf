-- The loop in which a clause takes up those behind it that it stands for.
use mathlib.Core.Path.{◌≡◌, refl, sym, ap, ◌∙◌, subst}
use mathlib.Core.Logic.{◌⊎◌, inl, inr}
use Prim.Native.Nat.{ℕ, ◌+◌, ◌-◌, ◌≤◌, ◌<◌}
use mathlib.Core.List.{List, [], ◌++◌}
use mathlib.Core.Bool.{Bool, true, false, cond}
use native.Mathlib.Omega.{arith}
use lib.ListN.{length, get_or, take, drop, length-drop}
use lib.Seq.{length-take-le}
use lib.Ieee.{Float}
use Rattle.rules.specs.Bytes.{part, size_of, same}
use Rattle.rules.specs.Query.{Kind, Query, Clauses, none, clause, equal}
use Rattle.rules.specs.Stored.{kind_tag, encode, encodes, Valids}
use Rattle.rules.specs.Checked.{Is, Are}
use Rattle.rules.specs.Rewriting.{stands_for}
use Rattle.rules.specs.Eating.{held, eats, fed, sum_eaten, stayed}
use Rattle.rules.proofs.Bools.{and_no_l}
use Rattle.rules.proofs.Stored.Equal.{equal_bytes}
use Rattle.rules.proofs.Stored.Sizes.{length_encode}
use Rattle.rules.proofs.Rewriting.Walk.{join, snoc, join_none}
use Rattle.numbers.specs.Laid.{laid, Put}
use Rattle.numbers.proofs.Laying.{there_laid}
use Rattle.places.specs.Within.{within}
use Rattle.merging.specs.Merge.{Eats, Fed, Eatable, Ate}
use Rattle.places.proofs.Standing.{within_same, joined, lower, behind_laid}
use Rattle.merging.proofs.Forms.{is_same_lem, are_same, same_kind}
use Rattle.merging.proofs.Placed.{ClauseAt, clause_at_lem, no_clause_at, clause_end, clause_is}
use Rattle.merging.proofs.Laid.{put_long, put_kept}
use Rattle.merging.proofs.Rows.{encodes_snoc, join_snoc, valids_snoc}

-- ---- whether one is taken up

module _ (strict : Bool) (m k : ℕ) (h : List ℕ) (j : ℕ) (q : List ℕ) (a : Bool) (ea : (i l : Kind) → kind_tag i ≡ k → kind_tag l ≡ j → a ≡ stands_for strict m i l) where
  pub eats_alike : a ≡ true → (v : List ℕ) → ((x : Query) (l : Kind) → Is q x → kind_tag l ≡ j → Is v (held m l x)) → (r : Bool) → r ≡ same h v → Eats strict m k h j q r
  eats_alike t v ev r er i l x y ei el ix iy =
      let w = ev y l iy el in
      rw (sym (ea i l ei el) ∙ t) (er ∙ ap (λ (s : List ℕ). same s v) (sym ix.form) ∙ ap (same (encode x)) (sym w.form)
      ∙ sym (equal_bytes x (held m l y) ix.valid w.valid))

  pub eats_unlike : a ≡ false → Eats strict m k h j q false
  eats_unlike n i l x y ei el ix iy = sym (and_no_l (equal x (held m l y)) (sym (ea i l ei el) ∙ n))

-- ---- the loop

-- the clauses from u on are left; of those before them the ones that were not taken up stand right before u
pub record Eating (strict : Bool) (m b k at end : ℕ) (s₀ : Float) (room₀ room : List ℕ) (s : Float) (from u : ℕ) : Type 0 where
  pub all : Eatable b k at end room₀
  pub long : length room ≡ length room₀
  pub kept : take at room ≡ take at room₀
  pub low : at ≤ from
  pub mid : from ≤ u
  pub high : u ≤ end
  pub left : Clauses
  pub are_left : Are (within u end room) left
  pub done : Clauses
  pub are_done : Are (within from u room) done
  pub whole : join done (stayed strict m all.kind all.query left) ≡ stayed strict m all.kind all.query all.clauses
  pub summed : sum_eaten strict m all.kind all.query s left ≡ sum_eaten strict m all.kind all.query s₀ all.clauses
  pub grown : ((from ≡ at) × (s ≡ s₀)) ⊎ (at + 6 ≤ from)

empty_within : (a : ℕ) (room : List ℕ) → within a a room ≡ []
empty_within a room = let z : a - a ≡ 0 = omega arith in ap (λ (n : ℕ). take n (drop a room)) z

pub eating_start : {strict : Bool} {m b k at end : ℕ} (s : Float) {room : List ℕ} → Eatable b k at end room → Eating strict m b k at end s room room s at at
unfolding encodes Valids
eating_start {at = at} s {room} E = record {
  all = E;
  long = refl;
  kept = refl;
  low = omega arith;
  mid = omega arith;
  high = E.high;
  left = E.clauses;
  are_left = E.are;
  done = none;
  are_done = record { valid = tt; form = sym (empty_within at room) };
  whole = refl;
  summed = refl;
  grown = inl (refl, refl);
}

module _ {strict : Bool} {m b k at end : ℕ} {s₀ : Float} {room₀ room : List ℕ} {s : Float} {from u : ℕ} (g : Eating strict m b k at end s₀ room₀ room s from u) where
  pub inside : end ≤ length room
  inside = omega (arith, g.all.fits, g.long)

  -- the clause that eats stands where it stood
  pub own : Is (within b at room) g.all.query
  own = record { valid = g.all.is.valid; form = g.all.is.form ∙ sym (within_same room room₀ b at at g.all.low (omega arith) g.kept) }

  module _ (p : u < end) where
    pub here : ClauseAt room u end g.left
    here = clause_at_lem room u end g.left g.are_left p inside

    module _ (v : ℕ) (ev : v ≡ u + 3 + size_of (drop u room)) (j : ℕ) (ej : j ≡ get_or room u 0) where
      pub next : (u + 6 ≤ v) × (v ≤ end)
      next = omega (arith, clause_end here v ev, length_encode here.query, here.top)

      tag : kind_tag here.kind ≡ j
      tag = sym (ej ∙ here.part.tag)

      are_next : Are (within v end room) here.others
      are_next = record { valid = here.are.valid; form = here.are.form ∙ ap (λ (i : ℕ). within i end room) (sym (clause_end here v ev)) }

      module _ (r : Bool) (er : Eats strict m k (within b at room) j (within (u + 3) v room) r) where
        test : eats strict m g.all.kind g.all.query here.kind here.query ≡ r
        test = sym (er g.all.kind here.kind g.all.query here.query g.all.tag tag own (clause_is here v ev))

        unroll_stayed : stayed strict m g.all.kind g.all.query g.left
            ≡ cond r (stayed strict m g.all.kind g.all.query here.others) (clause here.kind here.query (stayed strict m g.all.kind g.all.query here.others))
        unfolding stayed
        unroll_stayed = ap (stayed strict m g.all.kind g.all.query) here.split ∙ rw test

        unroll_sum : sum_eaten strict m g.all.kind g.all.query s g.left
            ≡ sum_eaten strict m g.all.kind g.all.query (cond r (fed m here.kind here.query s) s) here.others
        unfolding sum_eaten
        unroll_sum =
            ap (sum_eaten strict m g.all.kind g.all.query s) here.split
            ∙ ap (λ (z : Bool). sum_eaten strict m g.all.kind g.all.query (cond z (fed m here.kind here.query s) s) here.others) test

        -- it stays
        pub eat_not : r ≡ false → Eating strict m b k at end s₀ room₀ room s from v
        eat_not n =
            let x = next in
            let e = clause_end here v ev in
            record {
              all = g.all;
              long = g.long;
              kept = g.kept;
              low = g.low;
              mid = omega (arith, g.mid);
              high = x.1;
              left = here.others;
              are_left = are_next;
              done = snoc g.done here.kind here.query;
              are_done = record {
                valid = valids_snoc g.done here.kind here.query g.are_done.valid here.is.valid;
                form =
                    encodes_snoc g.done here.kind here.query
                    ∙ ap {B = List ℕ} (λ l. l ++ part (kind_tag here.kind) (encode here.query)) g.are_done.form
                    ∙ ap {B = List ℕ} (λ l. within from u room ++ l) (sym here.form ∙ ap (λ (i : ℕ). within u i room) (sym e))
                    ∙ joined room from u v g.mid (omega arith);
              };
              whole =
                  join_snoc g.done here.kind here.query (stayed strict m g.all.kind g.all.query here.others)
                  ∙ ap (join g.done) (sym (unroll_stayed ∙ rw n)) ∙ g.whole;
              summed = sym (unroll_sum ∙ rw n) ∙ g.summed;
              grown = g.grown;
            }

        -- it is taken up: what stayed is moved over it
        module _ (t : r ≡ true) (x : Float) (ex : Fed m s j (within (u + 3) v room) x) {p₁ : ℕ} {room₁ : List ℕ}
            (P : Put room (from + (v - u)) (take (u - from) (drop from room)) p₁ room₁) where
          moved : length (take (u - from) (drop from room)) ≡ u - from
          moved = length-take-le (u - from) (drop from room) (simp length-drop (omega (arith, inside, g.mid)))

          pub eat_fits : from + (v - u) + length (take (u - from) (drop from room)) ≤ length room
          eat_fits = let n = next in omega (arith, moved, inside, g.mid)

          pub eat_one : Eating strict m b k at end s₀ room₀ room₁ x (from + (v - u)) v
          eat_one =
              let n = next in
              let l = moved in
              let fits = eat_fits in
              let mid = g.mid in
              let f = from + (v - u) in
              let z : v - (from + (v - u)) ≡ length (take (u - from) (drop from room)) = omega arith in
              record {
                all = g.all;
                long = put_long P fits ∙ g.long;
                kept = lower room₁ room at (from + (v - u)) (omega (arith, g.low)) (put_kept P fits) ∙ g.kept;
                low = omega (arith, g.low);
                mid = omega arith;
                high = n.1;
                left = here.others;
                are_left = record {
                  valid = here.are.valid;
                  form =
                      are_next.form
                      ∙ sym (ap (within v end) P.bytes ∙ behind_laid room (take (u - from) (drop from room)) v end (from + (v - u)) (omega arith) fits);
                };
                done = g.done;
                are_done = record {
                  valid = g.are_done.valid;
                  form =
                      g.are_done.form
                      ∙ sym (ap (within f v) P.bytes ∙ ap (λ (i : ℕ). take i (drop f (laid room f (take (u - from) (drop from room))))) z
                      ∙ there_laid room f (take (u - from) (drop from room)) fits);
                };
                whole = ap (join g.done) (sym (unroll_stayed ∙ rw t)) ∙ g.whole;
                summed =
                    ap (λ (y : Float). sum_eaten strict m g.all.kind g.all.query y here.others) (ex here.kind here.query tag (clause_is here v ev))
                    ∙ sym (unroll_sum ∙ rw t) ∙ g.summed;
                grown = inr (omega (arith, g.low));
              }

  pub eating_end : end ≤ u → (i : Kind) (h : Query) (cs : Clauses) → kind_tag i ≡ k → Is (within b at room₀) h → Are (within at end room₀) cs
      → Ate strict m at end room₀ i h cs s₀ from s room
  unfolding stayed sum_eaten
  eating_end p i h cs ei ih a =
      let n = no_clause_at room u end g.left g.are_left p in
      let u-end : u ≡ end = omega (arith, g.high) in
      let ek : g.all.kind ≡ i = same_kind g.all.kind i (g.all.tag ∙ sym ei) in
      let eh : g.all.query ≡ h = is_same_lem g.all.is ih in
      let ec : g.all.clauses ≡ cs = are_same g.all.are a in
      let d : g.done ≡ stayed strict m i h cs =
      sym (join_none g.done) ∙ ap (join g.done) (sym (ap (stayed strict m g.all.kind g.all.query) n)) ∙ g.whole
      ∙ ap (λ (x : Kind). stayed strict m x g.all.query g.all.clauses) ek ∙ ap (λ (x : Query). stayed strict m i x g.all.clauses) eh ∙ ap (stayed strict m i h) ec in
      record {
        kept = g.kept;
        low = g.low;
        high = omega (arith, g.mid);
        are = record {
          valid = subst Valids d g.are_done.valid;
          form = ap encodes (sym d) ∙ g.are_done.form ∙ ap (λ (e : ℕ). within from e room) u-end;
        };
        sum =
            sym (ap (sum_eaten strict m g.all.kind g.all.query s) n) ∙ g.summed
            ∙ ap (λ (x : Kind). sum_eaten strict m x g.all.query s₀ g.all.clauses) ek ∙ ap (λ (x : Query). sum_eaten strict m i x s₀ g.all.clauses) eh ∙ ap (sum_eaten strict m i h s₀) ec;
        grown = g.grown;
      }
