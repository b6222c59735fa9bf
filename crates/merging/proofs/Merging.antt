-- The loop over the clauses of a Boolean: the first of those that are left takes up what it stands for, and is laid behind those that are kept.
use mathlib.Core.Path.{◌≡◌, refl, sym, ap, ◌∙◌}
use mathlib.Core.Logic.{◌⊎◌, inl, inr}
use Prim.Native.Nat.{ℕ, ◌+◌, ◌-◌, ◌≤◌, ◌<◌}
use mathlib.Core.List.{List, ◌++◌}
use mathlib.Core.Bool.{Bool, true, false, cond}
use native.Mathlib.Omega.{arith}
use lib.ListN.{length, get_or, take, drop, take-append-drop}
use lib.Seq.{length-take-le}
use lib.Ieee.{Float}
use Rattle.rules.specs.Bytes.{part, size_of}
use Rattle.rules.specs.Query.{Kind, Query, term, phrase, boolean, boost, constant_score, match_all, match_none, range, Clauses, none}
use Rattle.rules.specs.Stored.{kind_tag, encode, encodes, Valid}
use Rattle.rules.specs.Checked.{Is, Are}
use Rattle.rules.specs.Floats.{one}
use Rattle.rules.specs.Rewriting.{summable, base, reboosted, clause_count, clause_counts}
use Rattle.rules.specs.Eating.{held, own_sum, sum_eaten, stayed, merged_clauses}
use Rattle.rules.proofs.Rewriting.Walk.{join, snoc, join_none}
use Rattle.rules.proofs.Rewriting.Eating.{merged_none, merged_first, stayed_count, sum_stays}
use Rattle.numbers.specs.Laid.{Put}
use Rattle.numbers.proofs.Laying.{there_laid}
use Rattle.places.specs.Within.{within, Stands}
use Rattle.merging.specs.Merge.{First, Eatable, Ate, reboosted_bytes, merged_size, Way, Mergeable}
use Rattle.merging.specs.Signatures.{signature_of, having, cell_of, Noted, Alone}
use Rattle.places.proofs.Standing.{joined, second, within_same, within_length, behind_laid}
use Rattle.merging.proofs.Forms.{are_same}
use Rattle.merging.proofs.Placed.{ClauseAt, clause_at_lem, no_clause_at, clause_end, clause_is}
use Rattle.merging.proofs.Laid.{put_long, put_below, held_end, merged_size_lem, size_within, own_size, reboosted_bytes_lem}
use Rattle.merging.proofs.Rows.{encodes_snoc, join_snoc, length_snoc}
use Rattle.merging.proofs.Alike.{having_first, having_fewer, stayed_having}

valid_base : (q : Query) → Valid q → Valid (base q)
unfolding Valid base
valid_base (term f t) v = v
valid_base (phrase f ws) v = v
valid_base (boolean m cs) v = v
valid_base (boost b q) v = v.1
valid_base (constant_score q) v = v
valid_base match_all v = v
valid_base match_none v = v
valid_base (range n f l u) v = v

valid_held : (m : ℕ) (k : Kind) (q : Query) → Valid q → Valid (held m k q)
valid_held m k q v = go (summable m k)
  where
    go : (b : Bool) → Valid (cond b (base q) q)
    go true = valid_base q v
    go false = v

own_one : (m : ℕ) (k : Kind) (q : Query) → summable m k ≡ false → own_sum m k q ≡ one
own_one m k q n = rw n

-- what was put behind what stands from a up to w
put_behind : {room room₁ : List ℕ} {w v : ℕ} {s : List ℕ} → Put room w s v room₁ → w + length s ≤ length room → (a : ℕ) (t : List ℕ) → a ≤ w
    → within a w room ≡ t → within a v room₁ ≡ t ++ s
put_behind {room} {room₁} {w} {v} {s} P fits a t h e =
    let z : v - w ≡ length s = omega (arith, P.place) in
    let new : within w v room₁ ≡ s = ap (λ (n : ℕ). take n (drop w room₁)) z ∙ ap (λ (l : List ℕ). take (length s) (drop w l)) P.bytes ∙ there_laid room w s fits in
    sym (joined room₁ a w v h (omega (arith, P.place))) ∙ ap {B = List ℕ} (λ l. l ++ within w v room₁) (put_below P fits a w h (omega arith) ∙ e) ∙ ap {B = List ℕ} (λ l. t ++ l) new

-- the clauses from t up to `last` are left, and what is kept of those before them stands in the first w bytes
pub record Merging (strict : Bool) (end m : ℕ) (table room₀ room : List ℕ) (t w last : ℕ) : Type 0 where
  pub all : Mergeable end room₀
  pub long : length room ≡ length room₀
  pub low : w ≤ t
  pub high : t ≤ last
  pub left : Clauses
  pub are_left : Are (within t last room) left
  pub done : Clauses
  pub place : w ≡ length (encodes done)
  pub there : within 0 w room ≡ encodes done
  pub whole : join done (merged_clauses strict m left) ≡ merged_clauses strict m all.clauses
  pub fits : last + clause_counts left ≤ length room
  pub small : last + clause_counts left < 65536
  pub noted : Noted m table left

pub merging_start : (strict : Bool) {end : ℕ} (m : ℕ) (table : List ℕ) {room : List ℕ} → Mergeable end room → ((cs : Clauses) → Are (within 0 end room) cs → Noted m table cs)
    → Merging strict end m table room room 0 0 end
unfolding encodes
merging_start strict m table M N = record {
  all = M;
  long = refl;
  low = omega arith;
  high = omega arith;
  left = M.clauses;
  are_left = M.are;
  done = none;
  place = refl;
  there = refl;
  whole = refl;
  fits = M.fits;
  small = M.small;
  noted = N M.clauses M.are;
}

module _ {strict : Bool} {end m : ℕ} {table room₀ room : List ℕ} {t w last : ℕ} (g : Merging strict end m table room₀ room t w last) where
  pub inside : last ≤ length room
  inside = omega (arith, g.fits)

  module _ (p : t < last) where
    pub here : ClauseAt room t last g.left
    here = clause_at_lem room t last g.left g.are_left p inside

    counted : clause_counts g.left ≡ 1 + clause_count here.query + clause_counts here.others
    unfolding clause_counts
    counted = ap clause_counts here.split

    module _ (e : ℕ) (ee : e ≡ t + 3 + size_of (drop t room)) (k : ℕ) (ek : k ≡ get_or room t 0) where
      pub tag : kind_tag here.kind ≡ k
      tag = sym (ek ∙ here.part.tag)

      -- where its base stands, and the sum that it starts with
      module _ (b : ℕ) (x : Float) (k' : ℕ) (firsts : (j : Kind) (q : Query) → kind_tag j ≡ k → Is (within (t + 3) e room) q → First (t + 3) m j q b k' x) where
        F : First (t + 3) m here.kind here.query b k' x
        F = firsts here.kind here.query tag (clause_is here e ee)

        abbrev h : Query
        h = held m here.kind here.query

        base_low : (t + 3 ≤ b) × (b ≤ e) × (e - b ≡ length (encode h)) × (e ≤ last)
        base_low = omega (arith, F.place, (held_end m here.kind here.query).1, clause_end here e ee, here.top)

        base_here : within b e room ≡ encode h
        base_here =
            let s = encode here.query in
            let d = length s - length (encode (held m here.kind here.query)) in
            let E = held_end m here.kind here.query in
            let ld : length (take d s) ≡ d = length-take-le d s (omega arith) in
            let ce = clause_end here e ee in
            let z : t + 3 + length (take d s) ≡ b = omega (arith, F.place, E.1, ld) in
            ap (λ (i : ℕ). within i e room) (sym z)
            ∙ second room (t + 3) e (take d s) (drop d s) (omega arith) (omega (arith, inside, here.top)) (sym (clause_is here e ee).form ∙ sym (take-append-drop d s))
            ∙ E.0

        pub base_is : Is (within b e room) h
        base_is = record { valid = valid_held m here.kind here.query here.is.valid; form = sym base_here }

        pub others_are : Are (within e last room) here.others
        others_are = record { valid = here.are.valid; form = here.are.form ∙ ap (λ (i : ℕ). within i last room) (sym (clause_end here e ee)) }

        pub eatable : Eatable b k' e last room
        eatable =
            let l = base_low in
            record {
              kind = here.kind;
              tag = sym F.kind;
              query = h;
              is = base_is;
              clauses = here.others;
              are = others_are;
              low = l.1;
              high = l.3;
              fits = inside;
            }

        pub others_alone : Alone m table b e last room
        others_alone cs a one =
            let sg = signature_of (encode h) in
            let z : signature_of (within b e room) ≡ signature_of (encode h) = ap signature_of base_here in
            let c = g.noted sg (ap (cell_of table) (sym z) ∙ one) in
            let l = ap (having m sg) here.split ∙ having_first m here.kind here.query here.others in
            let o : having m (signature_of (encode h)) here.others ≡ 0 = omega arith in
            ap (λ (i : ℕ). having m i cs) z ∙ ap (having m sg) (are_same a others_are) ∙ o

        -- what is left of those behind it stands from f on, and its sum is s
        module _ {f : ℕ} {s : Float} {room₁ : List ℕ}
            (ates : (j : Kind) (q : Query) (cs : Clauses) → kind_tag j ≡ k' → Is (within b e room) q → Are (within e last room) cs → Ate strict m e last room j q cs x f s room₁)
            (l₁ : length room₁ ≡ length room) (n : ℕ) (en : n ≡ merged_size s (e - b)) where
          A : Ate strict m e last room here.kind h here.others x f s room₁
          A = ates here.kind h here.others (sym F.kind) base_is others_are

          -- at most one byte is missing
          pub near : w + n ≤ f + 1
          near = go A.grown
            where
              go : ((f ≡ e) × (s ≡ x)) ⊎ (e + 6 ≤ f) → w + n ≤ f + 1
              go (inl z) =
                  let l = base_low in
                  let y : merged_size s (e - b) ≡ merged_size (own_sum m here.kind here.query) (length (encode h)) =
                  ap (merged_size s) l.2 ∙ ap (λ (r : Float). merged_size r (length (encode h))) (z.1 ∙ F.sum) in
                  omega (arith, en, own_size m here.kind here.query, clause_end here e ee, g.low, z.0)
              go (inr z) = let l = base_low in omega (arith, en, size_within s (e - b), g.low)

          pub way_room : (f ≤ last) × (last ≤ length room₁) × (w + n + (last - f) ≤ length room₁)
          way_room = let nr = near in let c = counted in (A.high, omega (arith, inside), omega (arith, A.high, g.fits))

          module _ {v : ℕ} {room₂ : List ℕ} (W : Way (w + n) f last room₁ v room₂) (l₂ : length room₂ ≡ length room₁) where
            pub put_room : (b ≤ e) × (e ≤ length room₂) × (w + merged_size s (e - b) ≤ length room₂) × (merged_size s (e - b) < 65536)
            put_room =
                let nr = near in
                let c = counted in
                let l = base_low in
                (l.1, omega (arith, inside), omega (arith, en, A.high, g.fits), omega (arith, en, A.high, g.small))

            pub further : (f ≤ v) × (v ≤ f + 1) × (f ≤ last) × (e ≤ f) × (t < e) × (last + 1 < 65536) × (last + 1 ≤ length room)
            further = let nr = near in let c = counted in let l = base_low in omega (arith, W.place, A.low, A.high, g.small, g.fits)

            same : (a c : ℕ) → a ≤ c → c ≤ e → within a c room₂ ≡ within a c room
            same a c i j =
                within_same room₂ room₁ a c f i (omega (arith, A.low)) W.kept ∙ within_same room₁ room a c e i j A.kept

            abbrev new : Query
            new = reboosted here.kind h (sum_eaten strict m here.kind h (own_sum m here.kind here.query) here.others)

            sum_is : s ≡ sum_eaten strict m here.kind h (own_sum m here.kind here.query) here.others
            sum_is = A.sum ∙ ap (λ (y : Float). sum_eaten strict m here.kind h y here.others) F.sum

            bytes_here : reboosted_bytes s (within b e room₂) ≡ encode new
            bytes_here =
                let l = base_low in
                ap (reboosted_bytes s) (same b e l.1 (omega arith) ∙ base_here)
                ∙ ap (λ (y : Float). reboosted_bytes y (encode h)) sum_is
                ∙ sym (reboosted_bytes_lem m here.kind h (sum_eaten strict m here.kind h (own_sum m here.kind here.query) here.others)
                (λ n. sum_stays strict m here.kind h (own_sum m here.kind here.query) n here.others ∙ own_one m here.kind here.query n))

            module _ {u : ℕ} {room₃ : List ℕ} (P : Put room₂ w (part k' (reboosted_bytes s (within b e room₂))) u room₃) where
              size : length (part k' (reboosted_bytes s (within b e room₂))) ≡ n
              size =
                  let l = base_low in
                  let z = within_length room₂ b e l.1 (omega (arith, inside)) in
                  omega (arith, en, merged_size_lem s (within b e room₂), ap (merged_size s) z)

              pub merge_next : Merging strict end m table room₀ room₃ v u (last + (v - f))
              merge_next =
                  let nr = near in
                  let c = counted in
                  let z = size in
                  let x₁ = further in
                  let fits : w + length (part k' (reboosted_bytes s (within b e room₂))) ≤ length room₂ = omega (arith, put_room) in
                  let bytes : part k' (reboosted_bytes s (within b e room₂)) ≡ part (kind_tag here.kind) (encode new) =
                  ap (λ (j : ℕ). part j (reboosted_bytes s (within b e room₂))) F.kind ∙ ap (part (kind_tag here.kind)) bytes_here in
                  let y : last + (v - f) ≡ v + (last - f) = omega arith in
                  let lo : w ≤ e = omega (arith, g.low) in
                  record {
                    all = g.all;
                    long = put_long P fits ∙ l₂ ∙ l₁ ∙ g.long;
                    low = omega (arith, P.place, W.place);
                    high = omega arith;
                    left = stayed strict m here.kind h here.others;
                    are_left = record {
                      valid = A.are.valid;
                      form =
                          A.are.form ∙ sym W.there ∙ ap (λ (i : ℕ). within v i room₂) (sym y)
                          ∙ sym (ap (within v (last + (v - f))) P.bytes
                          ∙ behind_laid room₂ (part k' (reboosted_bytes s (within b e room₂))) v (last + (v - f)) w (omega (arith, W.place)) fits);
                    };
                    done = snoc g.done here.kind new;
                    place = omega (arith, P.place, ap length bytes, g.place, length_snoc g.done here.kind new);
                    there =
                        put_behind P fits 0 (encodes g.done) (omega arith) (same 0 w (omega arith) lo ∙ g.there)
                        ∙ ap {B = List ℕ} (λ l. encodes g.done ++ l) bytes ∙ sym (encodes_snoc g.done here.kind new);
                    whole = next_whole;
                    fits = omega (arith, g.fits, put_long P fits, stayed_count strict m here.kind h here.others);
                    small = omega (arith, g.small, stayed_count strict m here.kind h here.others);
                    noted = λ i y. omega (
                      arith,
                      g.noted i y,
                      stayed_having strict m here.kind h i here.others,
                      having_fewer m i here.kind here.query here.others,
                      ap (having m i) here.split,
                    );
                  }
                where
                  next_whole : join (snoc g.done here.kind new) (merged_clauses strict m (stayed strict m here.kind h here.others)) ≡ merged_clauses strict m g.all.clauses
                  next_whole =
                      join_snoc g.done here.kind new (merged_clauses strict m (stayed strict m here.kind h here.others))
                      ∙ ap (join g.done) (sym (ap (merged_clauses strict m) here.split ∙ merged_first strict m here.kind here.query here.others))
                      ∙ g.whole

  pub merging_end : last ≤ t → (cs : Clauses) → Are (within 0 end room₀) cs → Stands 0 room₀ w (encodes (merged_clauses strict m cs)) room
  merging_end p cs a =
      let n : merged_clauses strict m g.left ≡ none = ap (merged_clauses strict m) (no_clause_at room t last g.left g.are_left p) ∙ merged_none strict m in
      let c : g.done ≡ merged_clauses strict m cs =
      sym (join_none g.done) ∙ ap (join g.done) (sym n) ∙ g.whole ∙ ap (merged_clauses strict m) (are_same g.all.are a) in
      let z : w - 0 ≡ w = omega arith in
      record {
        long = g.long;
        kept = refl;
        size = g.place ∙ ap (λ (ds : Clauses). length (encodes ds)) c;
        there = ap (λ (i : ℕ). take i (drop 0 room)) (sym z) ∙ g.there ∙ ap encodes c;
      }
