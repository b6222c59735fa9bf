-- What a round returns has no two clauses that could be summed, and so has the result. Section 'One round of rewriting'.
use mathlib.Core.Path.{◌≡◌, refl, ◌∙◌}
use mathlib.Core.Logic.{◌⊎◌, inl, inr}
use Prim.Native.Nat.{ℕ, ◌≤◌}
use mathlib.Core.List.{List, [], ◌∷◌}
use mathlib.Core.Bool.{Bool, true, false, not, ◌&&◌, cond}
use lib.Dec.{leb, ltb}
use lib.Ieee.{Float}
use Rattle.rules.specs.Query.{Word, word, Kind, must, should, must_not, filter, Query, term, phrase, boolean, boost, constant_score, match_all, match_none, range, Clauses, none, clause, equal}
use Rattle.rules.specs.Floats.{one, widened, narrowed, plus, is_one}
use Rattle.rules.specs.Rewriting.{weight, is_none, boosted, scored, phrased, scores, summable, stands_for, base, boost_of, Merged, empty, merged, add_merged, merge_onto, reboosted, clauses_of, merged_boolean, lone, lone_or_merged, should_count, only_must_not, of_live, is_dead, live, rewrite_boolean, rewrite_once, rewrite_each, rounds, rewrite, result_of}
use Rattle.rules.specs.Eating.{held, fed}
use Rattle.rules.specs.Tidy.{Apart, Distinct, Tidy, Tidies}
use Rattle.rules.proofs.Bools.{clash, and_l}
use Rattle.rules.proofs.Rewriting.Kinds.{stands_same}
use Rattle.rules.proofs.Rewriting.Merging.{add_empty, add_by, Other, AllOther, all_other_merge}
use Rattle.rules.proofs.Rewriting.Rounds.{result_once}
use Rattle.rules.proofs.Rewriting.Weights.{one_weight}

-- ---- no boost of a boost

unfoldable is_boosted : Query → Bool
is_boosted (term f t) = false
is_boosted (phrase f ws) = false
is_boosted (boolean m cs) = false
is_boosted (boost b q) = true
is_boosted (constant_score q) = false
is_boosted match_all = false
is_boosted match_none = false
is_boosted (range n f l u) = false

-- tidy, and with one outer boost taken off it is no boost
abbrev Neat : Query → Type 0
Neat q = (is_boosted (base q) ≡ false) × Tidy q

unfoldable Neats : Clauses → Type 0
Neats none = Unit {0}
Neats (clause k q cs) = Neat q × Neats cs

base_tidy : (q : Query) → Tidy q → Tidy (base q)
unfolding base Tidy
base_tidy (term f t) h = h
base_tidy (phrase f ws) h = h
base_tidy (boolean m cs) h = h
base_tidy (boost b q) h = h
base_tidy (constant_score q) h = h
base_tidy match_all h = h
base_tidy match_none h = h
base_tidy (range n f l u) h = h

base_plain : (q : Query) → is_boosted q ≡ false → base q ≡ q
unfolding base is_boosted
base_plain (term f t) h = refl
base_plain (phrase f ws) h = refl
base_plain (boolean m cs) h = refl
base_plain (boost b q) h = clash refl h
base_plain (constant_score q) h = refl
base_plain match_all h = refl
base_plain match_none h = refl
base_plain (range n f l u) h = refl

-- ---- the merging of clauses

-- a merged clause: its boost can be put back, or none will be
abbrev Fit : ℕ → Kind → Query → Float → Type 0
Fit m k q t = ((summable m k ≡ true) × (is_boosted q ≡ false)) ⊎ ((summable m k ≡ false) × (t ≡ one))

unfoldable Sorted : ℕ → Merged → Type 0
Sorted m empty = Unit {0}
Sorted m (merged k q t ms) = Tidy q × Fit m k q t × Sorted m ms

held_fit : (m : ℕ) (k : Kind) (q : Query) → Neat q → Tidy (held m k q) × Fit m k (held m k q) (cond (summable m k) (boost_of q) one)
held_fit m k q (B, T) = go (summable m k) refl
  where
    go : (b : Bool) → summable m k ≡ b → Tidy (cond b (base q) q) × Fit m k (cond b (base q) q) (cond b (boost_of q) one)
    go true e = (base_tidy q T, inl (e, B))
    go false e = (T, inr (e, refl))

module _ (strict : Bool) where
  raised_fit : (m : ℕ) (k : Kind) (q : Query) (j : Kind) (p : Query) (t : Float) → stands_for strict m j k ≡ true → Fit m j p t → Fit m j p (fed m k q t)
  raised_fit m k q j p t c (inl g) = inl g
  raised_fit m k q j p t c (inr g) = inr (g.0, go (summable m k) refl)
    where
      go : (b : Bool) → summable m k ≡ b → cond b (plus t (boost_of q)) t ≡ one
      go true e = clash (rw (stands_same strict m j k c e) e) g.0
      go false e = g.1

  module _ (m : ℕ) where
    sorted_add : (k : Kind) (q : Query) → Neat q → (ms : Merged) → Sorted m ms → Sorted m (add_merged strict m k q ms)
    unfolding Sorted
    sorted_add k q N empty h = let f = held_fit m k q N in rw add_empty (f.0, f.1, tt)
    sorted_add k q N (merged j p t ms) h =
        add_by strict m k q j p t ms (Sorted m)
        (λ e. (h.0, raised_fit m k q j p t (and_l (stands_for strict m j k) (equal p (held m k q)) e) h.1, h.2))
        (λ e. (h.0, h.1, sorted_add k q N ms h.2))

    sorted_merge : (cs : Clauses) → Neats cs → (ms : Merged) → Sorted m ms → Sorted m (merge_onto strict m ms cs)
    unfolding merge_onto Neats
    sorted_merge none T ms h = h
    sorted_merge (clause k q cs) T ms h = sorted_merge cs T.1 (add_merged strict m k q ms) (sorted_add k q T.0 ms h)

    -- what is put back
    reboosted_tidy : (k : Kind) (q : Query) (t : Float) → Tidy q → Tidy (reboosted k q t)
    unfolding Tidy
    reboosted_tidy k q t T = pass (not (is_one t) && scores k)
      where
        pass : (b : Bool) → Tidy (cond b (boost (narrowed t) q) q)
        pass true = T
        pass false = T

    reboosted_base : (k : Kind) (q : Query) (t : Float) → summable m k ≡ true → Fit m k q t → base (reboosted k q t) ≡ q
    unfolding base
    reboosted_base k q t e (inr g) = clash e g.0
    reboosted_base k q t e (inl g) = pass (not (is_one t) && scores k)
      where
        pass : (b : Bool) → base (cond b (boost (narrowed t) q) q) ≡ q
        pass true = refl
        pass false = base_plain q g.1

    clauses_apart : (k : Kind) (p : Query) → summable m k ≡ true → (ms : Merged) → Sorted m ms → Other k p ms → Apart k p (clauses_of ms)
    unfolding clauses_of Apart Sorted Other
    clauses_apart k p e empty h o = tt
    clauses_apart k p e (merged j q t ms) h o =
        ((λ ej ep. o.0 ej (ep ∙ reboosted_base j q t (rw ej at e) h.1)), clauses_apart k p e ms h.2 o.1)

    clauses_tidy : (ms : Merged) → Sorted m ms → AllOther m ms → Distinct m (clauses_of ms) × Tidies (clauses_of ms)
    unfolding clauses_of Distinct Tidy Sorted AllOther
    clauses_tidy empty h o = (tt, tt)
    clauses_tidy (merged k q t ms) h o =
        let g = clauses_tidy ms h.2 o.1 in
        (((λ e. rw (reboosted_base k q t e h.1) (clauses_apart k q e ms h.2 (o.0 e))), g.0), (reboosted_tidy k q t h.0, g.1))

    merged_neat : (cs : Clauses) → Neats cs → Neat (merged_boolean strict m cs)
    unfolding merged_boolean Tidy is_boosted base Sorted AllOther
    merged_neat cs T = (refl, clauses_tidy (merge_onto strict m empty cs) (sorted_merge cs T empty tt) (all_other_merge strict m cs empty tt))

  -- ---- one round

  live_neat : (cs : Clauses) → Neats cs → Neats (live cs)
  unfolding live Neats
  live_neat none T = T
  live_neat (clause k q cs) T = pass (is_none q) (live_neat cs T.1)
    where
      pass : (b : Bool) → Neats (live cs) → Neats (cond b (live cs) (clause k q (live cs)))
      pass true h = h
      pass false h = (T.0, h)

  none_neat : Neat match_none
  unfolding base is_boosted Tidy
  none_neat = (refl, tt)

  cond_neat : (b : Bool) (p q : Query) → Neat p → Neat q → Neat (cond b p q)
  cond_neat true p q h g = h
  cond_neat false p q h g = g

  lone_neat : (k : Kind) (q : Query) → Neat q → Neat (lone k q)
  unfolding lone Tidy base is_boosted
  lone_neat must q T = T
  lone_neat should q T = T
  lone_neat must_not q T = (refl, tt)
  lone_neat filter q T = (refl, T.1)

  module _ (m : ℕ) where
    lone_or_neat : (cs : Clauses) → Neats cs → Neat (lone_or_merged strict m cs)
    unfolding lone_or_merged Neats
    lone_or_neat none T = merged_neat m none T
    lone_or_neat (clause k q none) T = cond_neat (leb m 1) _ _ (lone_neat k q T.0) (merged_neat m (clause k q none) T)
    lone_or_neat (clause k q (clause j p cs)) T = merged_neat m (clause k q (clause j p cs)) T

    boolean_neat : (cs : Clauses) → Neats cs → Neat (rewrite_boolean strict m cs)
    unfolding rewrite_boolean of_live
    boolean_neat cs T =
        cond_neat (is_dead cs) _ _ none_neat
        (cond_neat (only_must_not (live cs)) _ _ none_neat
        (cond_neat (ltb (should_count (live cs)) m) _ _ none_neat (lone_or_neat (live cs) (live_neat cs T))))

  boosted_neat : (b : ℕ) (q : Query) → Neat q → Neat (boosted b q)
  unfolding boosted Tidy base is_boosted
  boosted_neat b (term f t) T = T
  boosted_neat b (phrase f ws) T = T
  boosted_neat b (boolean m cs) T = T
  boosted_neat b (boost c q) T = T
  boosted_neat b (constant_score q) T = T
  boosted_neat b match_all T = T
  boosted_neat b match_none T = T
  boosted_neat b (range n f l u) T = T

  scored_neat : (q : Query) → Tidy q → Neat (scored q)
  unfolding scored Tidy base is_boosted
  scored_neat (term f t) T = (refl, T)
  scored_neat (phrase f ws) T = (refl, T)
  scored_neat (boolean m cs) T = (refl, T)
  scored_neat (boost c q) T = (refl, T)
  scored_neat (constant_score q) T = (refl, T)
  scored_neat match_all T = (refl, T)
  scored_neat match_none T = (refl, T)
  scored_neat (range n f l u) T = (refl, T)

  phrased_neat : (f : List ℕ) (ws : List Word) → Neat (phrased f ws)
  unfolding phrased Tidy base is_boosted
  phrased_neat f [] = (refl, tt)
  phrased_neat f (word p t ∷ []) = (refl, tt)
  phrased_neat f (v ∷ w ∷ ws) = (refl, tt)

  mutual
    unfolding rewrite_once Tidy Neats base is_boosted

    once_neat : (q : Query) → Neat (rewrite_once strict q)
    once_neat (term f t) = (refl, tt)
    once_neat (phrase f ws) = phrased_neat f ws
    once_neat (boolean m cs) = boolean_neat m (rewrite_each strict cs) (each_neat cs)
    once_neat (boost b q) = cond_neat (is_one (widened b)) _ _ (once_neat q) (boosted_neat b (rewrite_once strict q) (once_neat q))
    once_neat (constant_score q) = scored_neat (rewrite_once strict q) (once_neat q).1
    once_neat match_all = (refl, tt)
    once_neat match_none = (refl, tt)
    once_neat (range n f l u) = (refl, tt)

    each_neat : (cs : Clauses) → Neats (rewrite_each strict cs)
    each_neat none = tt
    each_neat (clause k q cs) = (once_neat q, each_neat cs)

  pub tidy_once : (q : Query) → Tidy (rewrite_once strict q)
  tidy_once q = (once_neat q).1

  -- ---- all rounds: the result is a round's

  pub tidy_rounds : (k : ℕ) (q : Query) → 1 ≤ k → Tidy (result_of (rounds strict k q))
  tidy_rounds k q h = let p = result_once strict k q h in rw p.1 (tidy_once p.0)

  pub tidy_rewrite : (q : Query) → Tidy (result_of (rewrite strict q))
  tidy_rewrite q = tidy_rounds (weight q) q (one_weight q)
