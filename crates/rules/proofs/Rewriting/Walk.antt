-- One walk through a round of rewriting, for every law that is kept by each of its steps. Section 'One round of rewriting'.
use mathlib.Core.Path.{◌≡◌, refl, sym, ap, ◌∙◌}
use Prim.Native.Nat.{ℕ, ◌≤◌, ◌<◌}
use mathlib.Core.List.{List, [], ◌∷◌}
use mathlib.Core.Bool.{Bool, true, false, not, ◌&&◌, cond}
use lib.Dec.{leb, ltb}
use lib.Ieee.{Float}
use borrow.Author.Tests.{leb-true, ltb-true, ltb-false}
use Rattle.rules.specs.Query.{Word, word, Kind, Query, term, phrase, boolean, boost, constant_score, match_all, match_none, range, Clauses, none, clause, equal}
use Rattle.rules.specs.Floats.{one, widened, narrowed, plus, times, is_one}
use Rattle.rules.specs.Rewriting.{is_none, boosted, scored, phrased, is_needed, is_must_not, scores, summable, stands_for, base, boost_of, Merged, empty, merged, put, add_merged, merge_onto, reboosted, clauses_of, merged_boolean, lone, lone_or_merged, should_count, only_must_not, of_live, is_dead, live, rewrite_boolean, rewrite_once, rewrite_each}
use Rattle.rules.proofs.Bools.{clash, and_l, and_r, and_true, or_no_l, or_no_r}
use Rattle.rules.proofs.Stored.Equal.{equal_eq}
use Rattle.rules.proofs.Rewriting.Boosts.{one_one}

-- ---- clauses before others

abbrev pub join : Clauses → Clauses → Clauses
join none ds = ds
join (clause k q cs) ds = clause k q (join cs ds)

abbrev pub snoc : Clauses → Kind → Query → Clauses
snoc none k q = clause k q none
snoc (clause j p cs) k q = clause j p (snoc cs k q)

pub join_none : (cs : Clauses) → join cs none ≡ cs
join_none none = refl
join_none (clause k q cs) = ap (clause k q) (join_none cs)

pub none_is : (q : Query) → is_none q ≡ true → q ≡ match_none
unfolding is_none
none_is (term f t) h = clash h refl
none_is (phrase f ws) h = clash h refl
none_is (boolean m cs) h = clash h refl
none_is (boost b q) h = clash h refl
none_is (constant_score q) h = clash h refl
none_is match_all h = clash h refl
none_is match_none h = refl
none_is (range n f l u) h = clash h refl

-- ---- what has to be shown of a law

-- R of queries, and S of the clauses of a Boolean with a given minimum, are kept by every step of a round
pub record Law (strict : Bool) (R : Query → Query → Type 0) (S : ℕ → Clauses → Clauses → Type 0) : Type 0 where
  pub stays : (q : Query) → R q q
  pub goes : (p q r : Query) → R p q → R q r → R p r
  pub stay : (m : ℕ) (cs : Clauses) → S m cs cs
  pub go : (m : ℕ) (cs ds es : Clauses) → S m cs ds → S m ds es → S m cs es
  -- inside
  pub in_boost : (b : ℕ) (p q : Query) → R p q → R (boost b p) (boost b q)
  pub in_constant : (p q : Query) → R p q → R (constant_score p) (constant_score q)
  pub in_boolean : (m : ℕ) (cs ds : Clauses) → S m cs ds → R (boolean m cs) (boolean m ds)
  pub in_clause : (m : ℕ) (k : Kind) (p q : Query) (cs ds : Clauses) → R p q → S m cs ds → S m (clause k p cs) (clause k q ds)
  -- a boost, a constant score, a phrase
  pub off_boost : (b : ℕ) (q : Query) → R (boost b q) q
  pub off_constant : (q : Query) → R (constant_score q) q
  pub two_boosts : (b c : ℕ) (q : Query) → R (boost b (boost c q)) (boost (times c b) q)
  pub no_words : (f : List ℕ) → R (phrase f []) match_none
  pub one_word : (f t : List ℕ) (p : ℕ) → R (phrase f (word p t ∷ [])) (term f t)
  -- a Boolean
  pub dead_none : (m : ℕ) (cs : Clauses) → is_dead cs ≡ true → R (boolean m cs) match_none
  pub negative_none : (m : ℕ) (cs : Clauses) → only_must_not cs ≡ true → R (boolean m cs) match_none
  pub few_none : (m : ℕ) (cs : Clauses) → should_count cs < m → R (boolean m cs) match_none
  pub alone : (m : ℕ) (k : Kind) (q : Query) → m ≤ 1 → m ≤ should_count (clause k q none) → is_must_not k ≡ false
      → R (boolean m (clause k q none)) (lone k q)
  -- its clauses: one that is MatchNone, a boost that is rounded, a second one that is summed, a second one that is dropped
  pub skip : (m : ℕ) (k : Kind) (cs : Clauses) → is_needed k ≡ false → S m (clause k match_none cs) cs
  pub round : (b : ℕ) (q : Query) → R (boost b q) (boost (narrowed (widened b)) q)
  pub double : (m : ℕ) (j k : Kind) (q : Query) (s : Float) (xs cs : Clauses) → summable m k ≡ true → stands_for strict m j k ≡ true
      → S m (clause j (base q) (join xs (clause k q cs))) (clause j (boost (narrowed s) (base q)) (join xs cs))
  pub again : (m : ℕ) (j k : Kind) (q : Query) (t : Float) (xs cs : Clauses) → summable m k ≡ false → stands_for strict m j k ≡ true
      → S m (clause j (reboosted j q t) (join xs (clause k q cs))) (clause j (reboosted j q t) (join xs cs))

-- ---- the walk

module _ (strict : Bool) (R : Query → Query → Type 0) (S : ℕ → Clauses → Clauses → Type 0) (L : Law strict R S) where
  module _ (m : ℕ) where
    by : (k : Kind) (p q : Query) (cs : Clauses) → R p q → S m (clause k p cs) (clause k q cs)
    by k p q cs h = L.in_clause m k p q cs cs h (L.stay m cs)

    rebase : (k : Kind) (q : Query) (cs : Clauses) → S m (clause k q cs) (clause k (reboosted k (base q) (boost_of q)) cs)
    unfolding base boost_of
    rebase k (term f t) cs = rw one_one (L.stay m _)
    rebase k (phrase f ws) cs = rw one_one (L.stay m _)
    rebase k (boolean n ds) cs = rw one_one (L.stay m _)
    rebase k (boost b q) cs = pass (not (is_one (widened b)) && scores k)
      where
        pass : (i : Bool) → S m (clause k (boost b q) cs) (clause k (cond i (boost (narrowed (widened b)) q) q) cs)
        pass true = by k _ _ cs (L.round b q)
        pass false = by k _ _ cs (L.off_boost b q)
    rebase k (constant_score q) cs = rw one_one (L.stay m _)
    rebase k match_all cs = rw one_one (L.stay m _)
    rebase k match_none cs = rw one_one (L.stay m _)
    rebase k (range n f l u) cs = rw one_one (L.stay m _)

    twice : (j k : Kind) (q : Query) (t u : Float) (xs cs : Clauses) → summable m k ≡ true → stands_for strict m j k ≡ true
        → S m (clause j (reboosted j (base q) t) (join xs (clause k q cs))) (clause j (reboosted j (base q) u) (join xs cs))
    twice j k q t u xs cs e c = L.go m _ _ _ (off (not (is_one t) && scores j)) (on (not (is_one u) && scores j))
      where
        off : (i : Bool)
            → S m (clause j (cond i (boost (narrowed t) (base q)) (base q)) (join xs (clause k q cs))) (clause j (base q) (join xs (clause k q cs)))
        off true = by j _ _ _ (L.off_boost (narrowed t) (base q))
        off false = L.stay m _

        on : (i : Bool)
            → S m (clause j (base q) (join xs (clause k q cs))) (clause j (cond i (boost (narrowed u) (base q)) (base q)) (join xs cs))
        on true = L.double m j k q u xs cs e c
        on false = L.go m _ _ _ (L.double m j k q u xs cs e c) (by j _ _ _ (L.off_boost (narrowed u) (base q)))

    put_law : (f : Float → Float) (s : Float) (k : Kind) (p q : Query)
        → ((cs : Clauses) → S m (clause k q cs) (clause k (reboosted k p s) cs))
        → ((j : Kind) (t : Float) (xs cs : Clauses) → stands_for strict m j k ≡ true
        → S m (clause j (reboosted j p t) (join xs (clause k q cs))) (clause j (reboosted j p (f t)) (join xs cs)))
        → (cs : Clauses) (ms : Merged) → S m (join (clauses_of ms) (clause k q cs)) (join (clauses_of (put strict m f s k p ms)) cs)
    unfolding clauses_of put
    put_law f s k p q fresh dup cs empty = fresh cs
    put_law f s k p q fresh dup cs (merged j o t ms) = pass (stands_for strict m j k && equal o p) refl (put_law f s k p q fresh dup cs ms)
      where
        pass : (b : Bool) → (stands_for strict m j k && equal o p) ≡ b
            → S m (join (clauses_of ms) (clause k q cs)) (join (clauses_of (put strict m f s k p ms)) cs)
            → S m (clause j (reboosted j o t) (join (clauses_of ms) (clause k q cs)))
            (join (clauses_of (cond b (merged j o (f t) ms) (merged j o t (put strict m f s k p ms)))) cs)
        pass true e h = rw (equal_eq o p (and_r (stands_for strict m j k) (equal o p) e)) (dup j t (clauses_of ms) cs (and_l (stands_for strict m j k) (equal o p) e))
        pass false e h = L.in_clause m j (reboosted j o t) (reboosted j o t) _ _ (L.stays (reboosted j o t)) h

    add_law : (k : Kind) (q : Query) (cs : Clauses) (ms : Merged) → S m (join (clauses_of ms) (clause k q cs)) (join (clauses_of (add_merged strict m k q ms)) cs)
    unfolding add_merged
    add_law k q cs ms = pass (summable m k) refl
      where
        pass : (b : Bool) → summable m k ≡ b
            → S m (join (clauses_of ms) (clause k q cs))
            (join (clauses_of (cond b (put strict m (λ t. plus t (boost_of q)) (boost_of q) k (base q) ms) (put strict m (λ t. t) one k q ms))) cs)
        pass true e =
            put_law (λ t. plus t (boost_of q)) (boost_of q) k (base q) q (λ ds. rebase k q ds)
            (λ j t xs ds c. twice j k q t (plus t (boost_of q)) xs ds e c) cs ms
        pass false e =
            put_law (λ t. t) one k q q (λ ds. rw one_one (L.stay m (clause k q ds))) (λ j t xs ds c. L.again m j k q t xs ds e c) cs ms

    pub merge_law : (cs : Clauses) (ms : Merged) → S m (join (clauses_of ms) cs) (clauses_of (merge_onto strict m ms cs))
    unfolding merge_onto
    merge_law none ms = rw (join_none (clauses_of ms)) (L.stay m (clauses_of ms))
    merge_law (clause k q cs) ms = L.go m _ _ _ (add_law k q cs ms) (merge_law cs (add_merged strict m k q ms))

    pub merged_law : (cs : Clauses) → R (boolean m cs) (merged_boolean strict m cs)
    unfolding merged_boolean clauses_of
    merged_law cs = L.in_boolean m cs _ (merge_law cs empty)

    pub live_law : (cs : Clauses) → is_dead cs ≡ false → S m cs (live cs)
    unfolding live is_dead
    live_law none h = L.stay m none
    live_law (clause k q cs) h = pass (is_none q) refl (live_law cs (or_no_r (is_needed k && is_none q) (is_dead cs) h))
      where
        unneeded : (n : Bool) → is_none q ≡ true → (n && is_none q) ≡ false → n ≡ false
        unneeded true e g = sym e ∙ g
        unneeded false e g = refl

        pass : (b : Bool) → is_none q ≡ b → S m cs (live cs) → S m (clause k q cs) (cond b (live cs) (clause k q (live cs)))
        pass false e t = L.in_clause m k q q cs (live cs) (L.stays q) t
        pass true e t =
            rw (none_is q e) (L.go m _ cs _ (L.skip m k cs (unneeded (is_needed k) e (or_no_l (is_needed k && is_none q) (is_dead cs) h))) t)

    pub lone_law : (cs : Clauses) → only_must_not cs ≡ false → m ≤ should_count cs → R (boolean m cs) (lone_or_merged strict m cs)
    unfolding lone_or_merged only_must_not
    lone_law none n c = merged_law none
    lone_law (clause k q none) n c = pass (leb m 1) refl
      where
        pass : (b : Bool) → leb m 1 ≡ b → R (boolean m (clause k q none)) (cond b (lone k q) (merged_boolean strict m (clause k q none)))
        pass true e = L.alone m k q (leb-true m 1 e) c (sym (and_true (is_must_not k)) ∙ n)
        pass false e = merged_law (clause k q none)
    lone_law (clause k q (clause j p cs)) n c = merged_law (clause k q (clause j p cs))

    enough_law : (cs : Clauses) → only_must_not cs ≡ false → R (boolean m cs) (cond (ltb (should_count cs) m) match_none (lone_or_merged strict m cs))
    enough_law cs n = pass (ltb (should_count cs) m) refl
      where
        pass : (b : Bool) → ltb (should_count cs) m ≡ b → R (boolean m cs) (cond b match_none (lone_or_merged strict m cs))
        pass true e = L.few_none m cs (ltb-true (should_count cs) m e)
        pass false e = lone_law cs n (ltb-false (should_count cs) m e)

    pub of_live_law : (cs : Clauses) → R (boolean m cs) (of_live strict m cs)
    unfolding of_live
    of_live_law cs = pass (only_must_not cs) refl
      where
        pass : (b : Bool) → only_must_not cs ≡ b
            → R (boolean m cs) (cond b match_none (cond (ltb (should_count cs) m) match_none (lone_or_merged strict m cs)))
        pass true e = L.negative_none m cs e
        pass false e = enough_law cs e

    pub boolean_law : (cs : Clauses) → R (boolean m cs) (rewrite_boolean strict m cs)
    unfolding rewrite_boolean
    boolean_law cs = pass (is_dead cs) refl
      where
        pass : (b : Bool) → is_dead cs ≡ b → R (boolean m cs) (cond b match_none (of_live strict m (live cs)))
        pass true e = L.dead_none m cs e
        pass false e = L.goes _ _ _ (L.in_boolean m cs (live cs) (live_law cs e)) (of_live_law (live cs))

  pub boosted_law : (b : ℕ) (q : Query) → R (boost b q) (boosted b q)
  unfolding boosted
  boosted_law b (term f t) = L.stays _
  boosted_law b (phrase f ws) = L.stays _
  boosted_law b (boolean m cs) = L.stays _
  boosted_law b (boost c q) = L.two_boosts b c q
  boosted_law b (constant_score q) = L.stays _
  boosted_law b match_all = L.stays _
  boosted_law b match_none = L.off_boost b match_none
  boosted_law b (range n f l u) = L.stays _

  pub scored_law : (q : Query) → R (constant_score q) (scored q)
  unfolding scored
  scored_law (term f t) = L.stays _
  scored_law (phrase f ws) = L.stays _
  scored_law (boolean m cs) = L.stays _
  scored_law (boost c q) = L.in_constant _ _ (L.off_boost c q)
  scored_law (constant_score q) = L.off_constant (constant_score q)
  scored_law match_all = L.stays _
  scored_law match_none = L.off_constant match_none
  scored_law (range n f l u) = L.stays _

  pub phrased_law : (f : List ℕ) (ws : List Word) → R (phrase f ws) (phrased f ws)
  unfolding phrased
  phrased_law f [] = L.no_words f
  phrased_law f (word p t ∷ []) = L.one_word f t p
  phrased_law f (v ∷ w ∷ ws) = L.stays _

  pub boost_law : (i : Bool) (b : ℕ) (p q : Query) → R p q → R (boost b p) (cond i q (boosted b q))
  boost_law true b p q h = L.goes _ _ _ (L.off_boost b p) h
  boost_law false b p q h = L.goes _ _ _ (L.in_boost b p q h) (boosted_law b q)

  mutual
    unfolding rewrite_once

    pub once_law : (q : Query) → R q (rewrite_once strict q)
    once_law (term f t) = L.stays _
    once_law (phrase f ws) = phrased_law f ws
    once_law (boolean m cs) = L.goes _ _ _ (L.in_boolean m _ _ (each_law cs m)) (boolean_law m (rewrite_each strict cs))
    once_law (boost b q) = boost_law (is_one (widened b)) b q (rewrite_once strict q) (once_law q)
    once_law (constant_score q) = L.goes _ _ _ (L.in_constant _ _ (once_law q)) (scored_law (rewrite_once strict q))
    once_law match_all = L.stays _
    once_law match_none = L.stays _
    once_law (range n f l u) = L.stays _

    pub each_law : (cs : Clauses) (m : ℕ) → S m cs (rewrite_each strict cs)
    each_law none m = L.stay m none
    each_law (clause k q cs) m = L.in_clause m k _ _ _ _ (once_law q) (each_law cs m)
