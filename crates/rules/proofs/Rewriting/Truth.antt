-- A round keeps what a query is true of: strict, at every minimum; else where none is above 1. Sections 'One round of rewriting' and 'Matching and selection'.
use mathlib.Core.Path.{◌≡◌, refl, sym, ◌∙◌}
use Prim.Native.Nat.{ℕ, ◌+◌, ◌≤◌, ◌<◌, max, min}
use mathlib.Core.List.{List}
use mathlib.Core.Bool.{Bool, true, false, not, ◌&&◌, ◌||◌, cond}
use native.Mathlib.Omega.{arith}
use lib.Dec.{leb}
use lib.Ieee.{Float}
use borrow.Author.Tests.{leb-true, le-leb, lt-leb}
use Rattle.rules.specs.Query.{Kind, must, should, must_not, filter, Query, term, phrase, boolean, boost, constant_score, match_all, match_none, range, Clauses, none, clause}
use Rattle.rules.specs.Floats.{narrowed, is_one}
use Rattle.rules.specs.Rewriting.{weight, largest, Fair, largests, is_none, is_needed, is_must_not, scores, stands_for, base, reboosted, lone, should_count, only_must_not, is_dead, rewrite_once, rounds, rewrite, result_of}
use Rattle.rules.specs.Lists.{Entry}
use Rattle.rules.specs.Matching.{bit, allows, counts_for, any_needed, enough, matches, all_allow, shoulds_true}
use Rattle.rules.proofs.Bools.{clash, alike, and_false, and_same, and_swap, or_same, or_swap}
use Rattle.rules.proofs.Choosing.Phrases.{no_phrase, one_phrase}
use Rattle.rules.proofs.Rewriting.Kinds.{stands_needed, stands_allows}
use Rattle.rules.proofs.Rewriting.Walk.{Law, join, none_is, once_law}
use Rattle.rules.proofs.Rewriting.Rounds.{after_rounds, after_law, rounds_law}
use Rattle.rules.proofs.Rewriting.Bounds.{Bounded, BoundedAll, bounds_law}

-- ---- counts of Should clauses

-- no more than this is seen of n by a minimum of m
abbrev capped : ℕ → ℕ → ℕ
capped m n = min (max 1 m) n

leb_alike : (m a b : ℕ) → (m ≤ b → m ≤ a) → (m ≤ a → m ≤ b) → leb m b ≡ leb m a
leb_alike m a b f g = alike (leb m b) (leb m a) (λ h. le-leb m a (f (leb-true m b h))) (λ h. le-leb m b (g (leb-true m a h)))

enough_capped : (m a b : ℕ) (x y : Bool) → y ≡ x → capped m b ≡ capped m a → enough m y b ≡ enough m x a
enough_capped m a b x y e h = cc (leb_alike m a b (λ k. omega arith) (λ k. omega arith), leb_alike 1 a b (λ k. omega arith) (λ k. omega arith))

-- a second clause that is as true is not seen; of a Should, where the minimum is at most 1
double_capped : (strict : Bool) (m : ℕ) (j k : Kind) (x : Bool) (n : ℕ) → Fair strict m → stands_for strict m j k ≡ true
    → capped m (counts_for j x + n) ≡ capped m (counts_for j x + (counts_for k x + n))
double_capped strict m j must x n l c = omega arith
double_capped strict m j must_not x n l c = omega arith
double_capped strict m j filter x n l c = omega arith
double_capped strict m must should x n l c = clash c refl
double_capped true m should should x n l c = let h = leb-true m 1 c in omega arith
double_capped false m should should x n l c = omega arith
double_capped strict m must_not should x n l c = clash c refl
double_capped strict m filter should x n l c = clash c refl

bit_one : (b : Bool) → bit b ≤ 1
bit_one true = omega arith
bit_one false = omega arith

-- what is below a fair minimum is fair
fair_below : (strict : Bool) (m n : ℕ) → m ≤ n → Fair strict n → Fair strict m
fair_below true m n l f = tt
fair_below false m n l f = omega arith

-- ---- a record

module _ (es : List Entry) where
  base_matches : (q : Query) → matches es (base q) ≡ matches es q
  unfolding base matches
  base_matches (term f t) = refl
  base_matches (phrase f ws) = refl
  base_matches (boolean m cs) = refl
  base_matches (boost b q) = refl
  base_matches (constant_score q) = refl
  base_matches match_all = refl
  base_matches match_none = refl
  base_matches (range n f l u) = refl

  reboosted_matches : (k : Kind) (q : Query) (s : Float) → matches es (reboosted k q s) ≡ matches es q
  unfolding matches
  reboosted_matches k q s = pass (not (is_one s) && scores k)
    where
      pass : (b : Bool) → matches es (cond b (boost (narrowed s) q) q) ≡ matches es q
      pass true = refl
      pass false = refl

  -- clauses that a Boolean with the minimum m does not tell apart
  record Agree (m : ℕ) (cs ds : Clauses) : Type 0 where
    ok : all_allow es ds ≡ all_allow es cs
    any : any_needed ds ≡ any_needed cs
    num : capped m (shoulds_true es ds) ≡ capped m (shoulds_true es cs)

  agree_go : (m : ℕ) (cs ds bs : Clauses) → Agree m cs ds → Agree m ds bs → Agree m cs bs
  agree_go m cs ds bs h g = record { ok = g.ok ∙ h.ok; any = g.any ∙ h.any; num = g.num ∙ h.num }

  agree_clause : (m : ℕ) (k : Kind) (p q : Query) (cs ds : Clauses) → matches es q ≡ matches es p → Agree m cs ds → Agree m (clause k p cs) (clause k q ds)
  unfolding matches any_needed
  agree_clause m k p q cs ds e h = record { ok = rw (e, h.ok); any = rw h.any; num = rw e (let n = h.num in omega arith) }

  agree_boolean : (m : ℕ) (cs ds : Clauses) → Agree m cs ds → matches es (boolean m ds) ≡ matches es (boolean m cs)
  unfolding matches
  agree_boolean m cs ds h = rw (h.ok, enough_capped m _ _ _ _ h.any h.num)

  join_allow : (k : Kind) (q : Query) (xs cs : Clauses) → all_allow es (join xs (clause k q cs)) ≡ (allows k (matches es q) && all_allow es (join xs cs))
  unfolding matches
  join_allow k q none cs = refl
  join_allow k q (clause j p xs) cs = rw (join_allow k q xs cs) (and_swap (allows j (matches es p)) (allows k (matches es q)) (all_allow es (join xs cs)))

  join_needed : (k : Kind) (q : Query) (xs cs : Clauses) → any_needed (join xs (clause k q cs)) ≡ (is_needed k || any_needed (join xs cs))
  unfolding any_needed
  join_needed k q none cs = refl
  join_needed k q (clause j p xs) cs = rw (join_needed k q xs cs) (or_swap (is_needed j) (is_needed k) (any_needed (join xs cs)))

  join_shoulds : (k : Kind) (q : Query) (xs cs : Clauses)
      → shoulds_true es (join xs (clause k q cs)) ≡ counts_for k (matches es q) + shoulds_true es (join xs cs)
  unfolding matches
  join_shoulds k q none cs = refl
  join_shoulds k q (clause j p xs) cs = omega (arith, join_shoulds k q xs cs)

  -- x and y say what q says, and a clause of q behind x says nothing new
  agree_double : (strict : Bool) (m : ℕ) (j k : Kind) (x y q : Query) (xs cs : Clauses) → Fair strict m → stands_for strict m j k ≡ true
      → matches es x ≡ matches es q → matches es y ≡ matches es q → Agree m (clause j x (join xs (clause k q cs))) (clause j y (join xs cs))
  unfolding matches any_needed
  agree_double strict m j k x y q xs cs l c ex ey = record {
    ok = rw (ex, ey, join_allow k q xs cs, ← stands_allows strict m (matches es q) j k c) (sym (and_same (allows j (matches es q)) (all_allow es (join xs cs))));
    any = rw (join_needed k q xs cs, ← stands_needed strict m j k c) (sym (or_same (is_needed j) (any_needed (join xs cs))));
    num = rw (ex, ey, join_shoulds k q xs cs) (double_capped strict m j k (matches es q) (shoulds_true es (join xs cs)) l c);
  }

  skip_agree : (m : ℕ) (k : Kind) (cs : Clauses) → is_needed k ≡ false → Agree m (clause k match_none cs) cs
  unfolding matches any_needed
  skip_agree m must cs h = clash refl h
  skip_agree m should cs h = record { ok = refl; any = refl; num = omega arith }
  skip_agree m must_not cs h = record { ok = refl; any = refl; num = omega arith }
  skip_agree m filter cs h = clash refl h

  -- ---- Booleans that match nothing

  dead_allow : (cs : Clauses) → is_dead cs ≡ true → all_allow es cs ≡ false
  unfolding is_dead matches
  dead_allow none h = clash h refl
  dead_allow (clause k q cs) h = pass k (is_none q) refl h (dead_allow cs)
    where
      pass : (j : Kind) (b : Bool) → is_none q ≡ b → ((is_needed j && b) || is_dead cs) ≡ true → (is_dead cs ≡ true → all_allow es cs ≡ false)
          → (allows j (matches es q) && all_allow es cs) ≡ false
      pass must true e d t = rw (none_is q e)
      pass filter true e d t = rw (none_is q e)
      pass must false e d t = rw (t d) (and_false (matches es q))
      pass filter false e d t = rw (t d) (and_false (matches es q))
      pass should true e d t = t d
      pass should false e d t = t d
      pass must_not true e d t = rw (t d) (and_false (not (matches es q)))
      pass must_not false e d t = rw (t d) (and_false (not (matches es q)))

  negative_needed : (cs : Clauses) → only_must_not cs ≡ true → (any_needed cs ≡ false) × (shoulds_true es cs ≡ 0)
  unfolding only_must_not any_needed matches
  negative_needed none h = (refl, refl)
  negative_needed (clause must q cs) h = clash h refl
  negative_needed (clause should q cs) h = clash h refl
  negative_needed (clause must_not q cs) h = let g = negative_needed cs h in (g.0, omega arith)
  negative_needed (clause filter q cs) h = clash h refl

  shoulds_count : (cs : Clauses) → shoulds_true es cs ≤ should_count cs
  unfolding should_count matches
  shoulds_count none = omega arith
  shoulds_count (clause must q cs) = omega (arith, shoulds_count cs)
  shoulds_count (clause should q cs) = omega (arith, shoulds_count cs, bit_one (matches es q))
  shoulds_count (clause must_not q cs) = omega (arith, shoulds_count cs)
  shoulds_count (clause filter q cs) = omega (arith, shoulds_count cs)

  module _ (m : ℕ) (cs : Clauses) where
    none_dead : is_dead cs ≡ true → matches es match_none ≡ matches es (boolean m cs)
    unfolding matches
    none_dead h = rw (dead_allow cs h)

    none_negative : only_must_not cs ≡ true → matches es match_none ≡ matches es (boolean m cs)
    unfolding matches
    none_negative h = let g = negative_needed cs h in rw (g.0, g.1, and_false (leb m 0), and_false (all_allow es cs))

    none_few : should_count cs < m → matches es match_none ≡ matches es (boolean m cs)
    unfolding matches
    none_few h = rw (lt-leb m (shoulds_true es cs) (omega (arith, shoulds_count cs)), and_false (all_allow es cs))

  -- ---- a Boolean of one clause

  needed_alone : (m : ℕ) (b : Bool) → m ≤ 0 → b ≡ ((b && true) && (leb m 0 && true))
  needed_alone m true l = rw (le-leb m 0 l)
  needed_alone m false l = refl

  should_alone : (m : ℕ) (b : Bool) → m ≤ 1 → b ≡ (leb m (bit b + 0) && leb 1 (bit b + 0))
  should_alone m true l = rw (le-leb m 1 l)
  should_alone m false l = sym (and_false (leb m 0))

  alone_matches : (m : ℕ) (k : Kind) (q : Query) → m ≤ 1 → m ≤ should_count (clause k q none) → is_must_not k ≡ false
      → matches es (lone k q) ≡ matches es (boolean m (clause k q none))
  unfolding matches lone should_count any_needed
  alone_matches m must q l c n = needed_alone m (matches es q) (omega arith)
  alone_matches m should q l c n = should_alone m (matches es q) l
  alone_matches m must_not q l c n = clash refl n
  alone_matches m filter q l c n = needed_alone m (matches es q) (omega arith)

  -- ---- the law

  module _ (strict : Bool) where
    abbrev Keeps : Query → Query → Type 0
    Keeps p q = Bounded p q × (Fair strict (largest p) → matches es q ≡ matches es p)

    abbrev KeepsAll : ℕ → Clauses → Clauses → Type 0
    KeepsAll m cs ds = BoundedAll cs ds × (Fair strict m → Fair strict (largests cs) → Agree m cs ds)

    truth_law : Law strict Keeps KeepsAll
    unfolding matches largest
    truth_law =
        let Z = bounds_law strict in
        record {
          stays = λ q. (Z.stays q, λ f. refl);
          goes = λ p q r h g. (Z.goes p q r h.0 g.0, λ f. g.1 (fair_below strict (largest q) (largest p) h.0.in_largest f) ∙ h.1 f);
          stay = λ m cs. (Z.stay m cs, λ f g. record { ok = refl; any = refl; num = refl });
          go = λ m cs ds bs h g. (Z.go m cs ds bs h.0 g.0, λ f e. agree_go m cs ds bs (h.1 f e) (g.1 f (fair_below strict (largests ds) (largests cs) h.0.in_largest e)));
          in_boost = λ b p q h. (Z.in_boost b p q h.0, h.1);
          in_constant = λ p q h. (Z.in_constant p q h.0, h.1);
          in_boolean = λ m cs ds h. (Z.in_boolean m cs ds h.0, λ f. agree_boolean m cs ds (h.1 (fair_below strict m (max m (largests cs)) (omega arith) f) (fair_below strict (largests cs) (max m (largests cs)) (omega arith) f)));
          in_clause = λ m k p q cs ds h g. (
            Z.in_clause m k p q cs ds h.0 g.0,
            λ f e. agree_clause m k p q cs ds (h.1 (fair_below strict (largest p) (max (largest p) (largests cs)) (omega arith) e))
                (g.1 f (fair_below strict (largests cs) (max (largest p) (largests cs)) (omega arith) e)),
          );
          off_boost = λ b q. (Z.off_boost b q, λ f. refl);
          off_constant = λ q. (Z.off_constant q, λ f. refl);
          two_boosts = λ b c q. (Z.two_boosts b c q, λ f. refl);
          no_words = λ g. (Z.no_words g, λ f. sym (no_phrase es g));
          one_word = λ g t p. (Z.one_word g t p, λ f. sym (one_phrase es g t p));
          dead_none = λ m cs h. (Z.dead_none m cs h, λ f. none_dead m cs h);
          negative_none = λ m cs h. (Z.negative_none m cs h, λ f. none_negative m cs h);
          few_none = λ m cs h. (Z.few_none m cs h, λ f. none_few m cs h);
          alone = λ m k q l c n. (Z.alone m k q l c n, λ f. alone_matches m k q l c n);
          skip = λ m k cs h. (Z.skip m k cs h, λ f e. skip_agree m k cs h);
          round = λ b q. (Z.round b q, λ f. refl);
          double = λ m j k q s xs cs e c. (
            Z.double m j k q s xs cs e c,
            λ f g. agree_double strict m j k (base q) (boost (narrowed s) (base q)) q xs cs f c (base_matches q) (base_matches q),
          );
          again = λ m j k q t xs cs e c. (
            Z.again m j k q t xs cs e c,
            λ f g. agree_double strict m j k (reboosted j q t) (reboosted j q t) q xs cs f c (reboosted_matches j q t) (reboosted_matches j q t),
          );
        }

    module _ (q : Query) (h : Fair strict (largest q)) where
      pub matches_once : matches es (rewrite_once strict q) ≡ matches es q
      matches_once = (once_law strict Keeps KeepsAll truth_law q).1 h

      pub matches_after : (n : ℕ) → matches es (after_rounds strict n q) ≡ matches es q
      matches_after n = (after_law strict Keeps KeepsAll truth_law q n).1 h

      pub matches_rounds : (k : ℕ) → matches es (result_of (rounds strict k q)) ≡ matches es q
      matches_rounds k = (rounds_law strict Keeps KeepsAll truth_law q k).1 h

      pub matches_rewrite : matches es (result_of (rewrite strict q)) ≡ matches es q
      matches_rewrite = matches_rounds (weight q)
