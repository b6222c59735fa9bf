-- A round keeps a query valid, and leaves it as it is or makes it lighter: so the rounds end, and are at most the weight. Section 'One round of rewriting'.
use mathlib.Core.Path.{◌≡◌, refl, ap, ◌∙◌}
use mathlib.Core.Logic.{◌⊎◌, inl, inr}
use Prim.Native.Nat.{ℕ, zero, suc, ◌+◌, ◌≤◌, ◌<◌}
use mathlib.Core.Bool.{Bool, true, false, cond}
use native.Mathlib.Omega.{arith}
use Rattle.rules.specs.Query.{Kind, must, should, must_not, filter, Query, term, phrase, boolean, boost, constant_score, match_all, match_none, range, Clauses, none, clause, equal}
use Rattle.rules.specs.Stored.{ValidWords, Valid, Valids}
use Rattle.rules.specs.Floats.{widened}
use Rattle.rules.specs.Rewriting.{weight, weights, lone, rewrite_once, Rewritten, rewritten, one_round_more, rounds, rewrite, result_of, count_of}
use Rattle.rules.proofs.Bools.{clash}
use Rattle.rules.proofs.Stored.Equal.{equal_eq, equal_refl}
use Rattle.rules.proofs.Rewriting.Boosts.{narrowed_widened, times_boost, narrowed_boost, zero_boost}
use Rattle.rules.proofs.Rewriting.Walk.{Law, join, once_law}
use Rattle.rules.proofs.Rewriting.Rounds.{result_more, count_more, after_rounds, kept_after, kept_rounds}

-- ---- the law

-- b is a, or lighter
abbrev pub Step : {A : Type 0} → (A → ℕ) → A → A → Type 0
Step w a b = (b ≡ a) ⊎ (w b < w a)

step_go : {A : Type 0} (w : A → ℕ) (a b c : A) → Step w a b → Step w b c → Step w a c
step_go w a b c (inl e) (inl f) = inl (f ∙ e)
step_go w a b c (inl e) (inr l) = inr (omega (arith, ap w e))
step_go w a b c (inr l) (inl f) = inr (omega (arith, ap w f))
step_go w a b c (inr l) (inr n) = inr (omega arith)

step_in : {A B : Type 0} (w : A → ℕ) (x : B → ℕ) (f : A → B) (a b : A) → (w b < w a → x (f b) < x (f a)) → Step w a b → Step x (f a) (f b)
step_in w x f a b up (inl e) = inl (ap f e)
step_in w x f a b up (inr l) = inr (up l)

pub one_weight : (q : Query) → 1 ≤ weight q
unfolding weight
one_weight (term f t) = omega arith
one_weight (phrase f ws) = omega arith
one_weight (boolean m cs) = omega arith
one_weight (boost b q) = omega arith
one_weight (constant_score q) = omega arith
one_weight match_all = omega arith
one_weight match_none = omega arith
one_weight (range n f l u) = omega arith

join_weight : (k : Kind) (q : Query) (xs cs : Clauses) → weights (join xs (clause k q cs)) ≡ 1 + weight q + weights (join xs cs)
unfolding weight
join_weight k q none cs = refl
join_weight k q (clause j p xs) cs = omega (arith, join_weight k q xs cs)

join_valid : (k : Kind) (q : Query) (xs cs : Clauses) → Valids (join xs (clause k q cs)) → Valids (join xs cs)
unfolding Valid
join_valid k q none cs v = v.1
join_valid k q (clause j p xs) cs v = (v.0, join_valid k q xs cs v.1)

lone_valid : (k : Kind) (q : Query) → Valid q → Valid (lone k q)
unfolding lone Valid
lone_valid must q v = v
lone_valid should q v = v
lone_valid must_not q v = tt
lone_valid filter q v = (zero_boost, v)

lone_lighter : (m : ℕ) (k : Kind) (q : Query) → weight (lone k q) < weight (boolean m (clause k q none))
unfolding lone weight
lone_lighter m must q = omega arith
lone_lighter m should q = omega arith
lone_lighter m must_not q = omega arith
lone_lighter m filter q = omega arith

-- of a valid query: a boost that is rounded is a boost again, and the same
abbrev pub Lightens : Query → Query → Type 0
Lightens p q = Valid p → Valid q × Step weight p q

abbrev pub LightensAll : ℕ → Clauses → Clauses → Type 0
LightensAll m cs ds = Valids cs → Valids ds × Step weights cs ds

pub weight_law : (strict : Bool) → Law strict Lightens LightensAll
unfolding Valid ValidWords weight
weight_law strict = record {
  stays = λ q v. (v, inl refl);
  goes = λ p q r h k v. ((k (h v).0).0, step_go weight p q r (h v).1 (k (h v).0).1);
  stay = λ m cs v. (v, inl refl);
  go = λ m cs ds es h k v. ((k (h v).0).0, step_go weights cs ds es (h v).1 (k (h v).0).1);
  in_boost = λ b p q h v. ((v.0, (h v.1).0), step_in weight weight (boost b) p q (λ l. omega arith) (h v.1).1);
  in_constant = λ p q h v. ((h v).0, step_in weight weight constant_score p q (λ l. omega arith) (h v).1);
  in_boolean = λ m cs ds h v. ((v.0, (h v.1).0), step_in weights weight (boolean m) cs ds (λ l. omega arith) (h v.1).1);
  in_clause = λ m k p q cs ds h t v. (
    ((h v.0).0, (t v.1).0),
    step_go weights (clause k p cs) (clause k q cs) (clause k q ds)
        (step_in weight weights (λ x. clause k x cs) p q (λ l. omega arith) (h v.0).1)
        (step_in weights weights (clause k q) cs ds (λ l. omega arith) (t v.1).1),
  );
  off_boost = λ b q v. (v.1, inr (omega arith));
  off_constant = λ q v. (v, inr (omega arith));
  two_boosts = λ b c q v. ((times_boost c b, v.1.1), inr (omega arith));
  no_words = λ f v. (tt, inr (omega arith));
  one_word = λ f t p v. ((v.0, v.1.1), inr (omega arith));
  dead_none = λ m cs h v. (tt, inr (omega arith));
  negative_none = λ m cs h v. (tt, inr (omega arith));
  few_none = λ m cs h v. (tt, inr (omega arith));
  alone = λ m k q h c n v. (lone_valid k q v.1.0, inr (lone_lighter m k q));
  skip = λ m k cs h v. (v.1, inr (omega arith));
  round = λ b q v. ((narrowed_boost (widened b), v.1), inl (ap (λ (x : ℕ). boost x q) (narrowed_widened b v.0)));
  double = λ m j k q s xs cs e c v.
      (((narrowed_boost s, v.0), join_valid k q xs cs v.1), inr (omega (arith, join_weight k q xs cs, one_weight q)));
  again = λ m j k q t xs cs e c v. ((v.0, join_valid k q xs cs v.1), inr (omega (arith, join_weight k q xs cs)));
}

module _ (strict : Bool) where
  -- ---- one round

  pub valid_once : (q : Query) → Valid q → Valid (rewrite_once strict q)
  valid_once q v = (once_law strict Lightens LightensAll (weight_law strict) q v).0

  -- at every minimum
  pub once_lighter : (q : Query) → Valid q → (rewrite_once strict q ≡ q) ⊎ (weight (rewrite_once strict q) < weight q)
  once_lighter q v = (once_law strict Lightens LightensAll (weight_law strict) q v).1

  pub changed_lighter : (q : Query) → Valid q → equal (rewrite_once strict q) q ≡ false → weight (rewrite_once strict q) < weight q
  changed_lighter q v e = pass (once_lighter q v)
    where
      pass : (rewrite_once strict q ≡ q) ⊎ (weight (rewrite_once strict q) < weight q) → weight (rewrite_once strict q) < weight q
      pass (inl s) = clash (equal_refl (rewrite_once strict q) q s) e
      pass (inr l) = l

  -- ---- all rounds

  pub valid_after : (n : ℕ) (q : Query) → Valid q → Valid (after_rounds strict n q)
  valid_after = kept_after strict Valid valid_once

  pub valid_rounds : (k : ℕ) (q : Query) → Valid q → Valid (result_of (rounds strict k q))
  valid_rounds = kept_rounds strict Valid valid_once

  -- the whole rewriting: until a round changes nothing, that round counted too
  pub data Made : Query → Rewritten → Type 0 where
    last : {q : Query} → rewrite_once strict q ≡ q → Made q (rewritten (rewrite_once strict q) 1)
    more : {q : Query} {r : Rewritten} → (rewrite_once strict q ≡ q → ⊥) → Made (rewrite_once strict q) r → Made q (one_round_more r)

  pub made_fixed : {q : Query} {r : Rewritten} → Made q r → rewrite_once strict (result_of r) ≡ result_of r
  made_fixed (last e) = ap (rewrite_once strict) e
  made_fixed (more {r = r} n m) = rw (result_more r) (made_fixed m)

  made_few : {q : Query} {r : Rewritten} → Made q r → Valid q → count_of r ≤ weight q
  made_few {q} (last e) v = one_weight q
  made_few {q} (more {r = r} n m) v = rw (count_more r) (pass (once_lighter q v) (made_few m (valid_once q v)))
    where
      pass : (rewrite_once strict q ≡ q) ⊎ (weight (rewrite_once strict q) < weight q) → count_of r ≤ weight (rewrite_once strict q) → suc (count_of r) ≤ weight q
      pass (inl e) h = absurd (n e)
      pass (inr l) h = omega arith

  -- there is one answer and one count
  pub made_one : {q : Query} {r s : Rewritten} → Made q r → Made q s → r ≡ s
  made_one (last e) (last f) = refl
  made_one (last e) (more n m) = absurd (n e)
  made_one (more n m) (last e) = absurd (n e)
  made_one (more n m) (more n' m') = ap one_round_more (made_one m m')

  pub made : (k : ℕ) (q : Query) → Valid q → weight q ≤ k → Made q (rounds strict k q)
  unfolding rounds
  made zero q v l = absurd (omega (arith, one_weight q))
  made (suc k) q v l = pass (equal (rewrite_once strict q) q) refl (λ h. made k (rewrite_once strict q) (valid_once q v) h)
    where
      pass : (b : Bool) → equal (rewrite_once strict q) q ≡ b → (weight (rewrite_once strict q) ≤ k → Made (rewrite_once strict q) (rounds strict k (rewrite_once strict q)))
          → Made q (cond b (rewritten (rewrite_once strict q) 1) (one_round_more (rounds strict k (rewrite_once strict q))))
      pass true e h = last (equal_eq (rewrite_once strict q) q e)
      pass false e h =
          let l₂ = changed_lighter q v e in
          more (λ s. clash (equal_refl (rewrite_once strict q) q s) e) (h (omega arith))

  module _ (q : Query) (v : Valid q) where
    -- more fuel than the weight gives the same answer and the same count
    pub any_fuel : (k : ℕ) → weight q ≤ k → rounds strict k q ≡ rewrite strict q
    any_fuel k l = made_one (made k q v l) (made (weight q) q v (omega arith))

    -- the only answer of rounds made until one changes nothing
    pub rewrite_is : (r : Rewritten) → Made q r → rewrite strict q ≡ r
    rewrite_is r m = made_one (made (weight q) q v (omega arith)) m

    pub few_rounds : count_of (rewrite strict q) ≤ weight q
    few_rounds = made_few (made (weight q) q v (omega arith)) v

    pub fixed : rewrite_once strict (result_of (rewrite strict q)) ≡ result_of (rewrite strict q)
    fixed = made_fixed (made (weight q) q v (omega arith))

    pub valid_rewrite : Valid (result_of (rewrite strict q))
    valid_rewrite = valid_rounds (weight q) q v
