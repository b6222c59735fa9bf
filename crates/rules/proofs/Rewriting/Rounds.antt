-- Rounds one after another: the query after each of them, and a law of one round as a law of all. Section 'One round of rewriting'.
use mathlib.Core.Path.{◌≡◌, refl}
use Prim.Native.Nat.{ℕ, zero, suc, ◌≤◌}
use mathlib.Core.Bool.{Bool, true, false, cond}
use native.Mathlib.Omega.{arith}
use Rattle.rules.specs.Query.{Query, Clauses, equal}
use Rattle.rules.specs.Rewriting.{rewrite_once, Rewritten, rewritten, one_round_more, rounds, result_of, count_of}
use Rattle.rules.proofs.Rewriting.Walk.{Law, once_law}

pub result_more : (r : Rewritten) → result_of (one_round_more r) ≡ result_of r
result_more (rewritten q n) = refl

pub count_more : (r : Rewritten) → count_of (one_round_more r) ≡ suc (count_of r)
count_more (rewritten q n) = refl

module _ (strict : Bool) where
  -- ---- each round

  -- q after n rounds
  unfoldable pub after_rounds : ℕ → Query → Query
  after_rounds zero q = q
  after_rounds (suc n) q = after_rounds n (rewrite_once strict q)

  -- the result is what q is after the rounds counted
  pub result_after : (k : ℕ) (q : Query) → result_of (rounds strict k q) ≡ after_rounds (count_of (rounds strict k q)) q
  unfolding rounds after_rounds
  result_after zero q = refl
  result_after (suc k) q = pass (equal (rewrite_once strict q) q) (rounds strict k (rewrite_once strict q)) (result_after k (rewrite_once strict q))
    where
      pass : (b : Bool) (r : Rewritten) → result_of r ≡ after_rounds (count_of r) (rewrite_once strict q)
          → result_of (cond b (rewritten (rewrite_once strict q) 1) (one_round_more r)) ≡ after_rounds (count_of (cond b (rewritten (rewrite_once strict q) 1) (one_round_more r))) q
      pass true r h = refl
      pass false (rewritten p n) h = h

  -- the result of any rounds is a round's
  pub result_once : (k : ℕ) (q : Query) → 1 ≤ k → (p : Query) × (result_of (rounds strict k q) ≡ rewrite_once strict p)
  unfolding rounds
  result_once zero q h = absurd (omega arith)
  result_once (suc zero) q h = pass (equal (rewrite_once strict q) q)
    where
      pass : (b : Bool) → (p : Query) × (result_of (cond b (rewritten (rewrite_once strict q) 1) (rewritten (rewrite_once strict q) 1)) ≡ rewrite_once strict p)
      pass true = (q, refl)
      pass false = (q, refl)
  result_once (suc (suc k)) q h = pass (equal (rewrite_once strict q) q) (rounds strict (suc k) (rewrite_once strict q)) (result_once (suc k) (rewrite_once strict q) (omega arith))
    where
      pass : (b : Bool) (r : Rewritten) → ((p : Query) × (result_of r ≡ rewrite_once strict p))
          → (p : Query) × (result_of (cond b (rewritten (rewrite_once strict q) 1) (one_round_more r)) ≡ rewrite_once strict p)
      pass true r h = (q, refl)
      pass false (rewritten p n) h = h

  -- ---- laws of a round are laws of rounds

  -- what every round keeps
  module _ (P : Query → Type 0) (once : (q : Query) → P q → P (rewrite_once strict q)) where
    pub kept_after : (n : ℕ) (q : Query) → P q → P (after_rounds n q)
    unfolding after_rounds
    kept_after zero q h = h
    kept_after (suc n) q h = kept_after n (rewrite_once strict q) (once q h)

    pub kept_rounds : (k : ℕ) (q : Query) → P q → P (result_of (rounds strict k q))
    kept_rounds k q h = rw result_after (kept_after (count_of (rounds strict k q)) q h)

  module _ (R : Query → Query → Type 0) (S : ℕ → Clauses → Clauses → Type 0) (L : Law strict R S) (q : Query) where
    pub after_law : (n : ℕ) → R q (after_rounds n q)
    after_law n = kept_after (R q) (λ p h. L.goes q p (rewrite_once strict p) h (once_law strict R S L p)) n q (L.stays q)

    pub rounds_law : (k : ℕ) → R q (result_of (rounds strict k q))
    rounds_law k = rw result_after (after_law (count_of (rounds strict k q)))
