-- The first byte that passes a test, as `position` finds it. Assumes nothing.
use Rattle.std.proofs.Common.{length-take, length-drop, ◌≡◌, ◌∙◌, ℕ, ◌+◌, ◌-◌, ◌<◌, ◌≤◌, List, [], ◌∷◌, Bool, true, false, length, take, drop, get_or, position, arith, Option}
use Rattle.std.specs.Option.{unwrap_or}
use Rattle.std.specs.List.{position_or_len}
use Rattle.std.proofs.lemmas.Grind.{common_steps}
use Rattle.std.proofs.lemmas.Bool.Decides.{nat_tests}
use Rattle.std.proofs.lemmas.List.Sums.{fails_before_first, passes_at_first}
use Rattle.std.proofs.lemmas.List.{get_or-take, get_or-drop}

first_most : (p : ℕ → Bool) (s : List ℕ) → position_or_len p s ≤ length s
first_most p [] = omega arith
first_most p (x ∷ s) = let m = first_most p s in grind (arith, nat_tests)

unwrapped : (p : ℕ → Bool) (s : List ℕ) → unwrap_or (position p s) (length s) ≡ position_or_len p s
unwrapped p s = let m = first_most p s in grind (arith, nat_tests, common_steps)

-- where none passes, as many as there are
module _ (p : ℕ → Bool) (s : List ℕ) {o : Option ℕ} {r : ℕ} (e : o ≡ position p s) (g : r ≡ unwrap_or o (length s)) where
  pub first_is : r ≡ position_or_len p s
  first_is = g ∙ rw e (unwrapped p s)

  pub first_within : r ≤ length s
  first_within = rw first_is (first_most p s)

-- of a part of a text
module _ (s : List ℕ) {from end : ℕ} (l : from ≤ end) (m : end ≤ length s) where
  pub part_length : length (take (end - from) (drop from s)) ≡ end - from
  part_length = rw (length-take, length-drop) (omega arith)

  part_at : (k : ℕ) → k < end - from → get_or (take (end - from) (drop from s)) k 0 ≡ get_or s (from + k) 0
  part_at k h = get_or-take (end - from) (drop from s) k 0 h ∙ get_or-drop from s k 0

  module _ (p : ℕ → Bool) {r : ℕ} (e : r ≡ position_or_len p (take (end - from) (drop from s))) where
    pub fails_before : (k : ℕ) → from ≤ k → k < from + r → k < end → p (get_or s k 0) ≡ false
    fails_before k h i j =
        let z : from + (k - from) ≡ k = omega arith in
        let q : k - from < end - from = omega arith in
        rw (part_at (k - from) q, z) at (fails_before_first p (take (end - from) (drop from s)) (k - from) 0 (rw (← e) (omega arith)))

    pub passes_at : from + r < end → p (get_or s (from + r) 0) ≡ true
    passes_at h =
        let q : r < end - from = omega arith in
        let i : r < length (take (end - from) (drop from s)) = rw part_length q in
        rw (← e, part_at r q) at (passes_at_first p (take (end - from) (drop from s)) 0 (rw e at i))
