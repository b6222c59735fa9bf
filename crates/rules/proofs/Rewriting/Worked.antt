-- Worked cases of rewriting, by one computation: what the laws leave open. Section 'One round of rewriting'.
use mathlib.Core.Path.{◌≡◌, refl}
use Prim.Native.Nat.{ℕ, zero, suc}
use mathlib.Core.List.{List, [], ◌∷◌}
use mathlib.Core.Bool.{true}
use Rattle.rules.specs.Bytes.{ascii, all}
use Rattle.rules.specs.Query.{must, should, filter, Query, term, boolean, boost, constant_score, none, clause}
use Rattle.rules.specs.Rewriting.{original, strictly, rewrite_once}
use Rattle.rules.specs.Computing.{computing}
use Rattle.rules.specs.Cases.{Case, becomes, holds}

abbrev a : Query
a = term (ascii "f") (ascii "a")

abbrev b : Query
b = term (ascii "f") (ascii "b")

-- 0.5, 2, 2 ^ -24, and the next number after 1
abbrev half : ℕ
half = 0x3f00_0000

abbrev two : ℕ
two = 0x4000_0000

abbrev tiny : ℕ
tiny = 0x3380_0000

abbrev after_one : ℕ
after_one = 0x3f80_0001

pub worked : List Case
worked =
    -- two halves are 1, and no boost
    becomes original (boolean 0 (clause must (boost half a) (clause must (boost half a) none))) a 3
    -- the sum runs in 64 bits: in 32 it would stay 1
    ∷ becomes original (boolean 0 (clause must a (clause must (boost tiny a) (clause must (boost tiny a) none)))) (boost after_one a) 3
    -- a Filter is dropped when equal to the base of a kept Must, and is compared with its boost
    ∷ becomes original (boolean 0 (clause must (boost two a) (clause filter a none))) (boost two a) 3
    ∷ becomes original (boolean 0 (clause must (boost two a) (clause filter (boost two a) none)))
    (boolean 0 (clause must (boost two a) (clause filter (boost two a) none))) 1
    -- a Must after the Filter does not stand for it, and a Should never does
    ∷ becomes original (boolean 0 (clause filter a (clause must a none))) (boolean 0 (clause filter a (clause must a none))) 1
    ∷ becomes original (boolean 0 (clause should a (clause filter a none))) (boolean 0 (clause should a (clause filter a none))) 1
    -- a Should is dropped under a larger minimum too, and its boost is compared
    ∷ becomes original (boolean 2 (clause should a (clause should b (clause should a none)))) (boolean 2 (clause should a (clause should b none))) 2
    ∷ becomes original (boolean 2 (clause should a (clause should (boost two a) none))) (boolean 2 (clause should a (clause should (boost two a) none))) 1
    -- strict, it is not; under a minimum of 1 it is summed as ever, and a Must is at every minimum
    ∷ becomes strictly (boolean 2 (clause should a (clause should b (clause should a none)))) (boolean 2 (clause should a (clause should b (clause should a none)))) 1
    ∷ becomes strictly (boolean 1 (clause should a (clause should b (clause should a none)))) (boolean 1 (clause should (boost two a) (clause should b none))) 2
    ∷ becomes strictly (boolean 2 (clause must a (clause should b (clause should b (clause must a none)))))
    (boolean 2 (clause must (boost two a) (clause should b (clause should b none)))) 2
    -- a nested boost is one product, and a constant score takes a boost off
    ∷ becomes original (boost two (constant_score (boost two (boost half a)))) (boost two (constant_score a)) 2
    ∷ []

pub worked_cases : all holds worked ≡ true
unfolding computing holds worked
worked_cases = refl

pub boosts : ℕ → Query → Query
boosts zero q = q
boosts (suc n) q = boost two (boosts n q)

-- as deep as the rewriter takes them, in one round
pub nested_boosts : rewrite_once original (boosts 63 a) ≡ boost 0x5f00_0000 a
unfolding computing boosts
nested_boosts = refl
