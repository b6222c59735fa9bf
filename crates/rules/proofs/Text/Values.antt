-- The rules of word boundaries by what stands in a word: letters, digits and `_` hold together, and what joins two letters or two
-- digits does, between them. Each by one test over all values. Assumes nothing.
use mathlib.Core.Path.{◌≡◌, refl, sym, subst}
use mathlib.Core.Bool.{Bool, true, false, not, ◌&&◌, ◌||◌, cond, true≢false}
use mathlib.Core.List.{List, [], ◌∷◌}
use Prim.Native.Nat.{ℕ, zero, suc, ◌<◌}
use native.Mathlib.Nat.{le_of_suc-le-suc, not-suc-le-zero}
use native.Mathlib.Omega.{arith}
use lib.Dec.{T}
use lib.ListN.{length, get_or}
use Rattle.rules.specs.Words.{WordBreak, outside, cr, lf, newline, w_seg_space, a_letter, numeric, extend_num_let, mid_letter, mid_num, mid_num_let, single_quote, other, code, is, is_mid_letters, is_mid_numbers, joins}
use Rattle.rules.specs.InWords.{is_solid, is_inner, bridged}
use Rattle.rules.proofs.Text.Classes.{both_left, both_right, same_flag, same_flag_lem}

-- ---- a test over all values

abbrev thirteen : List WordBreak
thirteen =
    outside ∷ cr ∷ lf ∷ newline ∷ w_seg_space ∷ a_letter ∷ numeric ∷ extend_num_let ∷ mid_letter ∷ mid_num ∷ mid_num_let ∷ single_quote ∷ other ∷ []

abbrev every_of : (WordBreak → Bool) → List WordBreak → Bool
every_of P [] = true
every_of P (v ∷ vs) = P v && every_of P vs

abbrev every_value : (WordBreak → Bool) → Bool
every_value P = every_of P thirteen

of_each : (P : WordBreak → Bool) (vs : List WordBreak) (k : ℕ) → T (every_of P vs) → k < length vs → T (P (get_or vs k other))
of_each P [] k t h = absurd (not-suc-le-zero h)
of_each P (v ∷ vs) zero t h = both_left (P v) (every_of P vs) t
of_each P (v ∷ vs) (suc k) t h = of_each P vs k (both_right (P v) (every_of P vs) t) (le_of_suc-le-suc h)

at_code : (v : WordBreak) → get_or thirteen (code v) other ≡ v
at_code outside = refl
at_code cr = refl
at_code lf = refl
at_code newline = refl
at_code w_seg_space = refl
at_code a_letter = refl
at_code numeric = refl
at_code extend_num_let = refl
at_code mid_letter = refl
at_code mid_num = refl
at_code mid_num_let = refl
at_code single_quote = refl
at_code other = refl

code_most : (v : WordBreak) → code v < 13
code_most outside = omega arith
code_most cr = omega arith
code_most lf = omega arith
code_most newline = omega arith
code_most w_seg_space = omega arith
code_most a_letter = omega arith
code_most numeric = omega arith
code_most extend_num_let = omega arith
code_most mid_letter = omega arith
code_most mid_num = omega arith
code_most mid_num_let = omega arith
code_most single_quote = omega arith
code_most other = omega arith

of_value : (P : WordBreak → Bool) → T (every_value P) → (v : WordBreak) → T (P v)
of_value P t v = subst (λ (w : WordBreak). T (P w)) (at_code v) (of_each P thirteen (code v) t (code_most v))

module _ (P : WordBreak → WordBreak → WordBreak → WordBreak → Bool) where
  abbrev every_four : Bool
  every_four = every_value (λ a. every_value (λ b. every_value (λ c. every_value (λ d. P a b c d))))

  of_four : T every_four → (a b c d : WordBreak) → T (P a b c d)
  of_four t a b c d =
      of_value (λ d. P a b c d)
      (of_value (λ c. every_value (λ d. P a b c d))
      (of_value (λ b. every_value (λ c. every_value (λ d. P a b c d)))
      (of_value (λ a. every_value (λ b. every_value (λ c. every_value (λ d. P a b c d)))) t a) b) c) d

-- where x is true, so is y
abbrev given : Bool → Bool → Bool
given x y = cond x y true

of_given : (x y : Bool) → T (given x y) → x ≡ true → T y
of_given true y t e = t
of_given false y t e = absurd (true≢false (sym e))

-- ---- in a word

-- behind a letter, a digit or `_` a word goes on with another, or over a bridge
inner_test : T (every_four (λ a b c d. given (is_inner b) (same_flag (joins a b c d) (is_inner c || bridged b c d))))
unfolding joins bridged
inner_test = tt

pub inner_joins : (a b c d : WordBreak) → is_inner b ≡ true → joins a b c d ≡ is_inner c || bridged b c d
inner_joins a b c d e = same_flag_lem _ _ (of_given (is_inner b) _ (of_four (λ a b c d. given (is_inner b) (same_flag (joins a b c d) (is_inner c || bridged b c d))) inner_test a b c d) e)

-- before one of them, behind none, a word goes on over a bridge alone
outer_test : T (every_four (λ a b c d. given (not (is_inner b) && is_inner c) (same_flag (joins a b c d) (bridged a b c))))
unfolding joins bridged
outer_test = tt

pub outer_joins : (a b c d : WordBreak) → is_inner b ≡ false → is_inner c ≡ true → joins a b c d ≡ bridged a b c
outer_joins a b c d e f =
    same_flag_lem _ _
    (of_given (not (is_inner b) && is_inner c) _ (of_four (λ a b c d. given (not (is_inner b) && is_inner c) (same_flag (joins a b c d) (bridged a b c))) outer_test a b c d) (rw (e, f)))

-- no bridge begins at a boundary
bridge_test : T (every_four (λ a b c d. given (bridged b c d) (same_flag (joins a b c d) true)))
unfolding joins bridged
bridge_test = tt

pub bridge_joins : (a b c d : WordBreak) → bridged b c d ≡ true → joins a b c d ≡ true
bridge_joins a b c d e =
    same_flag_lem _ _ (of_given (bridged b c d) _ (of_four (λ a b c d. given (bridged b c d) (same_flag (joins a b c d) true)) bridge_test a b c d) e)

-- a bridge ends at a letter or a digit
far_test : T (every_four (λ a b c d. given (bridged b c d) (same_flag (is_inner d) true)))
unfolding bridged
far_test = tt

pub bridge_far : (b c d : WordBreak) → bridged b c d ≡ true → is_inner d ≡ true
bridge_far b c d e =
    same_flag_lem _ _ (of_given (bridged b c d) _ (of_four (λ a b c d. given (bridged b c d) (same_flag (is_inner d) true)) far_test other b c d) e)

-- and begins at one
near_test : T (every_four (λ a b c d. given (bridged b c d) (same_flag (is_solid b) true)))
unfolding bridged
near_test = tt

pub bridge_near : (b c d : WordBreak) → bridged b c d ≡ true → is_solid b ≡ true
bridge_near b c d e =
    same_flag_lem _ _ (of_given (bridged b c d) _ (of_four (λ a b c d. given (bridged b c d) (same_flag (is_solid b) true)) near_test other b c d) e)

-- behind the end
past_test : T (every_four (λ a b c d. not (joins a b outside d)))
unfolding joins bridged
past_test = tt

pub past_joins : (a b d : WordBreak) → joins a b outside d ≡ false
past_joins a b d = told (joins a b outside d) (of_four (λ a b c d. not (joins a b outside d)) past_test a b other d)
  where
    told : (x : Bool) → T (not x) → x ≡ false
    told true t = absurd t
    told false t = refl

-- nor is there one behind it
over_test : T (every_four (λ a b c d. given (bridged a b c) (same_flag (joins a b c d) true)))
unfolding joins bridged
over_test = tt

pub over_joins : (a b c d : WordBreak) → bridged a b c ≡ true → joins a b c d ≡ true
over_joins a b c d e =
    same_flag_lem _ _ (of_given (bridged a b c) _ (of_four (λ a b c d. given (bridged a b c) (same_flag (joins a b c d) true)) over_test a b c d) e)

-- a letter or a digit first
by_test : T (every_four (λ z a b c. same_flag (cond (is a a_letter) (is c a_letter && is_mid_letters b) (is_solid a && (is_solid c && (not (is c a_letter) && is_mid_numbers b)))) (bridged a b c)))
unfolding bridged
by_test = tt

pub bridged_by : (a b c : WordBreak) → cond (is a a_letter) (is c a_letter && is_mid_letters b) (is_solid a && (is_solid c && (not (is c a_letter) && is_mid_numbers b))) ≡ bridged a b c
bridged_by a b c =
    same_flag_lem _ _ (of_four (λ z a b c. same_flag (cond (is a a_letter) (is c a_letter && is_mid_letters b) (is_solid a && (is_solid c && (not (is c a_letter) && is_mid_numbers b)))) (bridged a b c)) by_test other a b c)

-- what joins nothing, and what stands beside nothing
idle_test : T (every_four (λ z a b c. given (not (is_mid_letters b || is_mid_numbers b)) (same_flag (bridged a b c) false)))
unfolding bridged
idle_test = tt

pub nothing_bridged : (a b c : WordBreak) → is_mid_letters b || is_mid_numbers b ≡ false → bridged a b c ≡ false
nothing_bridged a b c e =
    same_flag_lem _ _ (of_given (not (is_mid_letters b || is_mid_numbers b)) _ (of_four (λ z a b c. given (not (is_mid_letters b || is_mid_numbers b)) (same_flag (bridged a b c) false)) idle_test other a b c) (rw e))

edge_test : T (every_four (λ z a b c. same_flag (bridged outside b c) false && same_flag (bridged a b outside) false))
unfolding bridged
edge_test = tt

edges : (a b c : WordBreak) → T (same_flag (bridged outside b c) false && same_flag (bridged a b outside) false)
edges a b c = of_four (λ z a b c. same_flag (bridged outside b c) false && same_flag (bridged a b outside) false) edge_test other a b c

pub no_first : (b c : WordBreak) → bridged outside b c ≡ false
no_first b c = same_flag_lem _ _ (both_left (same_flag (bridged outside b c) false) (same_flag (bridged other b outside) false) (edges other b c))

pub no_last : (a b : WordBreak) → bridged a b outside ≡ false
no_last a b = same_flag_lem _ _ (both_right (same_flag (bridged outside b other) false) (same_flag (bridged a b outside) false) (edges a b other))
