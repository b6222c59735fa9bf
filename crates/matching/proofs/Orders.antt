-- The two orders of ranges: the signed one by turning the top bit, and the IEEE one, in which a NaN is below and above nothing.
use mathlib.Core.Path.{◌≡◌, refl, sym, ap, ◌∙◌, subst}
use Prim.Native.Nat.{ℕ, suc, ◌-◌, ◌≤◌, ◌<◌, ◌%◌}
use mathlib.Core.Bool.{Bool, true, false, not}
use native.Mathlib.Omega.{arith}
use native.Mathlib.Decide.{dec_lt}
use lib.Dec.{T, leb, ltb}
use lib.IntN.{ℤ, pos, negsuc}
use lib.Signed.{le_z, lt_z}
use lib.Ieee.{Float, nan, inf, fin, binary64, of_bits, is_nan, nan_bits, le, lt, eq}
use lib.Ieee.Bits.{nan_bits_is, nan_bits_above}
use mir.Syntax.{w64}
use mir.Val.{to_z}
use borrow.Author.Tests.{leb-true, leb-false, le-leb, lt-leb, lt-ltb, le-ltb}
use Rattle.rules.specs.Query.{float}
use Rattle.rules.proofs.Bools.{clash}
use Rattle.matching.specs.Order.{Turned, ordered}

-- two tests that say the same, or the opposite
leb_same : (x y z w : ℕ) → (x ≤ y → z ≤ w) → (y < x → w < z) → leb x y ≡ leb z w
leb_same x y z w f g = go (leb x y) refl
  where
    go : (b : Bool) → leb x y ≡ b → b ≡ leb z w
    go true e = sym (le-leb z w (f (leb-true x y e)))
    go false e = sym (lt-leb z w (g (leb-false x y e)))

ltb_not : (x y : ℕ) → ltb x y ≡ not (leb y x)
ltb_not x y = go (leb y x) refl
  where
    go : (b : Bool) → leb y x ≡ b → ltb x y ≡ not b
    go true e = le-ltb x y (leb-true y x e)
    go false e = lt-ltb x y (leb-false y x e)

-- the strict order is the other, denied from behind
lt_not_le : (x y : ℤ) → lt_z x y ≡ not (le_z y x)
lt_not_le (pos a) (pos b) = ltb_not a b
lt_not_le (pos a) (negsuc b) = refl
lt_not_le (negsuc a) (pos b) = refl
lt_not_le (negsuc a) (negsuc b) = ltb_not b a

-- the signed reading, by the highest bit
low_z : (n : ℕ) → n < 9223372036854775808 → to_z w64 n ≡ pos n
low_z n h = rw (lt-ltb n 9223372036854775808 h)

high_z : (n : ℕ) → 9223372036854775808 ≤ n → to_z w64 n ≡ negsuc (18446744073709551616 - suc n)
high_z n h = rw (le-ltb n 9223372036854775808 h)

module _ (a b r s : ℕ) (ta : Turned a r) (tb : Turned b s) (fa : a < 18446744073709551616) (fb : b < 18446744073709551616) where
  pub turned_le : leb r s ≡ le_z (to_z w64 a) (to_z w64 b)
  turned_le = go (dec_lt a 9223372036854775808) (dec_lt b 9223372036854775808)
    where
      go : Dec (a < 9223372036854775808) → Dec (b < 9223372036854775808) → leb r s ≡ le_z (to_z w64 a) (to_z w64 b)
      go (yes p) (yes q) = let x = ta.0 p in let y = tb.0 q in rw (low_z a p, low_z b q) (leb_same r s a b (λ h. omega arith) (λ h. omega arith))
      go (yes p) (no q) = let k : 9223372036854775808 ≤ b = omega (arith, q) in let x = ta.0 p in let y = tb.1 k in rw (low_z a p, high_z b k) (lt-leb r s (omega arith))
      go (no p) (yes q) = let k : 9223372036854775808 ≤ a = omega (arith, p) in let x = ta.1 k in let y = tb.0 q in rw (high_z a k, low_z b q) (le-leb r s (omega arith))
      go (no p) (no q) = let k : 9223372036854775808 ≤ a = omega (arith, p) in let l : 9223372036854775808 ≤ b = omega (arith, q) in let x = ta.1 k in let y = tb.1 l in
          rw (high_z a k, high_z b l) (leb_same r s (18446744073709551616 - suc b) (18446744073709551616 - suc a) (λ h. omega arith) (λ h. omega arith))

pub turned_lt : (a b r s : ℕ) → Turned a r → Turned b s → a < 18446744073709551616 → b < 18446744073709551616 → ltb r s ≡ lt_z (to_z w64 a) (to_z w64 b)
turned_lt a b r s ta tb fa fb = ltb_not r s ∙ ap not (turned_le b a s r tb ta fb fa) ∙ sym (lt_not_le (to_z w64 a) (to_z w64 b))

-- a NaN is in no order
pub nan_bits_lem : (n : ℕ) → ltb 9218868437227405312 (n % 9223372036854775808) ≡ is_nan (of_bits binary64 n)
nan_bits_lem n = sym (nan_bits_above binary64 n) ∙ nan_bits_is binary64 n

pub no_nan : (n : ℕ) → is_nan (of_bits binary64 n) ≡ false → T (not (nan_bits binary64 n))
no_nan n h = subst (λ (u : Bool). T (not u)) (sym (nan_bits_is binary64 n ∙ h)) tt

nan_is : (x : Float) → is_nan x ≡ true → x ≡ nan
unfolding is_nan
nan_is nan h = refl
nan_is (inf s) h = clash refl (sym h)
nan_is (fin s m e) h = clash refl (sym h)

nan_above : (x : Float) → (lt x nan ≡ false) × (eq x nan ≡ false)
unfolding lt eq
nan_above nan = (refl, refl)
nan_above (inf s) = (refl, refl)
nan_above (fin s m e) = (refl, refl)

pub nan_left : (strict : Bool) (a b : ℕ) → is_nan (of_bits binary64 a) ≡ true → false ≡ ordered strict float a b
unfolding lt eq le
nan_left true a b h = rw (nan_is (of_bits binary64 a) h)
nan_left false a b h = rw (nan_is (of_bits binary64 a) h)

pub nan_right : (strict : Bool) (a b : ℕ) → is_nan (of_bits binary64 b) ≡ true → false ≡ ordered strict float a b
unfolding le
nan_right true a b h = rw (nan_is (of_bits binary64 b) h, (nan_above (of_bits binary64 a)).0)
nan_right false a b h = rw (nan_is (of_bits binary64 b) h, (nan_above (of_bits binary64 a)).0, (nan_above (of_bits binary64 a)).1)
