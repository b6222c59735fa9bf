-- Two divisions one after the other are one division: its floor, and whether it leaves a remainder. Assumes nothing.
use mathlib.Core.Path.{◌≡◌, refl, ap, ◌∙◌}
use mathlib.Core.Logic.{◌⊎◌, inl, inr, ◌↔◌}
use mathlib.Core.Bool.{true, false, not, ◌||◌}
use Prim.Native.Nat.{ℕ, zero, suc, ◌+◌, ◌*◌, ◌/◌, ◌%◌, ◌<◌}
use native.Mathlib.Nat.{mul_comm, zero-mul, div-div-eq-div-mul, suc-mul, mul-mod_left, mul-div_cancel}
use native.Mathlib.Omega.{arith}
use lib.Arith.{mod-mul}
use lib.Dec.{eqb, eqb-suc-zero}
use Rattle.boost.specs.Top.{left}

pub floor_floor : (a b c : ℕ) → a / b / c ≡ a / (b * c)
floor_floor a b c = div-div-eq-div-mul a b c

-- the remainder of both, by the two
pub rest_rest : (a b c : ℕ) → 0 < b → 0 < c → a % (b * c) ≡ a / b % c * b + a % b
rest_rest a b c B C = ap (λ (x : ℕ). a % x) (mul_comm b c) ∙ mod-mul a C B

pub exact_exact : (a b c : ℕ) → 0 < b → 0 < c → (a % (b * c) ≡ 0) ↔ ((a % b ≡ 0) × (a / b % c ≡ 0))
exact_exact a b c B C = (apart, together)
  where
    none : (s : ℕ) → s * b ≡ 0 → s ≡ 0
    none zero e = refl
    none (suc s) e = absurd (omega (arith, suc-mul s b))

    apart : a % (b * c) ≡ 0 → (a % b ≡ 0) × (a / b % c ≡ 0)
    apart e = (omega (arith, rest_rest a b c B C), none (a / b % c) (omega (arith, rest_rest a b c B C)))

    together : (a % b ≡ 0) × (a / b % c ≡ 0) → a % (b * c) ≡ 0
    together h = rest_rest a b c B C ∙ rw (h.0, h.1, zero-mul b) (omega arith)

-- ---- the bit
abbrev pub Left : ℕ → ℕ → Type 0
Left x den = ((left x den ≡ true) × (0 < x % den)) ⊎ ((left x den ≡ false) × (x % den ≡ 0))

pub left_or_not : (x den : ℕ) → Left x den
left_or_not x den = go (x % den)
  where
    go : (r : ℕ) → ((not (eqb r 0) ≡ true) × (0 < r)) ⊎ ((not (eqb r 0) ≡ false) × (r ≡ 0))
    go zero = inr (refl, refl)
    go (suc r) = inl (ap not (eqb-suc-zero r), omega arith)

pub left_left : (a b c : ℕ) → 0 < b → 0 < c → left a (b * c) ≡ left a b || left (a / b) c
left_left a b c B C = go (left_or_not a (b * c)) (left_or_not a b) (left_or_not (a / b) c)
  where
    go : Left a (b * c) → Left a b → Left (a / b) c → left a (b * c) ≡ left a b || left (a / b) c
    go (inl h) (inl k) l = rw (h.0, k.0)
    go (inl h) (inr k) (inl l) = rw (h.0, k.0, l.0)
    go (inl h) (inr k) (inr l) = let z = (exact_exact a b c B C).1 (k.1, l.1) in absurd (omega arith)
    go (inr h) k l = let z = (exact_exact a b c B C).0 h.1 in none k l z.0 z.1
      where
        none : Left a b → Left (a / b) c → a % b ≡ 0 → a / b % c ≡ 0 → left a (b * c) ≡ left a b || left (a / b) c
        none (inl k) l e f = absurd (omega arith)
        none (inr k) (inl l) e f = absurd (omega arith)
        none (inr k) (inr l) e f = rw (h.0, k.0, l.0)

pub left_scale : (y z w : ℕ) → 0 < z → 0 < w → left (y * w) (z * w) ≡ left y z
left_scale y z w Z W = ap (λ (x : ℕ). left (y * w) x) (mul_comm z w) ∙ left_left (y * w) w z W Z ∙ rw (mul-mod_left y w, mul-div_cancel y W)
