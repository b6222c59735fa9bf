-- The cells of a table of signatures: four to a byte. One of them grows, and the others stay as they are.
use mathlib.Core.Path.{◌≡◌, refl, sym, ap, ◌∙◌}
use Prim.Native.Nat.{ℕ, zero, suc, ◌+◌, ◌*◌, ◌/◌, ◌%◌, ◌^◌, ◌≤◌, ◌<◌}
use mathlib.Core.List.{List, []}
use mathlib.Core.Bool.{Bool, true, false}
use native.Mathlib.Omega.{arith}
use lib.ListN.{length, get_or, set, length-set}
use lib.Seq.{get_or-set_same, get_or-set_other}
use lib.Dec.{eqb}
use borrow.Author.Tests.{eqb-true, eq-eqb, lt-ltb, le-ltb}
use Rattle.rules.proofs.Bools.{clash}
use Rattle.merging.specs.Signatures.{table_bytes, signatures, cell_in, cell_of, one_more, OneMore}

-- ---- the four cells of a byte

abbrev unit : ℕ → ℕ
unit zero = 1
unit (suc zero) = 4
unit (suc (suc zero)) = 16
unit (suc (suc (suc j))) = 64

-- a law of each of the four
four : (P : ℕ → Type 0) → P 0 → P 1 → P 2 → P 3 → (j : ℕ) → j < 4 → P j
four P a b c d zero h = a
four P a b c d (suc zero) h = b
four P a b c d (suc (suc zero)) h = c
four P a b c d (suc (suc (suc zero))) h = d
four P a b c d (suc (suc (suc (suc j)))) h = absurd (omega arith)

cell_is : (x j : ℕ) → j < 4 → cell_in x j ≡ x / unit j % 4
unfolding cell_in
cell_is x = four (λ j. x / 2 ^ (j * 2) % 4 ≡ x / unit j % 4) refl refl refl refl

unit_is : (j : ℕ) → j < 4 → 1 * 2 ^ (j * 2) % 256 ≡ unit j
unit_is = four (λ j. 1 * 2 ^ (j * 2) % 256 ≡ unit j) refl refl refl refl

-- as the code has it
pub turned : (g t : ℕ) → t ≡ g % 4 * 2 → 1 * 2 ^ t % 256 ≡ unit (g % 4)
turned g t e = ap (λ (i : ℕ). 1 * 2 ^ i % 256) e ∙ unit_is (g % 4) (omega arith)

unit_fits : (x : ℕ) → x < 256 → (j : ℕ) → j < 4 → x / unit j % 4 < 2 → x + unit j < 256
unit_fits x f = four (λ j. x / unit j % 4 < 2 → x + unit j < 256) (λ h. omega arith) (λ h. omega arith) (λ h. omega arith) (λ h. omega arith)

grown : (x : ℕ) → x < 256 → (j : ℕ) → j < 4 → x / unit j % 4 < 2 → (x + unit j) / unit j % 4 ≡ suc (x / unit j % 4)
grown x f = four (λ j. x / unit j % 4 < 2 → (x + unit j) / unit j % 4 ≡ suc (x / unit j % 4)) (λ h. omega arith) (λ h. omega arith) (λ h. omega arith) (λ h. omega arith)

stayed_in : (x : ℕ) → x < 256 → (j : ℕ) → j < 4 → x / unit j % 4 < 2 → (i : ℕ) → i < 4 → (i ≡ j → ⊥) → (x + unit j) / unit i % 4 ≡ x / unit i % 4
stayed_in x f =
    four (λ j. x / unit j % 4 < 2 → (i : ℕ) → i < 4 → (i ≡ j → ⊥) → (x + unit j) / unit i % 4 ≡ x / unit i % 4)
    (λ h. four (λ i. (i ≡ 0 → ⊥) → (x + 1) / unit i % 4 ≡ x / unit i % 4) (λ n. absurd (n refl)) (λ n. omega arith) (λ n. omega arith) (λ n. omega arith))
    (λ h. four (λ i. (i ≡ 1 → ⊥) → (x + 4) / unit i % 4 ≡ x / unit i % 4) (λ n. omega arith) (λ n. absurd (n refl)) (λ n. omega arith) (λ n. omega arith))
    (λ h. four (λ i. (i ≡ 2 → ⊥) → (x + 16) / unit i % 4 ≡ x / unit i % 4) (λ n. omega arith) (λ n. omega arith) (λ n. absurd (n refl)) (λ n. omega arith))
    (λ h. four (λ i. (i ≡ 3 → ⊥) → (x + 64) / unit i % 4 ≡ x / unit i % 4) (λ n. omega arith) (λ n. omega arith) (λ n. omega arith) (λ n. absurd (n refl)))

-- an empty table has nothing
pub empty : (g : ℕ) → cell_of [] g ≡ 1 → ⊥
empty g h = omega (arith, h, cell_is 0 (g % 4) (omega arith), four (λ j. 0 / unit j % 4 ≡ 0) refl refl refl refl (g % 4) (omega arith))

-- ---- one of them grows

module _ (table : List ℕ) (g : ℕ) where
  pub full : 2 ≤ cell_of table g → OneMore g table table
  unfolding one_more
  full h = record { long = refl; here = rw (le-ltb (cell_of table g) 2 h); others = λ i n. refl }

  module _ (long : length table ≡ table_bytes) (small : g < signatures) (byte : get_or table (g / 4) 0 < 256) (room : cell_of table g < 2) where
    here_room : get_or table (g / 4) 0 / unit (g % 4) % 4 < 2
    here_room = rw (sym (cell_is (get_or table (g / 4) 0) (g % 4) (omega arith))) room

    pub more_fits : (y : ℕ) → y ≡ unit (g % 4) → get_or table (g / 4) 0 + y < 256
    more_fits y e = rw e (unit_fits (get_or table (g / 4) 0) byte (g % 4) (omega arith) here_room)

    pub more : (v : ℕ) → v ≡ get_or table (g / 4) 0 + unit (g % 4) → OneMore g table (set table (g / 4) v)
    unfolding one_more
    more v e = record {
      long = length-set table (g / 4) v;
      here =
          ap (λ (y : ℕ). cell_in y (g % 4)) new ∙ cell_is (get_or table (g / 4) 0 + unit (g % 4)) (g % 4) (omega arith) ∙ grown (get_or table (g / 4) 0) byte (g % 4) (omega arith) here_room
          ∙ ap suc (sym (cell_is (get_or table (g / 4) 0) (g % 4) (omega arith))) ∙ sym (rw (lt-ltb (cell_of table g) 2 room));
      others = λ i n. go i n (eqb (i / 4) (g / 4)) refl;
    }
      where
        new : get_or (set table (g / 4) v) (g / 4) 0 ≡ get_or table (g / 4) 0 + unit (g % 4)
        new = get_or-set_same table (g / 4) v 0 (omega arith) ∙ e

        go : (i : ℕ) → (i ≡ g → ⊥) → (b : Bool) → eqb (i / 4) (g / 4) ≡ b → cell_of (set table (g / 4) v) i ≡ cell_of table i
        go i n true b =
            let s = eqb-true (i / 4) (g / 4) b in
            let d : i % 4 ≡ g % 4 → ⊥ = λ z. n (omega arith) in
            let t : get_or table (i / 4) 0 ≡ get_or table (g / 4) 0 = ap (λ (y : ℕ). get_or table y 0) s in
            ap (λ (y : ℕ). cell_in (get_or (set table (g / 4) v) y 0) (i % 4)) s ∙ ap (λ (y : ℕ). cell_in y (i % 4)) new
            ∙ cell_is (get_or table (g / 4) 0 + unit (g % 4)) (i % 4) (omega arith) ∙ stayed_in (get_or table (g / 4) 0) byte (g % 4) (omega arith) here_room (i % 4) (omega arith) d
            ∙ sym (cell_is (get_or table (g / 4) 0) (i % 4) (omega arith)) ∙ ap (λ (y : ℕ). cell_in y (i % 4)) (sym t)
        go i n false b =
            let d : i / 4 ≡ g / 4 → ⊥ = λ z. clash (eq-eqb (i / 4) (g / 4) z) b in
            ap (λ (y : ℕ). cell_in y (i % 4)) (get_or-set_other table (g / 4) (i / 4) v 0 d)
