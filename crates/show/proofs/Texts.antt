-- Texts in hex and with escapes, a byte at a time.
use mathlib.Core.Path.{◌≡◌, refl, ap}
use Prim.Native.Nat.{ℕ, suc, ◌+◌, ◌≤◌, ◌<◌}
use mathlib.Core.List.{List, [], ◌∷◌, ◌++◌}
use mathlib.Core.Bool.{Bool, true, false, not, ◌&&◌, cond}
use native.Mathlib.Omega.{arith}
use native.Mathlib.Numerals.{add-one}
use lib.ListN.{length, get_or, drop}
use lib.Dec.{leb, eqb}
use borrow.Author.Tests.{le-leb, lt-leb, ne_eqb}
use lib.Seq.{drop-cons, drop-length}
use Rattle.rules.specs.Bytes.{ascii}
use Rattle.rules.specs.Show.{hex, is_plain, shown, shown_field}
use Rattle.rules.proofs.Stored.Parts.{none_empty, some_empty}
use Rattle.show.specs.Lays.{hex_byte, shown_byte}

pub hex_next : (s : List ℕ) (k : ℕ) → k < length s → hex (drop k s) ≡ hex_byte (get_or s k 0) ++ hex (drop (k + 1) s)
unfolding hex
hex_next s k h = rw (add-one k, drop-cons s k 0 h)

pub shown_cons : (c : ℕ) (s : List ℕ) → shown (c ∷ s) ≡ shown_byte c ++ shown s
unfolding shown
shown_cons c s = by (is_plain c) (ascii "\\" ++ hex (c ∷ [])) (shown s)
  where
    by : (b : Bool) (v u : List ℕ) → cond b (c ∷ u) (v ++ u) ≡ cond b (c ∷ []) v ++ u
    by true v u = refl
    by false v u = refl

pub shown_next : (s : List ℕ) (k : ℕ) → k < length s → shown (drop k s) ≡ shown_byte (get_or s k 0) ++ shown (drop (k + 1) s)
shown_next s k h = rw (add-one k, drop-cons s k 0 h) (shown_cons (get_or s k 0) (drop (suc k) s))

-- the end of a loop over bytes
drop_all : (s : List ℕ) (k : ℕ) → k ≤ length s → length s ≤ k → drop k s ≡ []
drop_all s k h l = let e : k ≡ length s = omega arith in rw e (drop-length s)

pub hex_done : (s : List ℕ) (k : ℕ) → k ≤ length s → length s ≤ k → hex (drop k s) ≡ []
unfolding hex
hex_done s k h l = ap hex (drop_all s k h l)

pub shown_done : (s : List ℕ) (k : ℕ) → k ≤ length s → length s ≤ k → shown (drop k s) ≡ []
unfolding shown
shown_done s k h l = ap shown (drop_all s k h l)

-- ---- a byte as it is shown, by whether it is plain

module _ (c : ℕ) {b : Bool} (h : b ≡ is_plain c) where
  pub byte_plain : b ≡ true → c ∷ [] ≡ shown_byte c
  byte_plain t = rw (← h, t)

  pub byte_escaped : b ≡ false → 0x5c ∷ hex_byte c ≡ shown_byte c
  unfolding ascii hex
  byte_escaped t = rw (← h, t)

module _ (c : ℕ) where
  pub plain_low : c < 0x21 → false ≡ is_plain c
  plain_low h = rw (lt-leb 0x21 c h)

  pub plain_high : 0x7e < c → false ≡ is_plain c
  plain_high h = rw (lt-leb c 0x7e h) (by (leb 0x21 c) _)
    where
      by : (a b : Bool) → false ≡ (a && false) && b
      by true b = refl
      by false b = refl

  pub plain_backslash : c ≡ 0x5c → false ≡ is_plain c
  plain_backslash h = rw h

  pub plain_other : 0x21 ≤ c → c ≤ 0x7e → (c ≡ 0x5c → ⊥) → not (eqb c 0x3a) ≡ is_plain c
  plain_other h l n = rw (le-leb 0x21 c h, le-leb c 0x7e l, ne_eqb c 0x5c n)

-- ---- a field, by whether it is empty

pub field_none : (f : List ℕ) → length f ≡ 0 → ascii "\\" ≡ shown_field f
field_none f h = rw (none_empty f h)

pub field_some : (f : List ℕ) → (length f ≡ 0 → ⊥) → shown f ≡ shown_field f
field_some f h = rw (some_empty f h)
