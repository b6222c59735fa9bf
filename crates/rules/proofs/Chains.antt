-- Tests in a row, as code goes through them: a call says r, `!r` is tested, and the row ends there or goes on. a is what the call says r is.
use mathlib.Core.Path.{◌≡◌, refl, sym, ap, ◌∙◌}
use Prim.Native.Nat.{ℕ, ◌<◌, ◌≤◌}
use mathlib.Core.List.{List, [], ◌∷◌}
use mathlib.Core.Bool.{Bool, true, false, not, ◌&&◌}
use native.Mathlib.Omega.{arith}
use lib.ListN.{length}
use lib.Dec.{leb, eqb}
use borrow.Author.Tests.{lt-leb, le-leb, ne_eqb}
use Rattle.rules.specs.Bytes.{is_empty}
use Rattle.rules.proofs.Bools.{told_no, told_yes, and_no_l}

-- a test that holds leaves the rest of the row
pub on : {a b x : Bool} → a ≡ true → x ≡ b → x ≡ (a && b)
on h e = e ∙ rw h

pub off : {a : Bool} (b : Bool) → a ≡ false → false ≡ (a && b)
off b h = sym (and_no_l b h)

-- the same of a call's flag
pub goes_on : {r a b x : Bool} → r ≡ a → not r ≡ false → x ≡ b → x ≡ (a && b)
goes_on e h f = on (told_yes e h) f

pub ends : {r a : Bool} (b : Bool) → r ≡ a → not r ≡ true → false ≡ (a && b)
ends b e h = off b (told_no e h)

-- ---- ends of a row

-- nothing is left, where l, which code has, is m
pub nothing : (l : List ℕ) {m : List ℕ} → l ≡ m → eqb (length l) 0 ≡ is_empty m
nothing l e = go l ∙ ap is_empty e
  where
    go : (l : List ℕ) → eqb (length l) 0 ≡ is_empty l
    go [] = refl
    go (x ∷ l) = ne_eqb (length (x ∷ l)) 0 (λ z. omega arith)

-- a number in a span, tested from below and then from above
pub below : (a t b : ℕ) → t < a → false ≡ (leb a t && leb t b)
below a t b h = off (leb t b) (lt-leb a t h)

pub from : (a t b : ℕ) → a ≤ t → leb t b ≡ (leb a t && leb t b)
from a t b h = on (le-leb a t h) refl
