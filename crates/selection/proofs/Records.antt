-- The records of a list, gone through one after the other.
use mathlib.Core.Path.{◌≡◌, refl, sym, ap, ◌∙◌}
use mathlib.Core.Logic.{◌⊎◌, inl, inr}
use Prim.Native.Nat.{ℕ, ◌+◌, ◌≤◌, ◌<◌}
use mathlib.Core.List.{List, [], ◌∷◌}
use mathlib.Core.Bool.{true, false}
use native.Mathlib.Omega.{arith}
use lib.ListN.{length, get_or, drop, length-drop}
use lib.Seq.{drop-drop, get_or-drop}
use Rattle.rules.specs.Bytes.{is_empty, body_of, rest_of, every, each}
use Rattle.rules.specs.Lists.{Entry, is_record, entry_of, record_of}
use Rattle.rules.proofs.Bools.{clash, split}
use Rattle.rules.proofs.Stored.Parts.{more_empty}
use Rattle.rules.proofs.Stored.Rows.{others, each_done, each_next}

some_long : (t : List ℕ) → is_empty t ≡ false → 0 < length t
some_long [] e = clash refl e
some_long (x ∷ t) e = omega arith

none_long : (t : List ℕ) → is_empty t ≡ true → length t ≤ 0
none_long [] e = omega arith
none_long (x ∷ t) e = clash e refl

-- those from i on are in t
pub record From (l t : List ℕ) (i : ℕ) : Type 0 where
  pub records : every is_record t ≡ true
  pub left : i + length t ≤ length l
  pub these : drop i (each record_of l) ≡ each record_of t

pub from_start : {l : List ℕ} → every is_record l ≡ true → From l l 0
from_start h = record { records = h; left = omega arith; these = refl }

module _ {l t : List ℕ} {i : ℕ} (F : From l t i) where
  module _ (more : 0 < length t) where
    split_first : drop i (each record_of l) ≡ record_of t ∷ each record_of (rest_of t)
    split_first = F.these ∙ each_next record_of t (more_empty t more)

    pub from_there : i < length (each record_of l)
    from_there = let k = ap length split_first in omega (arith, length-drop i (each record_of l))

    pub from_record : {b : List ℕ} → b ≡ body_of t → get_or (each record_of l) i [] ≡ each entry_of b
    unfolding record_of
    from_record e =
        let z : i ≡ i + 0 = omega arith in
        ap (λ (k : ℕ). get_or (each record_of l) k []) z ∙ sym (get_or-drop i (each record_of l) 0 []) ∙ ap (λ (rs : List (List Entry)). get_or rs 0 []) split_first
        ∙ ap (each entry_of) (sym e)

    pub from_next : {u : List ℕ} → u ≡ rest_of t → length u < length t → From l u (i + 1)
    from_next {u} e s = record {
      records = rw e (others is_record t (more_empty t more) F.records);
      left = let k = F.left in omega arith;
      these = sym (drop-drop 1 i (each record_of l)) ∙ ap (drop 1) split_first ∙ ap (each record_of) (sym e);
    }

  pub from_more : i < length (each record_of l) → 0 < length t
  from_more h = go (split (is_empty t))
    where
      go : (is_empty t ≡ true) ⊎ (is_empty t ≡ false) → 0 < length t
      go (inl e) = absurd (let k = ap length (F.these ∙ each_done record_of t e) in omega (arith, length-drop i (each record_of l)))
      go (inr e) = some_long t e

  pub from_over : length (each record_of l) ≤ i → length t ≤ 0
  from_over h = go (split (is_empty t))
    where
      go : (is_empty t ≡ true) ⊎ (is_empty t ≡ false) → length t ≤ 0
      go (inl e) = none_long t e
      go (inr e) = absurd (let k = ap length (F.these ∙ each_next record_of t e) in omega (arith, length-drop i (each record_of l)))
