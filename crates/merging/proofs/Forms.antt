-- What checked bytes are: their query is one alone, and an outer boost and what it holds are read off. Kinds by their tags.
use mathlib.Core.Path.{◌≡◌, refl, sym, ap, ◌∙◌, subst}
use Prim.Native.Nat.{ℕ, ◌≤◌, ◌<◌}
use mathlib.Core.List.{List}
use mathlib.Core.Bool.{Bool, true, false}
use native.Mathlib.Omega.{arith}
use lib.ListN.{length, take, drop}
use lib.Dec.{eqb}
use borrow.Author.Tests.{eqb-true, eqb-false}
use Rattle.rules.specs.Bytes.{of_big, tag_of, body_of, rest_of}
use Rattle.rules.specs.Query.{Kind, Query, term, phrase, boolean, boost, constant_score, match_all, match_none, range, whole, float, Clauses, none}
use Rattle.rules.specs.Stored.{kind_tag, encode, Valid}
use Rattle.rules.specs.Checked.{Is, Are}
use Rattle.rules.specs.Reading.{kind_of}
use Rattle.rules.specs.Floats.{widened}
use Rattle.rules.specs.Rewriting.{base, boost_of}
use Rattle.rules.proofs.Stored.Bigs.{read_big}
use Rattle.rules.proofs.Stored.Parts.{more_empty, less_empty}
use Rattle.rules.proofs.Stored.Tags.{kind_back}
use Rattle.rules.proofs.Stored.Inverse.{boost_below}
use Rattle.rules.proofs.Stored.Equal.{encode_injective, encodes_injective}
use Rattle.rules.proofs.Stored.Sizes.{length_encode}
use Rattle.rules.proofs.Stored.Views.{Front, front_of, no_front}
use Rattle.rules.proofs.Rewriting.Boosts.{widened_one}

-- ---- one query, one row of clauses

pub is_same_lem : {s : List ℕ} {p q : Query} → Is s p → Is s q → p ≡ q
is_same_lem {p = p} {q = q} i j = encode_injective p q i.valid j.valid (i.form ∙ sym j.form)

pub are_same : {s : List ℕ} {cs ds : Clauses} → Are s cs → Are s ds → cs ≡ ds
are_same {cs = cs} {ds = ds} i j = encodes_injective cs ds i.valid j.valid (i.form ∙ sym j.form)

pub long_of : {s : List ℕ} {q : Query} → Is s q → 3 ≤ length s
long_of {s} {q} i = omega (arith, length_encode q, ap length i.form)

-- ---- the first clause

-- what `is_empty` tells
pub some_left : (s : List ℕ) (b : Bool) → b ≡ eqb (length s) 0 → b ≡ false → 0 < length s
some_left s b e f = let n = eqb-false (length s) 0 (sym e ∙ f) in omega arith

pub none_left : (s : List ℕ) (b : Bool) → b ≡ eqb (length s) 0 → b ≡ true → length s ≤ 0
none_left s b e t = let z = eqb-true (length s) 0 (sym e ∙ t) in omega arith

pub front : {s : List ℕ} {cs : Clauses} → Are s cs → 0 < length s → Front s cs
front {s} {cs} a h = front_of s cs (more_empty s h) a.form a.valid

pub no_clause : {s : List ℕ} {cs : Clauses} → Are s cs → length s ≤ 0 → cs ≡ none
no_clause {s} {cs} a h = no_front s cs (less_empty s h) a.form

pub front_is : {s : List ℕ} {cs : Clauses} (f : Front s cs) → Is (body_of s) f.query
front_is f = record { valid = f.valid; form = f.form }

pub front_are : {s : List ℕ} {cs : Clauses} (f : Front s cs) → Are (rest_of s) f.others
front_are f = record { valid = f.valid_others; form = f.form_others }

-- ---- an outer boost

pub record Boosted (s : List ℕ) (x : Query) : Type 0 where
  pub seven : 7 ≤ length s
  pub inner : Is (drop 7 s) (base x)
  pub bits : widened (of_big (take 4 (drop 3 s))) ≡ boost_of x

pub is_boost_lem : (s : List ℕ) (x : Query) → Is s x → tag_of s ≡ 4 → Boosted s x
unfolding encode Valid base boost_of
is_boost_lem s x i h = subst (λ (l : List ℕ). Boosted l x) i.form (go x i.valid (ap tag_of i.form ∙ h))
  where
    go : (x : Query) → Valid x → tag_of (encode x) ≡ 4 → Boosted (encode x) x
    go (term f t) v h = absurd (omega arith)
    go (phrase f ws) v h = absurd (omega arith)
    go (boolean m cs) v h = absurd (omega arith)
    go (boost b q) v h = record {
      seven = omega arith;
      inner = record { valid = v.1; form = refl };
      bits = ap widened (read_big 4 b (boost_below b v.0));
    }
    go (constant_score q) v h = absurd (omega arith)
    go match_all v h = absurd (omega arith)
    go match_none v h = absurd (omega arith)
    go (range whole f l u) v h = absurd (omega arith)
    go (range float f l u) v h = absurd (omega arith)

pub no_boost : (s : List ℕ) (x : Query) → Is s x → (tag_of s ≡ 4 → ⊥) → Is s (base x) × (widened 0x3f80_0000 ≡ boost_of x)
unfolding encode base boost_of
no_boost s x i h = go x i (λ z. h (sym (ap tag_of i.form) ∙ z))
  where
    go : (x : Query) → Is s x → (tag_of (encode x) ≡ 4 → ⊥) → Is s (base x) × (widened 0x3f80_0000 ≡ boost_of x)
    go (term f t) i h = (i, widened_one)
    go (phrase f ws) i h = (i, widened_one)
    go (boolean m cs) i h = (i, widened_one)
    go (boost b q) i h = absurd (h refl)
    go (constant_score q) i h = (i, widened_one)
    go match_all i h = (i, widened_one)
    go match_none i h = (i, widened_one)
    go (range n f l u) i h = (i, widened_one)

-- ---- kinds, by their tags

pub kind_is : (j : Kind) (k : ℕ) → kind_tag j ≡ k → j ≡ kind_of k
kind_is j k e = sym (kind_back j) ∙ ap kind_of e

pub same_kind : (i l : Kind) → kind_tag i ≡ kind_tag l → i ≡ l
same_kind i l e = sym (kind_back i) ∙ ap kind_of e ∙ kind_back l
