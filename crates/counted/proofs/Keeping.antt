-- Kept clauses: their bytes in the order of the text, and the query that they make. Assumes nothing.
use mathlib.Core.Path.{◌≡◌, refl, sym, ap, ◌∙◌}
use mathlib.Core.Bool.{true, false}
use Prim.Native.Nat.{ℕ, ◌+◌, ◌-◌}
use mathlib.Core.List.{◌++◌, append_assoc, append-nil}
use native.Mathlib.Omega.{arith}
use lib.ListN.{length}
use Rattle.rules.specs.Bytes.{part}
use Rattle.rules.specs.Query.{Kind, must, should, must_not, filter, Query, boolean, Clauses, none, clause}
use Rattle.rules.specs.Stored.{kind_tag, encode, encodes}
use Rattle.rules.specs.Parsing.{made, in_order_before, query_of}
use Rattle.rules.proofs.Bools.{clash}
use Rattle.rules.proofs.Stored.Sizes.{length_boolean}
use Rattle.counted.specs.Kinds.{is_kept, count_of, bytes_of, is_alone, made_length, Sums}

pub in_order : (ds cs : Clauses) → encodes (in_order_before ds cs) ≡ bytes_of cs ++ encodes ds
unfolding in_order_before encodes bytes_of
in_order ds none = refl
in_order ds (clause k q cs) = in_order (clause k q ds) cs ∙ sym (append_assoc (bytes_of cs) (part (kind_tag k) (encode q)) (encodes ds))

pub all_in_order : (cs : Clauses) → encodes (in_order_before none cs) ≡ bytes_of cs
unfolding encodes
all_in_order cs = in_order none cs ∙ append-nil (bytes_of cs)

-- one that stands for itself
pub alone_is : (cs : Clauses) → is_alone cs ≡ true → (k : Kind) × (q : Query) × (cs ≡ clause k q none) × (query_of cs ≡ made q)
unfolding query_of
alone_is none e = clash refl (sym e)
alone_is (clause must q none) e = (must, q, refl, refl)
alone_is (clause should q none) e = (should, q, refl, refl)
alone_is (clause must_not q none) e = clash refl (sym e)
alone_is (clause filter q none) e = clash refl (sym e)
alone_is (clause must q (clause j p cs)) e = clash refl (sym e)
alone_is (clause should q (clause j p cs)) e = clash refl (sym e)
alone_is (clause must_not q (clause j p cs)) e = clash refl (sym e)
alone_is (clause filter q (clause j p cs)) e = clash refl (sym e)

pub alone_bytes : (k : Kind) (q : Query) → bytes_of (clause k q none) ≡ part (kind_tag k) (encode q)
unfolding bytes_of
alone_bytes k q = refl

pub several_is : (cs : Clauses) → is_kept cs ≡ true → is_alone cs ≡ false → query_of cs ≡ made (boolean 0 (in_order_before none cs))
unfolding query_of in_order_before
several_is none k e = clash k refl
several_is (clause must q none) k e = clash refl e
several_is (clause should q none) k e = clash refl e
several_is (clause must_not q none) k e = refl
several_is (clause filter q none) k e = refl
several_is (clause must q (clause j p cs)) k e = refl
several_is (clause should q (clause j p cs)) k e = refl
several_is (clause must_not q (clause j p cs)) k e = refl
several_is (clause filter q (clause j p cs)) k e = refl

kept_count : (cs : Clauses) → (count_of cs ≡ 0 → ⊥) → is_kept cs ≡ true
unfolding count_of
kept_count none n = absurd (n refl)
kept_count (clause k q cs) n = refl

no_query : 0 ≡ made_length (query_of none)
unfolding query_of
no_query = refl

no_count : (k : Kind) (q : Query) (cs : Clauses) → count_of (clause k q cs) ≡ 0 → ⊥
unfolding count_of
no_count k q cs e = omega arith

module _ (cs : Clauses) {count tag bytes : ℕ} (s : Sums cs count tag bytes) where
  pub length_none : count ≡ 0 → 0 ≡ made_length (query_of cs)
  length_none e = empty cs (sym s.counted ∙ e)
    where
      empty : (cs : Clauses) → count_of cs ≡ 0 → 0 ≡ made_length (query_of cs)
      empty none e = no_query
      empty (clause k q cs) e = absurd (no_count k q cs e)

  pub length_alone : is_alone cs ≡ true → bytes - 3 ≡ made_length (query_of cs)
  length_alone e =
      let a = alone_is cs e in
      let b : length (bytes_of cs) ≡ length (bytes_of (clause a.0 a.1 none)) = ap (λ (c : Clauses). length (bytes_of c)) a.2 in
      let c : length (bytes_of (clause a.0 a.1 none)) ≡ length (part (kind_tag a.0) (encode a.1)) = ap length (alone_bytes a.0 a.1) in
      rw a.3 (omega (arith, s.size))

  pub length_several : (count ≡ 0 → ⊥) → is_alone cs ≡ false → 8 + bytes ≡ made_length (query_of cs)
  length_several n e =
      rw (several_is cs (kept_count cs (λ z. n (s.counted ∙ z))) e)
      (omega (arith, s.size, length_boolean 0 (in_order_before none cs), ap length (all_in_order cs)))
