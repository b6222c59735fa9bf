-- What the decisions on one token or on numbers alone come to, case by case. Assumes nothing.
use mathlib.Core.Path.{◌≡◌, refl, sym, ◌∙◌}
use mathlib.Core.Bool.{false}
use Prim.Native.Nat.{ℕ, ◌+◌}
use native.Mathlib.Omega.{arith}
use lib.ListN.{length, length-append}
use lib.Dec.{ltb}
use borrow.Author.Tests.{eq-eqb, ne_eqb}
use Rattle.rules.specs.Query.{Kind, must, should, must_not, filter, Query, Clauses, none, clause}
use Rattle.rules.specs.Stored.{kind_tag}
use Rattle.rules.specs.Parsing.{Made, nothing, made, Conjunction, unjoined, joined_by_and, joined_by_or, Modifier, kind_before, kind_after, touched}
use Rattle.rules.proofs.Stored.Sizes.{length_encode}
use Rattle.counted.specs.Kinds.{count_of, last_tag, bytes_of, is_alone, made_length, with_made, Sums}

-- ---- what a conjunction makes of the tag before it

no_tag : (k : Kind) → kind_tag k ≡ 0 → ⊥
no_tag must e = omega arith
no_tag should e = omega arith
no_tag must_not e = omega arith
no_tag filter e = omega arith

module _ (o tag : ℕ) where
  pub before_unjoined : (cs : Clauses) → tag ≡ last_tag cs → tag ≡ last_tag (touched o unjoined cs)
  unfolding touched
  before_unjoined none e = e
  before_unjoined (clause k q cs) e = e

  pub before_first : tag ≡ 0 → (c : Conjunction) (cs : Clauses) → tag ≡ last_tag cs → tag ≡ last_tag (touched o c cs)
  unfolding touched
  before_first et c none e = e
  before_first et c (clause k q cs) e = absurd (no_tag k (sym e ∙ et))

  pub before_not : tag ≡ 0x22 → (c : Conjunction) (cs : Clauses) → tag ≡ last_tag cs → tag ≡ last_tag (touched o c cs)
  unfolding touched
  before_not et c none e = absurd (omega arith)
  before_not et c (clause must q cs) e = absurd (omega arith)
  before_not et c (clause should q cs) e = absurd (omega arith)
  before_not et c (clause must_not q cs) e = et ∙ same c
    where
      same : (j : Conjunction) → 0x22 ≡ kind_tag (kind_before o j must_not)
      same unjoined = refl
      same joined_by_and = refl
      same joined_by_or = refl
  before_not et c (clause filter q cs) e = absurd (omega arith)

  module _ (some : tag ≡ 0 → ⊥) (other : tag ≡ 0x22 → ⊥) where
    pub before_and : (cs : Clauses) → tag ≡ last_tag cs → 0x20 ≡ last_tag (touched o joined_by_and cs)
    unfolding touched
    before_and none e = absurd (some e)
    before_and (clause must q cs) e = refl
    before_and (clause should q cs) e = refl
    before_and (clause must_not q cs) e = absurd (other e)
    before_and (clause filter q cs) e = refl

    pub before_or_and : o ≡ 1 → (cs : Clauses) → tag ≡ last_tag cs → 0x21 ≡ last_tag (touched o joined_by_or cs)
    unfolding touched
    before_or_and eo none e = absurd (some e)
    before_or_and eo (clause must q cs) e = rw (eq-eqb o 1 eo)
    before_or_and eo (clause should q cs) e = refl
    before_or_and eo (clause must_not q cs) e = absurd (other e)
    before_or_and eo (clause filter q cs) e = rw (eq-eqb o 1 eo)

    pub before_or : (o ≡ 1 → ⊥) → (cs : Clauses) → tag ≡ last_tag cs → tag ≡ last_tag (touched o joined_by_or cs)
    unfolding touched
    before_or eo none e = e
    before_or eo (clause must q cs) e = rw (ne_eqb o 1 eo) e
    before_or eo (clause should q cs) e = e
    before_or eo (clause must_not q cs) e = absurd (other e)
    before_or eo (clause filter q cs) e = rw (ne_eqb o 1 eo) e

-- ---- clauses that are kept

pub count_touched : (o : ℕ) (c : Conjunction) (cs : Clauses) → count_of (touched o c cs) ≡ count_of cs
unfolding count_of touched
count_touched o c none = refl
count_touched o c (clause k q cs) = refl

pub length_touched : (o : ℕ) (c : Conjunction) (cs : Clauses) → length (bytes_of (touched o c cs)) ≡ length (bytes_of cs)
unfolding bytes_of touched
length_touched o c none = refl
length_touched o c (clause k q cs) = rw (length-append, length-append)

pub made_some : (q : Query) → 0 ≡ made_length (made q) → ⊥
made_some q e = omega (arith, length_encode q)

module _ (o : ℕ) (c : Conjunction) (m : Modifier) (cs : Clauses) {count tag bytes : ℕ} (s : Sums cs count tag bytes) where
  pub added_nothing : (tag' : ℕ) → tag' ≡ last_tag (touched o c cs) → (q : Made) → 0 ≡ made_length q
      → Sums (with_made o c m cs q) count tag' bytes
  added_nothing tag' et nothing e = record {
    counted = s.counted ∙ sym (count_touched o c cs);
    last = et;
    size = s.size ∙ sym (length_touched o c cs);
  }
  added_nothing tag' et (made q) e = absurd (made_some q e)

  pub added_made : (len tag' : ℕ) → (len ≡ 0 → ⊥) → tag' ≡ kind_tag (kind_after o c m) → (q : Made) → len ≡ made_length q
      → Sums (with_made o c m cs q) (count + 1) tag' (bytes + 3 + len)
  unfolding count_of bytes_of
  added_made len tag' n et nothing e = absurd (n e)
  added_made len tag' n et (made q) e = record {
    counted = let z = s.counted in let y = count_touched o c cs in omega arith;
    last = et;
    size = rw (length-append, length_touched o c cs, ← s.size, ← e) (omega arith);
  }

-- ---- alone

pub alone_one : (tag : ℕ) (cs : Clauses) {count bytes : ℕ} → Sums cs count tag bytes → count ≡ 1 → ltb tag 0x22 ≡ is_alone cs
unfolding count_of
alone_one tag none s e = absurd (let z = s.counted in omega arith)
alone_one tag (clause must q none) s e = rw s.last
alone_one tag (clause should q none) s e = rw s.last
alone_one tag (clause must_not q none) s e = rw s.last
alone_one tag (clause filter q none) s e = rw s.last
alone_one tag (clause must q (clause j p cs)) s e = absurd (let z = s.counted in omega arith)
alone_one tag (clause should q (clause j p cs)) s e = absurd (let z = s.counted in omega arith)
alone_one tag (clause must_not q (clause j p cs)) s e = absurd (let z = s.counted in omega arith)
alone_one tag (clause filter q (clause j p cs)) s e = absurd (let z = s.counted in omega arith)

pub alone_not : (cs : Clauses) {count tag bytes : ℕ} → Sums cs count tag bytes → (count ≡ 1 → ⊥) → false ≡ is_alone cs
unfolding count_of
alone_not none s e = refl
alone_not (clause must q none) s e = absurd (e s.counted)
alone_not (clause should q none) s e = absurd (e s.counted)
alone_not (clause must_not q none) s e = refl
alone_not (clause filter q none) s e = refl
alone_not (clause must q (clause j p cs)) s e = refl
alone_not (clause should q (clause j p cs)) s e = refl
alone_not (clause must_not q (clause j p cs)) s e = refl
alone_not (clause filter q (clause j p cs)) s e = refl
