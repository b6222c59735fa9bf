-- A Boolean whose clauses are asked one after the other: each answer keeps what it comes to.
use mathlib.Core.Path.{◌≡◌, refl, sym, ap, ◌∙◌}
use Prim.Native.Nat.{ℕ, ◌+◌, ◌-◌}
use mathlib.Core.List.{List}
use mathlib.Core.Bool.{Bool, true, false, ◌&&◌, ◌||◌, cond, or-false, and_assoc}
use native.Mathlib.Omega.{arith}
use native.Mathlib.Nat.{zero-add}
use lib.Dec.{leb, eqb}
use mathlib.Core.Logic.{⊎_elim}
use borrow.Author.Tests.{eqb-true, ne_eqb, le-leb, leb-true}
use Rattle.rules.specs.Numbers.{must_tag, should_tag, must_not_tag}
use Rattle.rules.specs.Query.{Kind, must, should, must_not, filter, Query, boolean, Clauses, none, clause}
use Rattle.rules.specs.Reading.{kind_of}
use Rattle.rules.specs.Lists.{Entry}
use Rattle.rules.specs.Rewriting.{is_needed}
use Rattle.rules.specs.Matching.{bit, allows, counts_for, any_needed, matches, all_allow, shoulds_true}
use Rattle.rules.proofs.Bools.{alike, and_l, and_r, or_r, either}
use Rattle.matching.specs.declared.level.Level.{Level}
use Rattle.matching.specs.Level.{meets, answered, is_over, carries, after}

-- ---- an answer

-- the tags that are left: a Must or a Filter
data Needed : Kind → Type 0 where
  n_must : Needed must
  n_filter : Needed filter

needed : (k : ℕ) → (k ≡ should_tag → ⊥) → (k ≡ must_not_tag → ⊥) → Needed (kind_of k)
needed k a b = rw (ne_eqb k should_tag a, ne_eqb k must_not_tag b) (go (eqb k must_tag))
  where
    go : (x : Bool) → Needed (cond x must filter)
    go true = n_must
    go false = n_filter

pub needed_allows : (k : ℕ) (y : Bool) → (k ≡ should_tag → ⊥) → (k ≡ must_not_tag → ⊥) → y ≡ allows (kind_of k) y
needed_allows k y a b = go (needed k a b)
  where
    go : {k : Kind} → Needed k → y ≡ allows k y
    go n_must = refl
    go n_filter = refl

-- a level by what its clause's answer makes of it
answered_by : (l : Level) (y : Bool) (a : ℕ) (m : Bool) → l.asked - counts_for (kind_of l.kind) y ≡ a → (l.met || meets (kind_of l.kind) y) ≡ m
    → record { end = l.end; asked = a; met = m; kind = l.kind } ≡ answered l y
answered_by l y a m ea em = rw (ea, em)

module _ (l : Level) where
  pub answered_not : (y : Bool) → l.kind ≡ must_not_tag → l ≡ answered l y
  answered_not y e = answered_by l y l.asked l.met (rw e (omega arith)) (rw e (or-false l.met))

  pub answered_needed : (y : Bool) → (l.kind ≡ should_tag → ⊥) → (l.kind ≡ must_not_tag → ⊥)
      → record { end = l.end; asked = l.asked; met = true; kind = l.kind } ≡ answered l y
  answered_needed y a b = go (needed l.kind a b) refl
    where
      go : {k : Kind} → Needed k → kind_of l.kind ≡ k → record { end = l.end; asked = l.asked; met = true; kind = l.kind } ≡ answered l y
      go n_must e = answered_by l y l.asked true (rw e (omega arith)) (rw e (or_r l.met refl))
      go n_filter e = answered_by l y l.asked true (rw e (omega arith)) (rw e (or_r l.met refl))

  pub answered_no : (y : Bool) → l.kind ≡ should_tag → y ≡ false → l ≡ answered l y
  answered_no y e f = answered_by l y l.asked l.met (rw (e, f) (omega arith)) (rw (e, f) (or-false l.met))

  pub answered_yes : (y : Bool) (a : ℕ) → l.kind ≡ should_tag → y ≡ true → a ≡ l.asked - 1
      → record { end = l.end; asked = a; met = true; kind = l.kind } ≡ answered l y
  answered_yes y a e f h = answered_by l y a true (rw (e, f) (sym h)) (rw (e, f) (or_r l.met refl))

pub over_parts : (l : Level) → is_over l ≡ true → (l.asked ≡ 0) × (l.met ≡ true)
over_parts l h = (let k = leb-true l.asked 0 (and_l (leb l.asked 0) l.met h) in omega arith, and_r (leb l.asked 0) l.met h)

-- ---- the clauses that are left

less_leb : (a c n : ℕ) → leb a (c + n) ≡ leb (a - c) n
less_leb a c n =
    alike (leb a (c + n)) (leb (a - c) n)
    (λ h. let k = leb-true a (c + n) h in le-leb (a - c) n (omega arith))
    (λ h. let k = leb-true (a - c) n h in le-leb a (c + n) (omega arith))

-- at least one Should, or a clause that is needed
some_met : (met x : Bool) (k : Kind) (y : Bool) (n : ℕ)
    → (met || ((is_needed k || x) || leb 1 (counts_for k y + n))) ≡ ((met || meets k y) || (x || leb 1 n))
some_met true x k y n = refl
some_met false x must y n = refl
some_met false x should true n = or_r x (le-leb 1 (1 + n) (omega arith))
some_met false x should false n = ap (λ (m : ℕ). x || leb 1 m) (zero-add n)
some_met false x must_not y n = ap (λ (m : ℕ). x || leb 1 m) (zero-add n)
some_met false x filter y n = refl

module _ (es : List Entry) where
  pub carries_all : (m : ℕ) (cs : Clauses) → matches es (boolean m cs) ≡ carries es m false cs
  unfolding matches carries
  carries_all m cs = refl

  -- a clause: what its query's answer makes of the level
  pub carries_clause : (l : Level) (q : Query) (cs : Clauses)
      → carries es l.asked l.met (clause (kind_of l.kind) q cs) ≡ after es l (matches es q) cs
  unfolding matches carries any_needed
  carries_clause l q cs =
      let k = kind_of l.kind in
      let y = matches es q in
      let n = shoulds_true es cs in
      rw (less_leb l.asked (counts_for k y) n, some_met l.met (any_needed cs) k y n)
      (and_assoc (allows k y) (all_allow es cs) _)

  pub carries_none : (asked : ℕ) (met : Bool) → carries es asked met none ≡ (leb asked 0 && met)
  unfolding matches carries any_needed
  carries_none asked true = refl
  carries_none asked false = refl

  -- nothing more is asked for, and what is needed was met: a Should clause changes nothing
  pub carries_should : (q : Query) (cs : Clauses) → carries es 0 true (clause should q cs) ≡ carries es 0 true cs
  unfolding matches carries any_needed
  carries_should q cs = ap (λ (b : Bool). all_allow es cs && (b && true)) (le-leb 0 (bit (matches es q) + shoulds_true es cs) (omega arith) ∙ sym (le-leb 0 (shoulds_true es cs) (omega arith)))

  -- a Should or a MustNot whose query is false changes nothing either
  pub carries_optional : (k : ℕ) (q : Query) (cs : Clauses) (asked : ℕ) (met : Bool) → (eqb k should_tag || eqb k must_not_tag) ≡ true → matches es q ≡ false
      → carries es asked met (clause (kind_of k) q cs) ≡ carries es asked met cs
  unfolding matches carries any_needed
  carries_optional k q cs asked met h f = ⊎_elim (λ z. at_should (eqb-true k should_tag z)) (λ z. at_not (eqb-true k must_not_tag z)) (either (eqb k should_tag) (eqb k must_not_tag) h)
    where
      at_should : k ≡ should_tag → carries es asked met (clause (kind_of k) q cs) ≡ carries es asked met cs
      at_should e = rw (e, f, zero-add (shoulds_true es cs))

      at_not : k ≡ must_not_tag → carries es asked met (clause (kind_of k) q cs) ≡ carries es asked met cs
      at_not e = rw (e, f, zero-add (shoulds_true es cs))
