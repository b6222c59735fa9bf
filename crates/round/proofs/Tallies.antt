-- The loops over clauses that ask for their kinds: are all MustNot, how many are Should, is it one alone.
use mathlib.Core.Path.{◌≡◌, refl, sym, ap, ◌∙◌}
use Prim.Native.Nat.{ℕ, ◌+◌, ◌≤◌, ◌<◌}
use mathlib.Core.List.{List}
use mathlib.Core.Bool.{Bool, true, false}
use native.Mathlib.Omega.{arith}
use lib.ListN.{length, get_or}
use lib.Dec.{eqb}
use mir.Val.{bool_byte}
use borrow.Author.Tests.{eq-eqb, ne_eqb}
use Rattle.rules.specs.Bytes.{rest_of}
use Rattle.rules.specs.Query.{Kind, must, should, must_not, filter, Query, Clauses, none, clause}
use Rattle.rules.specs.Stored.{kind_tag, encodes}
use Rattle.rules.specs.Checked.{Are, StoredClauses}
use Rattle.rules.specs.Rewriting.{only_must_not, should_count, is_must_not, if_should}
use Rattle.rules.proofs.Stored.Views.{Front}
use Rattle.round.specs.Clauses.{is_one_clause}
use Rattle.merging.proofs.Forms.{are_same, front, no_clause, front_are}

-- ---- are all of them MustNot?

must_not_lem : (k : Kind) → kind_tag k ≡ 0x22 → is_must_not k ≡ true
must_not_lem must e = absurd (omega arith)
must_not_lem should e = absurd (omega arith)
must_not_lem must_not e = refl
must_not_lem filter e = absurd (omega arith)

must_not_no : (k : Kind) → (kind_tag k ≡ 0x22 → ⊥) → is_must_not k ≡ false
must_not_no must n = refl
must_not_no should n = refl
must_not_no must_not n = absurd (n refl)
must_not_no filter n = refl

pub record Negative (s t : List ℕ) : Type 0 where
  pub all : StoredClauses s
  pub left : StoredClauses t
  pub same : only_must_not all.clauses ≡ only_must_not left.clauses

module _ {s t : List ℕ} (g : Negative s t) where
  pub negative_front : 0 < length t → Front t g.left.clauses
  negative_front p = front g.left.are p

  pub negative_next : (p : 0 < length t) → get_or t 0 0 ≡ 0x22 → (u : List ℕ) → u ≡ rest_of t → Negative s u
  unfolding only_must_not
  negative_next p e u eu =
      let f = negative_front p in
      record {
        all = g.all;
        left = record { clauses = f.others; are = rw eu (front_are f) };
        same = g.same ∙ ap only_must_not f.split ∙ rw (must_not_lem f.kind (sym f.tag ∙ e));
      }

  pub negative_no : (p : 0 < length t) → (get_or t 0 0 ≡ 0x22 → ⊥) → (cs : Clauses) → Are s cs → false ≡ only_must_not cs
  unfolding only_must_not
  negative_no p n cs a =
      let f = negative_front p in
      sym (ap only_must_not (are_same a g.all.are) ∙ g.same ∙ ap only_must_not f.split ∙ rw (must_not_no f.kind (λ z. n (f.tag ∙ z))))

  pub negative_end : length t ≤ 0 → (cs : Clauses) → Are s cs → true ≡ only_must_not cs
  unfolding only_must_not
  negative_end p cs a = sym (ap only_must_not (are_same a g.all.are) ∙ g.same ∙ ap only_must_not (no_clause g.left.are p))

-- ---- how many are Should

should_bit : (k : Kind) → if_should k ≡ bool_byte (eqb (kind_tag k) 0x21)
should_bit must = refl
should_bit should = refl
should_bit must_not = refl
should_bit filter = refl

pub one_most : (n : ℕ) (b : Bool) → n ≡ bool_byte b → n ≤ 1
one_most n b e = rw e (elim b as (λ v. bool_byte v ≤ 1) [ true ↦ omega arith | false ↦ omega arith ])

pub record Counting (s t : List ℕ) (n : ℕ) : Type 0 where
  pub all : StoredClauses s
  pub left : StoredClauses t
  pub count : should_count all.clauses ≡ n + should_count left.clauses
  pub few : n + length t ≤ length s

module _ {s t : List ℕ} {n : ℕ} (g : Counting s t n) where
  pub counting_front : 0 < length t → Front t g.left.clauses
  counting_front p = front g.left.are p

  pub counting_next : (p : 0 < length t) (b : ℕ) → b ≡ bool_byte (eqb (get_or t 0 0) 0x21) → (u : List ℕ) → u ≡ rest_of t → length u < length t → Counting s u (n + b)
  unfolding should_count
  counting_next p b eb u eu lu =
      let f = counting_front p in
      let z : should_count g.left.clauses ≡ if_should f.kind + should_count f.others = ap should_count f.split in
      record {
        all = g.all;
        left = record { clauses = f.others; are = rw eu (front_are f) };
        count = omega (arith, g.count, should_bit f.kind, eb ∙ ap (λ (k : ℕ). bool_byte (eqb k 0x21)) f.tag);
        few = omega (arith, g.few, one_most b (eqb (get_or t 0 0) 0x21) eb);
      }

  pub counting_end : length t ≤ 0 → (cs : Clauses) → Are s cs → n ≡ should_count cs
  unfolding should_count
  counting_end p cs a =
      let z : should_count g.left.clauses ≡ 0 = ap should_count (no_clause g.left.are p) in
      omega (arith, g.count, ap should_count (are_same a g.all.are))

-- ---- is it one?

pub single_empty : {s : List ℕ} {cs : Clauses} → Are s cs → length s ≡ 0 → false ≡ is_one_clause cs
single_empty a h = sym (ap is_one_clause (no_clause a (omega arith)))

pub single_rest : {s : List ℕ} {cs : Clauses} → Are s cs → 0 < length s → (r : List ℕ) → r ≡ rest_of s → eqb (length r) 0 ≡ is_one_clause cs
unfolding encodes
single_rest {s} {cs} a p r er = let f = front a p in go f.kind f.query f.others (rw (← er) at (front_are f)) ∙ sym (ap is_one_clause f.split)
  where
    go : (k : Kind) (q : Query) (ds : Clauses) → Are r ds → eqb (length r) 0 ≡ is_one_clause (clause k q ds)
    go k q none b = eq-eqb (length r) 0 (sym (ap length b.form))
    go k q (clause j p ds) b = ne_eqb (length r) 0 (λ z. omega (arith, ap length b.form))
