-- A Boolean of clauses that had their own round: which step makes what of it, and how it is laid.
use mathlib.Core.Path.{◌≡◌, refl, sym, ap, ◌∙◌, subst}
use mathlib.Core.Logic.{◌⊎◌, inl, inr}
use Prim.Native.Nat.{ℕ, ◌+◌, ◌-◌, ◌≤◌, ◌<◌}
use mathlib.Core.List.{List, [], ◌++◌, append-nil}
use mathlib.Core.Bool.{Bool, true, false}
use native.Mathlib.Omega.{arith}
use lib.ListN.{length, get_or, take, drop, length-append}
use lib.Seq.{take-take}
use borrow.Author.Tests.{lt-ltb, le-ltb, le-leb, lt-leb}
use Rattle.rules.specs.Numbers.{boolean_tag, minimum_tag}
use Rattle.rules.specs.Bytes.{big, part}
use Rattle.rules.specs.Query.{Kind, Query, boolean, match_none, Clauses, none, clause}
use Rattle.rules.specs.Stored.{kind_tag, encode, encodes}
use Rattle.rules.specs.Checked.{Are}
use Rattle.rules.specs.Rewriting.{merged_boolean, lone, lone_or_merged, should_count, only_must_not, of_live, clause_counts, bulk, bulks}
use Rattle.rules.specs.Eating.{merged_clauses}
use Rattle.rules.proofs.Bools.{clash}
use Rattle.rules.proofs.Rewriting.Measures.{bulks_are}
use Rattle.rules.proofs.Rewriting.Bounds.{Bounded, BoundedAll, bounds_law}
use Rattle.rules.proofs.Rewriting.Walk.{merged_law}
use Rattle.rules.proofs.Rewriting.Eating.{boolean_merged}
use Rattle.numbers.specs.Laid.{Put, header}
use Rattle.places.specs.Within.{within, Stands}
use Rattle.round.specs.Clauses.{is_one_clause}
use Rattle.merging.specs.Merge.{Mergeable}
use Rattle.round.specs.Over.{Live, Lone}
use Rattle.places.proofs.Standing.{stands_before, second, both_length, split_at, within_length}
use Rattle.merging.proofs.Placed.{tag_at}

-- ---- the space that merging takes

pub merged_bulks : (strict : Bool) (m : ℕ) (cs : Clauses) → bulks (merged_clauses strict m cs) ≤ bulks cs
unfolding bulk
merged_bulks strict m cs =
    let h : bulk (boolean m (merged_clauses strict m cs)) ≤ bulk (boolean m cs) =
    subst (λ (x : Query). bulk x ≤ bulk (boolean m cs)) (boolean_merged strict m cs) (merged_law strict Bounded (λ m cs ds. BoundedAll cs ds) (bounds_law strict) m cs).in_bulk in
    omega arith

-- what stands at the front of the stretch that is lent
front_within : (room : List ℕ) (a e c : ℕ) → e ≤ c → within 0 (e - a) (within a c room) ≡ within a e room
front_within room a e c h = let z : e - a - 0 ≡ e - a = omega arith in ap (λ (n : ℕ). take n (within a c room)) z ∙ take-take (e - a) (c - a) (drop a room) (omega arith)

module _ {end m : ℕ} {room : List ℕ} (L : Live end m room) where
  pub lent_are : (cs : Clauses) → Are (within 8 end room) cs → Are (within 0 (end - 8) (within 8 (length room) room)) cs
  lent_are cs a = record { valid = a.valid; form = a.form ∙ sym (front_within room 8 end (length room) L.high) }

  sizes : end - 8 + clause_counts L.clauses ≡ bulks L.clauses
  sizes = omega (arith, bulks_are L.clauses, ap length L.are.form, within_length room 8 end L.low L.high)

  pub mergeable : Mergeable (end - 8) (within 8 (length room) room)
  mergeable =
      let z = sizes in
      let n = within_length room 8 (length room) (omega (arith, L.low, L.high)) (omega arith) in
      record {
        clauses = L.clauses;
        are = lent_are L.clauses L.are;
        fits = omega (arith, L.fits);
        small = omega (arith, L.small);
      }

  pub merged_small : (strict : Bool) → (8 + length (encodes (merged_clauses strict m L.clauses)) < 65536) × (8 + length (encodes (merged_clauses strict m L.clauses)) ≤ length room)
  merged_small strict =
      let b = merged_bulks strict m L.clauses in
      let l = bulks_are (merged_clauses strict m L.clauses) in
      omega (arith, L.small, L.fits)

-- ---- which step it is

module _ (strict : Bool) (m : ℕ) (cs : Clauses) where
  pub of_negative : only_must_not cs ≡ true → of_live strict m cs ≡ match_none
  unfolding of_live
  of_negative e = rw e

  pub of_few : only_must_not cs ≡ false → should_count cs < m → of_live strict m cs ≡ match_none
  unfolding of_live
  of_few e h = rw (e, lt-ltb (should_count cs) m h)

  of_rest : only_must_not cs ≡ false → m ≤ should_count cs → of_live strict m cs ≡ lone_or_merged strict m cs
  unfolding of_live
  of_rest e h = rw (e, le-ltb (should_count cs) m h)

  pub of_lone : only_must_not cs ≡ false → m ≤ should_count cs → m ≤ 1 → (k : Kind) (q : Query) → cs ≡ clause k q none → of_live strict m cs ≡ lone k q
  unfolding lone_or_merged
  of_lone e h l k q s = of_rest e h ∙ ap (lone_or_merged strict m) s ∙ rw (le-leb m 1 l)

  pub of_merged : only_must_not cs ≡ false → m ≤ should_count cs → (1 < m) ⊎ (is_one_clause cs ≡ false) → of_live strict m cs ≡ boolean m (merged_clauses strict m cs)
  unfolding lone_or_merged
  of_merged e h d = of_rest e h ∙ go cs d ∙ boolean_merged strict m cs
    where
      go : (cs : Clauses) → (1 < m) ⊎ (is_one_clause cs ≡ false) → lone_or_merged strict m cs ≡ merged_boolean strict m cs
      go none d = refl
      go (clause k q none) (inl l) = rw (lt-leb m 1 l)
      go (clause k q none) (inr n) = clash refl n
      go (clause k q (clause j p cs)) d = refl

pub single : (cs : Clauses) → is_one_clause cs ≡ true → (k : Kind) × (q : Query) × (cs ≡ clause k q none)
single none e = clash e refl
single (clause k q none) e = (k, q, refl)
single (clause k q (clause j p cs)) e = clash e refl

-- ---- a lone clause

pub record LoneAt (room : List ℕ) (end : ℕ) (k : Kind) (q : Query) : Type 0 where
  pub tag : get_or room 8 0 ≡ kind_tag k
  pub here : take (end - 11) (drop 11 room) ≡ encode q
  pub long : 11 + length (encode q) ≡ end

pub lone_at : (room : List ℕ) (end : ℕ) (k : Kind) (q : Query) → Are (within 8 end room) (clause k q none) → 8 ≤ end → end ≤ length room → LoneAt room end k q
unfolding encodes
lone_at room end k q a low fits =
    let e : within 8 end room ≡ header (kind_tag k) (length (encode q)) ++ (encode q ++ []) = sym a.form in
    let l = both_length room 8 end (header (kind_tag k) (length (encode q))) (encode q ++ []) low fits e in
    record {
      tag = tag_at room _ 8 (split_at room 8 end low ∙ ap {B = List ℕ} (λ s. s ++ drop end room) e);
      here = second room 8 end (header (kind_tag k) (length (encode q))) (encode q ++ []) low fits e ∙ append-nil (encode q);
      long = omega (arith, length-append (encode q) []);
    }

pub lone_of : {end m : ℕ} {room : List ℕ} (L : Live end m room) (k : Kind) (q : Query) → L.clauses ≡ clause k q none → Lone end room
lone_of {end} {m} {room} L k q e = record {
  kind = k;
  query = q;
  are = subst (λ (cs : Clauses). Are (within 8 end room) cs) e L.are;
  low = L.low;
  fits = L.high;
  small = omega (arith, L.small, bulks_are L.clauses, ap length L.are.form, within_length room 8 end L.low L.high);
}

-- ---- a merged Boolean

pub boolean_laid : {room room₁ room₂ room₃ : List ℕ} {n r u : ℕ} (m : ℕ) (cs : Clauses) → Stands 8 room n (encodes cs) room₁
    → Put room₁ 3 (part minimum_tag (big 2 m)) r room₂ → Put room₂ 0 (header boolean_tag (5 + n)) u room₃
    → 8 + n ≤ length room → Stands 0 room (8 + n) (encode (boolean m cs)) room₃
unfolding encode
boolean_laid {room} {room₁} {room₂} {room₃} {n = n} m cs M C D fits =
    let S₂ : Stands 3 room (5 + n) (part minimum_tag (big 2 m) ++ encodes cs) room₂ =
    rw C.bytes (stands_before 3 (part minimum_tag (big 2 m)) M refl fits) in
    let S₃ : Stands 0 room (3 + (5 + n)) (header boolean_tag (5 + n) ++ (part minimum_tag (big 2 m) ++ encodes cs)) room₃ =
    rw D.bytes (stands_before 0 (header boolean_tag (5 + n)) S₂ refl (omega arith)) in
    let e : 5 + n ≡ length (part minimum_tag (big 2 m) ++ encodes cs) = omega (arith, M.size, length-append (part minimum_tag (big 2 m)) (encodes cs)) in
    let y : 3 + (5 + n) ≡ 8 + n = omega arith in
    subst (λ (j : ℕ). Stands 0 room j (encode (boolean m cs)) room₃) y
    (subst (λ (k : ℕ). Stands 0 room (3 + (5 + n)) (header boolean_tag k ++ (part minimum_tag (big 2 m) ++ encodes cs)) room₃) e S₃)
