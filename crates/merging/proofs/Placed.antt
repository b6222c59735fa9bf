-- A clause and a query at places of a room: where their parts stand.
use mathlib.Core.Path.{◌≡◌, refl, sym, ap, ◌∙◌}
use Prim.Native.Nat.{ℕ, ◌+◌, ◌-◌, ◌≤◌, ◌<◌}
use mathlib.Core.List.{List, [], ◌++◌, append_assoc}
use mathlib.Core.Bool.{true}
use native.Mathlib.Omega.{arith}
use lib.ListN.{length, get_or, take, drop}
use lib.Seq.{get_or-drop}
use Rattle.rules.specs.Bytes.{part, tag_of, size_of, whole_of}
use Rattle.rules.specs.Query.{Kind, Query, Clauses, none, clause}
use Rattle.rules.specs.Stored.{kind_tag, encode, encodes, Valids}
use Rattle.rules.specs.Checked.{Is, Are}
use Rattle.rules.proofs.Stored.Parts.{whole_part, size_part}
use Rattle.numbers.specs.Laid.{header}
use Rattle.places.specs.Within.{within}
use Rattle.places.proofs.Standing.{split_at, first, second, both_length}

-- what is read at a place
pub tag_at : (room s : List ℕ) (t : ℕ) → drop t room ≡ s → get_or room t 0 ≡ tag_of s
tag_at room s t e = let z : t ≡ t + 0 = omega arith in ap (λ (i : ℕ). get_or room i 0) z ∙ sym (get_or-drop t room 0 0) ∙ ap tag_of e

-- a part from t on, and then r
pub record PartAt (room : List ℕ) (t : ℕ) (k : ℕ) (b : List ℕ) : Type 0 where
  pub tag : get_or room t 0 ≡ k
  pub whole : whole_of (drop t room) ≡ true
  pub size : size_of (drop t room) ≡ length b

pub part_at : (room : List ℕ) (t k : ℕ) (b r : List ℕ) → drop t room ≡ part k b ++ r → PartAt room t k b
part_at room t k b r e = record {
  tag = tag_at room (part k b ++ r) t e;
  whole = ap whole_of e ∙ whole_part k b r;
  size = ap size_of e ∙ size_part k b r;
}

-- the first of the clauses from t up to end
pub record ClauseAt (room : List ℕ) (t end : ℕ) (cs : Clauses) : Type 0 where
  pub kind : Kind
  pub query : Query
  pub others : Clauses
  pub split : cs ≡ clause kind query others
  pub part : PartAt room t (kind_tag kind) (encode query)
  pub top : t + 3 + length (encode query) ≤ end
  pub form : within t (t + 3 + length (encode query)) room ≡ Rattle.rules.specs.Bytes.part (kind_tag kind) (encode query)
  pub is : Is (within (t + 3) (t + 3 + length (encode query)) room) query
  pub are : Are (within (t + 3 + length (encode query)) end room) others

pub clause_at_lem : (room : List ℕ) (t end : ℕ) (cs : Clauses) → Are (within t end room) cs → t < end → end ≤ length room → ClauseAt room t end cs
unfolding encodes Valids
clause_at_lem room t end cs a h f = go cs a.valid (sym a.form)
  where
    go : (cs : Clauses) → Valids cs → within t end room ≡ encodes cs → ClauseAt room t end cs
    go none v e = absurd (omega (arith, both_length room t end [] [] (omega arith) f e))
    go (clause k q cs) v e =
        let n = length (encode q) in
        let hd = header (kind_tag k) n in
        let l = both_length room t end (part (kind_tag k) (encode q)) (encodes cs) (omega arith) f e in
        let g : t + 3 ≤ end = omega arith in
        let i : within (t + 3) end room ≡ encode q ++ encodes cs = second room t end hd (encode q ++ encodes cs) (omega arith) f e in
        let z : t + length (part (kind_tag k) (encode q)) ≡ t + 3 + n = omega arith in
        record {
          kind = k;
          query = q;
          others = cs;
          split = refl;
          part = part_at room t (kind_tag k) (encode q) (encodes cs ++ drop end room)
              (split_at room t end (omega arith) ∙ ap {B = List ℕ} (λ s. s ++ drop end room) e ∙ append_assoc (part (kind_tag k) (encode q)) (encodes cs) (drop end room));
          top = omega arith;
          form = ap (λ (j : ℕ). within t j room) (sym z) ∙ first room t end (part (kind_tag k) (encode q)) (encodes cs) (omega arith) f e;
          is = record { valid = v.0; form = sym (first room (t + 3) end (encode q) (encodes cs) g f i) };
          are = record { valid = v.1; form = sym (second room (t + 3) end (encode q) (encodes cs) g f i) };
        }

-- no clause is left
pub no_clause_at : (room : List ℕ) (t end : ℕ) (cs : Clauses) → Are (within t end room) cs → end ≤ t → cs ≡ none
unfolding encodes
no_clause_at room t end cs a h = go cs a.form
  where
    go : (cs : Clauses) → encodes cs ≡ within t end room → cs ≡ none
    go none e = refl
    go (clause k q cs) e =
        let z : end - t ≡ 0 = omega arith in
        absurd (omega (arith, ap length (e ∙ ap (λ (n : ℕ). take n (drop t room)) z)))

-- where the code says that the first clause ends
module _ {room : List ℕ} {t end : ℕ} {cs : Clauses} (c : ClauseAt room t end cs) (e : ℕ) (ee : e ≡ t + 3 + size_of (drop t room)) where
  pub clause_end : e ≡ t + 3 + length (encode c.query)
  clause_end = omega (arith, c.part.size)

  pub clause_is : Is (within (t + 3) e room) c.query
  clause_is = rw clause_end c.is

  pub clause_further : (t + 3 ≤ e) × (e ≤ end)
  clause_further = let z = clause_end in omega (arith, c.top)
